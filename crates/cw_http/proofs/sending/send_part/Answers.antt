use Rattle.std.proofs.Common.{◌++◌, take}
use Rattle.cw_http.proofs.Exits.{on_err}
use Rattle.cw_http.proofs.Sendings.{waits_sent, sent_whole, waits_more, in_front_part, in_second_part}
use Rattle.cw_http.proofs.sending.send_part.Goals as goal

pub returns-in_err-send_all-clause-in_part : goal.returns-in_err-send_all-clause-in_part
returns-in_err-send_all-clause-in_part g c =
    on_err c.from_residual.result (in_front_part (take c.args.count c.args.waiting.now) c.args.part.now _ _ c.in_err-send_all.ensures.in_part)

pub returns-in_err-send_all-2-clause-in_part : goal.returns-in_err-send_all-2-clause-in_part
returns-in_err-send_all-2-clause-in_part g c =
    on_err c.from_residual-in_err-send_all-2.result
    (in_second_part (take c.args.count c.args.waiting.now) c.args.part.now _ _ _ c.in_ok-send_all.ensures.whole c.in_err-send_all-2.ensures.in_part)

pub returns-clause-ok : goal.returns-clause-ok
returns-clause-ok g c =
    waits_sent (take c.args.count c.args.waiting.now ++ c.args.part.now) (g.L.Link.held c.args.link.now) (g.L.Link.held c.send_all-2.new.link)
    (sent_whole (take c.args.count c.args.waiting.now ++ c.args.part.now) c.args.part.now _ (g.L.Link.held c.send_all.new.link) _
    (waits_more (take c.args.count c.args.waiting.now) _ c.args.part.now _ _ (waits_sent (take c.args.count c.args.waiting.now) _ _ c.in_ok-send_all.ensures.whole))
    c.in_ok-send_all-2.ensures.whole)
