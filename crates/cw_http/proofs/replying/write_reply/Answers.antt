use Rattle.std.proofs.Common.{◌++◌, length, ap, ◌∙◌}
use Rattle.cw_io.specs.Told.{with_back}
use Rattle.cw_http.specs.Replies.{line_end, status_line, close_line, length_line, type_line, reply_text}
use Rattle.cw_http.proofs.Exits.{on_err}
use Rattle.cw_http.proofs.Sendings.{part_of, in_front_part, waits_then, waits_failed, failed_line, waits_line, sent_whole, sent_in_part}
use Rattle.cw_http.proofs.ReplyTexts.{reply_is}
use Rattle.cw_http.proofs.replying.write_reply.Goals as goal

pub returns-in_err-status-clause-in_part : goal.returns-in_err-status-clause-in_part
returns-in_err-status-clause-in_part g c =
    let reply = c.args.reply.now in
    on_err c.from_residual.result
    (in_front_part _ reply.body _ _ (in_front_part _ line_end _ _ (in_front_part _ (type_line reply.code (length reply.body)) _ _
    (in_front_part _ (length_line reply.code (length reply.body)) _ _ c.in_err-status.ensures.in_part))))

pub returns-in_err-length-clause-in_part : goal.returns-in_err-length-clause-in_part
returns-in_err-length-clause-in_part g c =
    let reply = c.args.reply.now in
    let front = status_line reply.code ++ close_line c.args.close in
    on_err c.from_residual-in_err-length.result
    (in_front_part _ reply.body _ _ (in_front_part _ line_end _ _ (in_front_part _ (type_line reply.code (length reply.body)) _ _
    (part_of _ _ _ _ (ap (λ xs. front ++ length_line reply.code (length xs)) c.as_slice-body.ensures)
    (waits_failed front _ (length_line reply.code (length c.as_slice-body.result.now)) _ _ _ c.in_ok-status.ensures.ok c.in_err-length.ensures.in_part)))))

pub returns-in_err-whole-clause-in_part : goal.returns-in_err-whole-clause-in_part
returns-in_err-whole-clause-in_part g c =
    let reply = c.args.reply.now in
    let body = c.as_slice-body.result.now in
    on_err c.from_residual-in_err-whole.result
    (part_of _ (reply_text reply c.args.close) _ _
    (reply_is reply c.args.close c.type_line-kind.result.now body c.as_slice-body.ensures c.type_line-kind.ensures)
    (failed_line _ _ c.type_line-kind.result.now line_end body _ _ _
    (waits_then _ _ (length_line reply.code (length body)) _ _ _ _ c.in_ok-status.ensures.ok c.in_ok-length.ensures.ok) c.in_err-whole.ensures.in_part))

pub returns-in_err-send_all-clause-in_part : goal.returns-in_err-send_all-clause-in_part
returns-in_err-send_all-clause-in_part g c =
    let reply = c.args.reply.now in
    let body = c.as_slice-body.result.now in
    on_err c.from_residual-in_err-send_all.result
    (part_of _ (reply_text reply c.args.close) _ _
    (reply_is reply c.args.close c.type_line-kind.result.now body c.as_slice-body.ensures c.type_line-kind.ensures)
    (sent_in_part _ _ _ _ _
    (waits_line _ _ c.type_line-kind.result.now line_end body _ _ _ _
    (waits_then _ _ (length_line reply.code (length body)) _ _ _ _ c.in_ok-status.ensures.ok c.in_ok-length.ensures.ok) c.in_ok-whole.ensures.ok)
    c.in_err-send_all.ensures.in_part))

pub returns-clause-whole : goal.returns-clause-whole
returns-clause-whole g c =
    let reply = c.args.reply.now in
    let body = c.as_slice-body.result.now in
    sent_whole _ _ _ _ _
    (waits_line _ _ c.type_line-kind.result.now line_end body _ _ _ _
    (waits_then _ _ (length_line reply.code (length body)) _ _ _ _ c.in_ok-status.ensures.ok c.in_ok-length.ensures.ok) c.in_ok-whole.ensures.ok)
    c.in_ok-send_all.ensures.whole
    ∙ ap (λ text. with_back text (g.L.Link.held c.args.link.now))
    (reply_is reply c.args.close c.type_line-kind.result.now body c.as_slice-body.ensures c.type_line-kind.ensures)
