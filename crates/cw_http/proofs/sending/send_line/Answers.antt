use Rattle.cw_http.proofs.Exits.{on_err}
use Rattle.cw_http.proofs.Sendings.{waits_then, waits_failed, in_front_part}
use Rattle.cw_http.proofs.sending.send_line.Goals as goal

pub returns-in_err-named-clause-in_part : goal.returns-in_err-named-clause-in_part
returns-in_err-named-clause-in_part g c =
    on_err c.from_residual.result (in_front_part _ c.args.end.now _ _ (in_front_part _ c.args.value.now _ _ c.in_err-named.ensures.in_part))

pub returns-in_err-valued-clause-in_part : goal.returns-in_err-valued-clause-in_part
returns-in_err-valued-clause-in_part g c =
    on_err c.from_residual-in_err-valued.result
    (in_front_part _ c.args.end.now _ _ (waits_failed _ _ c.args.value.now _ _ _ c.in_ok-named.ensures.ok c.in_err-valued.ensures.in_part))

pub returns-in_err-ended-clause-in_part : goal.returns-in_err-ended-clause-in_part
returns-in_err-ended-clause-in_part g c =
    on_err c.from_residual-in_err-ended.result
    (waits_failed _ _ c.args.end.now _ _ _ (waits_then _ _ c.args.value.now _ _ _ _ c.in_ok-named.ensures.ok c.in_ok-valued.ensures.ok) c.in_err-ended.ensures.in_part)

pub returns-clause-ok : goal.returns-clause-ok
returns-clause-ok g c =
    waits_then _ _ c.args.end.now _ _ _ _ (waits_then _ _ c.args.value.now _ _ _ _ c.in_ok-named.ensures.ok c.in_ok-valued.ensures.ok) c.in_ok-ended.ensures.ok
