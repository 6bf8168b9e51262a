use Rattle.std.proofs.Common.{take, ◌∙◌}
use Rattle.cw_http.proofs.Exits.{on_err}
use Rattle.cw_http.proofs.Sendings.{part_of, waits_of}
use Rattle.cw_http.proofs.ReplyTexts.{length_is}
use Rattle.cw_http.proofs.replying.send_length.Goals as goal

pub returns-in_err-ended-clause-in_part : goal.returns-in_err-ended-clause-in_part
returns-in_err-ended-clause-in_part g c =
    on_err c.from_residual.result
    (part_of _ _ _ _
    (length_is c.args.code c.args.size (take c.args.count c.args.waiting.now) c.as_bytes-text.result.now c.if-code-eq204.false
    (c.as_bytes-text.ensures.value ∙ c.format.ensures.text)) c.in_err-ended.ensures.in_part)

pub returns-clause-ok : goal.returns-clause-ok
returns-clause-ok g c =
    waits_of _ _ _ _ _
    (length_is c.args.code c.args.size (take c.args.count c.args.waiting.now) c.as_bytes-text.result.now c.if-code-eq204.false
    (c.as_bytes-text.ensures.value ∙ c.format.ensures.text)) c.in_ok-ended.ensures.ok
