use Rattle.std.proofs.Common.{◌++◌, List, ℕ, codes, decimal, ap, ◌∙◌}
use Rattle.cw_http.specs.Replies.{phrase, line_end, status_line, close_line}
use Rattle.cw_http.proofs.Exits.{on_err}
use Rattle.cw_http.proofs.Sendings.{part_of, waits_of, in_front_part, failed_line, waits_line}
use Rattle.cw_http.proofs.ReplyTexts.{status_is}
use Rattle.cw_http.proofs.replying.send_status.Goals as goal

pub returns-in_err-begun-clause-in_part : goal.returns-in_err-begun-clause-in_part
returns-in_err-begun-clause-in_part g c =
    let begun : List ℕ = codes "HTTP/1.1 " ++ decimal c.args.code ++ codes " " in
    on_err c.from_residual.result (in_front_part _ (close_line c.args.close) _ _ (in_front_part _ line_end _ _ (in_front_part begun (phrase c.args.code) _ _
    (part_of _ begun _ _ (ap (λ xs. codes "HTTP/1.1 " ++ xs ++ codes " ") (c.as_bytes-text.ensures.value ∙ c.format.ensures.text)) c.in_err-begun.ensures.in_part))))

pub returns-in_err-ended-clause-in_part : goal.returns-in_err-ended-clause-in_part
returns-in_err-ended-clause-in_part g c =
    on_err c.from_residual-in_err-ended.result
    (part_of _ (status_line c.args.code ++ close_line c.args.close) _ _
    (status_is c.args.code c.args.close c.as_bytes-text.result.now c.as_bytes.result.now c.close_line.result.now
    (c.as_bytes-text.ensures.value ∙ c.format.ensures.text) (c.as_bytes.ensures.value ∙ c.phrase.ensures) c.close_line.ensures)
    (failed_line _ _ c.as_bytes.result.now line_end c.close_line.result.now _ _ _ c.in_ok-begun.ensures.ok c.in_err-ended.ensures.in_part))

pub returns-clause-ok : goal.returns-clause-ok
returns-clause-ok g c =
    waits_of _ (status_line c.args.code ++ close_line c.args.close) _ _ _
    (status_is c.args.code c.args.close c.as_bytes-text.result.now c.as_bytes.result.now c.close_line.result.now
    (c.as_bytes-text.ensures.value ∙ c.format.ensures.text) (c.as_bytes.ensures.value ∙ c.phrase.ensures) c.close_line.ensures)
    (waits_line _ _ c.as_bytes.result.now line_end c.close_line.result.now _ _ _ _ c.in_ok-begun.ensures.ok c.in_ok-ended.ensures.ok)
