use Rattle.std.proofs.Common.{[], unwrap_or, sym, ap, ◌∙◌}
use Rattle.http.specs.StatusCode.{reason_phrase}
use Rattle.cw_http.proofs.Phrases.{phrase_of, no_phrase}
use Rattle.cw_http.proofs.replying.phrase.Goals as goal

pub returns-in-Ok : goal.returns-in-Ok
returns-in-Ok c =
    c.reason.ensures ∙ ap (λ n. unwrap_or (reason_phrase n) []) c.in-Ok.ensures.1 ∙ sym (phrase_of c.args.code c.in-Ok.ensures.0)

pub returns-in-Err : goal.returns-in-Err
returns-in-Err c = sym (no_phrase c.args.code c.in-Err.ensures)
