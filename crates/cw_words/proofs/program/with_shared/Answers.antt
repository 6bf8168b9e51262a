use Rattle.std.proofs.Common.{ap₂, refl, ◌∙◌}
use Rattle.std.proofs.lemmas.Result.{IfOk-weaker}
use Rattle.clap.specs.Words.{with_rule}
use Rattle.cw_words.proofs.Locals.{local_option}
use Rattle.cw_words.proofs.program.with_shared.Goals as goal

pub returns : goal.returns
returns c =
    let first = c.in_ok-arg.ensures.shape (local_option c.option.result _ _ c.option.ensures) in
    let second = c.option-2.ensures in
    IfOk-weaker c.arg-2.result _ _ (λ r added. added.shape (local_option c.option-2.result _ _ second)
    ∙ ap₂ with_rule (first ∙ ap₂ with_rule refl c.option.ensures) second) c.arg-2.ensures
