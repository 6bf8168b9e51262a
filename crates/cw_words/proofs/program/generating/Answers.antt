use Rattle.std.proofs.Common.{ap, ap₂, ◌∙◌}
use Rattle.std.proofs.lemmas.Result.{IfOk-weaker}
use Rattle.clap.specs.Words.{with_rule}
use Rattle.cw_words.specs.Program.{with_shared}
use Rattle.cw_words.proofs.Locals.{local_value}
use Rattle.cw_words.proofs.program.generating.Goals as goal

pub returns : goal.returns
returns c =
    let start = c.value.ensures in
    let count = c.value-2.ensures in
    let shared = c.in_ok-with_shared.ensures ∙ ap with_shared c.new.ensures.app in
    let first = c.in_ok-arg.ensures.shape (local_value c.value.result _ start) ∙ ap₂ with_rule shared start in
    IfOk-weaker c.arg-2.result _ _ (λ r added. added.shape (local_value c.value-2.result _ count)
    ∙ ap₂ with_rule first count) c.arg-2.ensures
