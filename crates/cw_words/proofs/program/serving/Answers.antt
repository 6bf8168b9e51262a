use Rattle.std.proofs.Common.{ap, ap₂, ◌∙◌}
use Rattle.std.proofs.lemmas.Result.{IfOk-weaker}
use Rattle.clap.specs.Words.{with_rule}
use Rattle.cw_words.specs.Program.{with_shared}
use Rattle.cw_words.proofs.Locals.{local_option}
use Rattle.cw_words.proofs.program.serving.Goals as goal

pub returns : goal.returns
returns c =
    let workers = c.option.ensures in
    let runners = c.option-2.ensures in
    let handlers = c.option-3.ensures in
    let conns = c.option-4.ensures in
    let shared = c.in_ok-with_shared.ensures ∙ ap with_shared c.new.ensures.app in
    let first = c.in_ok-arg.ensures.shape (local_option c.option.result _ _ workers) ∙ ap₂ with_rule shared workers in
    let second = c.in_ok-arg-2.ensures.shape (local_option c.option-2.result _ _ runners) ∙ ap₂ with_rule first runners in
    let third = c.in_ok-arg-3.ensures.shape (local_option c.option-3.result _ _ handlers) ∙ ap₂ with_rule second handlers in
    IfOk-weaker c.arg-4.result _ _ (λ r added. added.shape (local_option c.option-4.result _ _ conns)
    ∙ ap₂ with_rule third conns) c.arg-4.ensures
