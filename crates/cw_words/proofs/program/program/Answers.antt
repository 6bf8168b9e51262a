use Rattle.std.proofs.Common.{ap, ap₂, refl, ◌∙◌}
use Rattle.std.proofs.lemmas.Result.{IfOk-weaker}
use Rattle.clap.specs.Words.{App, with_subcommand}
use Rattle.cw_words.proofs.Locals.{local_app}
use Rattle.cw_words.proofs.program.program.Goals as goal

pub returns : goal.returns
returns c =
    let is_gen = c.in_ok-generating.ensures in
    let is_serve = c.in_ok-serving.ensures in
    let first = c.in_ok-subcommand.ensures.shape (local_app _ _ is_gen refl)
    ∙ ap₂ with_subcommand c.in_ok-offline.ensures (ap (λ (a : App). a.top) is_gen) in
    IfOk-weaker c.subcommand-2.result _ _ (λ r added. added.shape (local_app _ _ is_serve refl)
    ∙ ap₂ with_subcommand first (ap (λ (a : App). a.top) is_serve)) c.subcommand-2.ensures
