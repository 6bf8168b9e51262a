use Rattle.std.proofs.Common.{ap, ap₂, refl, ◌∙◌}
use Rattle.std.proofs.lemmas.Result.{IfOk-weaker}
use Rattle.clap.specs.Words.{App, with_subcommand}
use Rattle.cw_words.proofs.Locals.{local_app}
use Rattle.cw_words.proofs.program.offline.Goals as goal

pub returns : goal.returns
returns c =
    let is_drive = c.in_ok-drive.ensures in
    let is_audit = c.in_ok-audit.ensures in
    let first = c.in_ok-subcommand.ensures.shape (local_app _ _ is_drive refl)
    ∙ ap₂ with_subcommand c.named.ensures (ap (λ (a : App). a.top) is_drive) in
    IfOk-weaker c.subcommand-2.result _ _ (λ r added. added.shape (local_app _ _ is_audit refl)
    ∙ ap₂ with_subcommand first (ap (λ (a : App). a.top) is_audit)) c.subcommand-2.ensures
