use Rattle.std.proofs.Common.{◌≡◌, Bool, IfOk, subst, ap, ◌∙◌}
use Rattle.cw_config.specs.Acceptance.{has_tasks}
use Rattle.cw_config.specs.Tables.{have_tasks}
use Rattle.cw_config.proofs.Looks.{have_kept}
use Rattle.cw_config.proofs.state.ConfigState.has_tasks.Goals as goal

pub returns : goal.returns
returns c =
    let same : have_tasks c.self.inside.tables c.args.name.now c.args.count ≡ has_tasks c.args.name.now c.args.count c.args.self.now =
    have_kept c.self.inside.tables c.self.inside.records.items c.self.invariant c.args.name.now c.args.count ∙ ap (has_tasks c.args.name.now c.args.count) c.self.view_is in
    subst (λ (b : Bool). IfOk c.has_tasks.result (λ (v : Bool). v ≡ b)) same c.has_tasks.ensures
