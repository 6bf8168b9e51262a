use Rattle.std.proofs.Common.{◌≡◌, Bool, true, not, ◌&&◌, ap, sym, ◌∙◌}
use Rattle.std.specs.Option.{is_some}
use Rattle.cw_config.specs.View.{is_pending}
use Rattle.cw_config.specs.Tables.{generation_at, if_later, named_at}
use Rattle.cw_config.proofs.Looks.{pending_kept}
use Rattle.cw_config.proofs.state.ConfigState.is_pending.Goals as goal

pub returns-then-is_some : goal.returns-then-is_some
returns-then-is_some c =
    let tables = c.self.inside.tables in
    let name = c.args.name.now in
    let is : is_some (generation_at tables name) ≡ true = cc in
    ap not c.is_fenced.ensures
    ∙ sym (ap (λ (b : Bool). b && not (is_some (if_later (generation_at tables name) (named_at tables.fences name)))) is)
    ∙ pending_kept tables c.self.inside.records.items c.self.invariant name ∙ ap (is_pending name) c.self.view_is
