use Rattle.std.proofs.Common.{Option, ap, ◌∙◌}
use Rattle.std.specs.Option.{option_and_then}
use Rattle.cw_config.specs.declared.tables.Stored.{Stored}
use Rattle.cw_config.specs.View.{properties_in, deferred_of}
use Rattle.cw_config.specs.Tables.{value_in}
use Rattle.cw_config.proofs.Looks.{deferred_kept}
use Rattle.cw_config.proofs.state.ConfigState.deferred.Goals as goal

pub returns : goal.returns
returns c =
    c.properties_at.ensures ∙ ap (λ (o : Option Stored). option_and_then properties_in (value_in o)) c.deferred.ensures
    ∙ deferred_kept c.self.inside.tables c.self.inside.records.items c.self.invariant c.args.id.now ∙ ap (deferred_of c.args.id.now) c.self.view_is
