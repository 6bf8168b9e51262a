use Rattle.std.proofs.Common.{sym, subst}
use Rattle.cw_model.specs.Lookups.{row_of}
use Rattle.cw_ticks.specs.Proposed.{AreFaultless}
use Rattle.cw_ticks.proofs.Faultless.{read-faultless}
use Rattle.cw_ticks.proofs.turns.leading_turn.Goals as goal

pub are_deferred-requires : goal.are_deferred-requires
are_deferred-requires c =
    let s = c.args.cluster.now.state in
    subst AreFaultless (sym c.config_of.ensures) (read-faultless (row_of c.args.w s).prefix s.configs c.requires.allowed)
