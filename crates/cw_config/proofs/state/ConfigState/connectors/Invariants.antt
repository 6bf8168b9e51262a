use Rattle.std.proofs.Common.{◌≡◌, map}
use Rattle.std.specs.List.{filter}
use Rattle.std.specs.Map.Iter.{deref}
use Rattle.cw_config.proofs.Names.{configured}
use Rattle.cw_config.proofs.state.ConfigState.connectors.Given as goal

-- of the names so far those that are configured
abbrev pub invariant-loop-name : goal.invariant-loop-name
invariant-loop-name l = l.names.items ≡ filter (configured l.self) (map deref l.yielded)
