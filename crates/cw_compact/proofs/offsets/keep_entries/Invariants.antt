use Rattle.std.proofs.Common.{◌≡◌}
use Rattle.std.specs.List.{filter}
use Rattle.cw_compact.specs.Filled.{stays_by}
use Rattle.cw_compact.proofs.offsets.keep_entries.Given as goal

abbrev pub invariant-loop-entry : goal.invariant-loop-entry
invariant-loop-entry l = l.kept.items ≡ filter (stays_by l.filled) l.yielded
