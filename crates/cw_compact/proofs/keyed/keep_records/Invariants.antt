use Rattle.std.proofs.Common.{◌≡◌}
use Rattle.std.specs.List.{filter}
use Rattle.cw_compact.specs.Lasts.{stays}
use Rattle.cw_compact.proofs.keyed.keep_records.Given as goal

abbrev pub invariant-loop-record : goal.invariant-loop-record
invariant-loop-record l = l.kept.items ≡ filter (stays l.lasts) l.yielded
