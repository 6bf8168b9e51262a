use Rattle.std.proofs.Common.{◌≡◌, map, take}
use Rattle.cw_audit.specs.Rows.{with_parts}
use Rattle.cw_audit.proofs.parts.put_offsets.Given as goal

abbrev pub invariant-loop-set : goal.invariant-loop-set
invariant-loop-set l = l.rows ≡ with_parts l.coordinator.entries (map (λ set. set.part) (take l.set-index l.list)) l.initial.rows
