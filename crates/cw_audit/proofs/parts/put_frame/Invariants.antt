use Rattle.std.proofs.Common.{◌≡◌, take}
use Rattle.std.specs.List.{flat_map}
use Rattle.cw_audit.specs.Listed.{parts_of}
use Rattle.cw_audit.specs.Rows.{with_parts}
use Rattle.cw_audit.proofs.parts.put_frame.Given as goal

abbrev pub invariant-loop-entry : goal.invariant-loop-entry
invariant-loop-entry l = l.rows ≡ with_parts l.coordinator.entries (flat_map parts_of (take l.entry-index l.frame)) l.initial.rows
