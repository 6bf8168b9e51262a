use Rattle.std.proofs.Common.{◌≡◌, take}
use Rattle.cw_audit.specs.Rows.{with_ids}
use Rattle.cw_audit.proofs.ids.put_frame.Given as goal

abbrev pub invariant-loop-entry : goal.invariant-loop-entry
invariant-loop-entry l = l.rows ≡ with_ids l.group l.coordinator.entries (take l.entry-index l.frame) l.initial.rows
