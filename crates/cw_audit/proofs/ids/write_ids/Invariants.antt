use Rattle.std.proofs.Common.{◌≡◌, [], take}
use Rattle.cw_bytes.specs.Frames.{joined}
use Rattle.cw_audit.specs.Rows.{with_ids}
use Rattle.cw_audit.proofs.ids.write_ids.Given as goal

abbrev pub invariant-loop-frame : goal.invariant-loop-frame
invariant-loop-frame l = l.rows ≡ with_ids l.group l.coordinator.entries (joined (take l.frame-index l.frames)) []
