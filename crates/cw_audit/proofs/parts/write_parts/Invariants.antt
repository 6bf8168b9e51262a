use Rattle.std.proofs.Common.{◌≡◌, [], take}
use Rattle.std.specs.List.{flat_map}
use Rattle.cw_bytes.specs.Frames.{joined}
use Rattle.cw_audit.specs.Listed.{parts_of}
use Rattle.cw_audit.specs.Rows.{with_parts}
use Rattle.cw_audit.proofs.parts.write_parts.Given as goal

abbrev pub invariant-loop-frame : goal.invariant-loop-frame
invariant-loop-frame l = l.rows ≡ with_parts l.coordinator.entries (flat_map parts_of (joined (take l.frame-index l.frames))) []
