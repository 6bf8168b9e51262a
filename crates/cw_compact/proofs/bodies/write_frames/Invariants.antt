use Rattle.std.proofs.Common.{◌≡◌, map, take}
use Rattle.cw_bytes.specs.Spelling.{records_bytes}
use Rattle.cw_compact.specs.Bodies.{bodies_in}
use Rattle.cw_compact.proofs.bodies.write_frames.Given as goal

abbrev pub invariant-loop-frame : goal.invariant-loop-frame
invariant-loop-frame l = bodies_in l.bodies.items ≡ map records_bytes (take l.frame-index l.frames)
