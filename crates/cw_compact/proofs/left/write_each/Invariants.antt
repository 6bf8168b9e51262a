use Rattle.std.proofs.Common.{◌≡◌, map, take}
use Rattle.cw_offset.specs.Body.{entry_bytes}
use Rattle.cw_compact.specs.Bodies.{bodies_in}
use Rattle.cw_compact.proofs.left.write_each.Given as goal

abbrev pub invariant-loop-frame : goal.invariant-loop-frame
invariant-loop-frame l = bodies_in l.bodies.items ≡ map entry_bytes (take l.frame-index l.frames)
