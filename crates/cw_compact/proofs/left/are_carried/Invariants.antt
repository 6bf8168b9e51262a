use Rattle.std.proofs.Common.{take}
use Rattle.std.specs.List.{AllByRecursion}
use Rattle.cw_compact.specs.Bodies.{bodies_in}
use Rattle.cw_compact.specs.Left.{Fits}
use Rattle.cw_compact.proofs.left.are_carried.Given as goal

abbrev pub invariant-loop-body : goal.invariant-loop-body
invariant-loop-body l = AllByRecursion Fits (bodies_in (take l.body-index l.bodies))
