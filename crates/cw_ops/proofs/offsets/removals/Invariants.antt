use Rattle.std.proofs.Common.{◌≡◌, ◌++◌, drop}
use Rattle.cw_rest.specs.Operations as operation
use Rattle.cw_ops.proofs.offsets.removals.Given as goal

abbrev pub invariant-loop-part : goal.invariant-loop-part
invariant-loop-part l = l.list.items ++ operation.removals (drop l.part-index l.parts) ≡ operation.removals l.parts
