use Rattle.std.proofs.Common.{◌≡◌, ◌+◌, drop}
use Rattle.cw_log.specs.Log.{length_of}
use Rattle.cw_log.specs.Compaction.{bodies_in}
use Rattle.cw_log.proofs.compact.total_of.Given as goal

abbrev pub invariant-loop-body : goal.invariant-loop-body
invariant-loop-body l = l.total + length_of (bodies_in (drop l.body-index l.bodies)) ≡ 17 + length_of (bodies_in l.bodies)
