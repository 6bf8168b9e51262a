use Rattle.std.proofs.Common.{ℕ, take}
use Rattle.cw_topics.specs.Offsets.{IsNext, raised}
use Rattle.cw_topics.proofs.offset_log.raised.Given as goal

abbrev pub invariant-loop-record : goal.invariant-loop-record
invariant-loop-record l = (n : ℕ) → IsNext n l.fn.next → IsNext (raised n (take l.record-index l.records)) l.end
