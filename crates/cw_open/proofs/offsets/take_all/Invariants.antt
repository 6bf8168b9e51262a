use Rattle.cw_offset.specs.Acceptance.{IsAllowedOffset}
use Rattle.cw_open.proofs.Steps.{Walked}
use Rattle.cw_open.proofs.offsets.take_all.Given as goal

abbrev pub invariant-loop-at : goal.invariant-loop-at
invariant-loop-at l = Walked IsAllowedOffset l.initial.passed l.records l.at l.passed
