use Rattle.std.proofs.Common.{◌≡◌, ◌++◌, take}
use Rattle.cw_topics.proofs.Taking.{listed}
use Rattle.cw_topics.proofs.opened.take_frame.Given as goal

abbrev pub invariant-loop-entry : goal.invariant-loop-entry
invariant-loop-entry l = l.coordinator ≡ listed (l.initial.coordinator.entries ++ take l.entry-index l.frame)
