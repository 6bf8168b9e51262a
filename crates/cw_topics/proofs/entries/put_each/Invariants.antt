use Rattle.cw_topics.proofs.Putting.{IsPut}
use Rattle.cw_topics.proofs.entries.put_each.Given as goal

abbrev pub invariant-loop-entry : goal.invariant-loop-entry
invariant-loop-entry l = IsPut l.initial.coordinator.entries l.entries l.entry-index l.coordinator
