use Rattle.std.proofs.Common.{◌≡◌, take}
use Rattle.cw_topics.proofs.entries.reserve_each.Given as goal

abbrev pub invariant-loop-entry : goal.invariant-loop-entry
invariant-loop-entry l = l.coordinator ≡ record { entries = l.initial.coordinator.entries; reserved = take l.entry-index l.entries }
