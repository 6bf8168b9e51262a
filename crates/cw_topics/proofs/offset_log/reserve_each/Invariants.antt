use Rattle.std.proofs.Common.{◌≡◌, take}
use Rattle.cw_topics.proofs.offset_log.reserve_each.Given as goal

abbrev pub invariant-loop-call : goal.invariant-loop-call
invariant-loop-call l = l.state ≡ record { calls = l.initial.state.calls; reserved = take l.call-index l.calls }
