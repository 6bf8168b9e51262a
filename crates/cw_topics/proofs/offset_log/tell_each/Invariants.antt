use Rattle.cw_topics.proofs.Told.{IsMade}
use Rattle.cw_topics.proofs.offset_log.tell_each.Given as goal

abbrev pub invariant-loop-call : goal.invariant-loop-call
invariant-loop-call l = IsMade l.initial.state.calls l.calls l.call-index l.state
