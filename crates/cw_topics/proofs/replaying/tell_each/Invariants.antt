use Rattle.std.proofs.Common.{◌≡◌, take}
use Rattle.cw_topics.specs.Replaying.{told_more}
use Rattle.cw_topics.proofs.Replays.{calls_of}
use Rattle.cw_topics.proofs.replaying.tell_each.Given as goal

abbrev pub invariant-loop-call : goal.invariant-loop-call
invariant-loop-call l = l.state ≡ told_more (calls_of (take l.call-index l.calls)) l.initial.state
