use Rattle.std.proofs.Common.{◌≡◌, take}
use Rattle.cw_topics.specs.Replaying.{told_more}
use Rattle.cw_topics.proofs.Replays.{list_calls}
use Rattle.cw_topics.proofs.replaying.tell_list.Given as goal

abbrev pub invariant-loop-frame : goal.invariant-loop-frame
invariant-loop-frame l = l.state ≡ told_more (list_calls l.log (take l.frame-index l.txn)) l.initial.state
