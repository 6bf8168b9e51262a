use Rattle.std.proofs.Common.{◌≡◌, take}
use Rattle.cw_topics.specs.Replaying.{told_more}
use Rattle.cw_topics.proofs.Replays.{stands_of}
use Rattle.cw_topics.proofs.replaying.stand_each.Given as goal

abbrev pub invariant-loop-frame : goal.invariant-loop-frame
invariant-loop-frame l = l.state ≡ told_more (stands_of (take l.frame-index l.frames)) l.initial.state
