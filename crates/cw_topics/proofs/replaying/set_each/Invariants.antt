use Rattle.std.proofs.Common.{◌≡◌, take}
use Rattle.std.proofs.Common.{map}
use Rattle.cw_topics.specs.Replaying.{told_more}
use Rattle.cw_topics.proofs.Replays.{set_of}
use Rattle.cw_topics.proofs.replaying.set_each.Given as goal

abbrev pub invariant-loop-set : goal.invariant-loop-set
invariant-loop-set l = l.state ≡ told_more (map set_of (take l.set-index l.list)) l.initial.state
