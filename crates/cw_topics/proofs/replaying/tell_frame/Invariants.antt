use Rattle.std.proofs.Common.{◌≡◌, take}
use Rattle.std.specs.List.{flat_map}
use Rattle.cw_offset.specs.Replay.{calls_at}
use Rattle.cw_topics.specs.Replaying.{told_more}
use Rattle.cw_topics.proofs.replaying.tell_frame.Given as goal

abbrev pub invariant-loop-entry : goal.invariant-loop-entry
invariant-loop-entry l = l.state ≡ told_more (flat_map (calls_at l.log) (take l.entry-index l.frame)) l.initial.state
