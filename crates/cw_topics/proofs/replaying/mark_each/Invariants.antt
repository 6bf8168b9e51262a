use Rattle.std.proofs.Common.{◌≡◌, take}
use Rattle.std.specs.List.{flat_map}
use Rattle.cw_offset.specs.Log.{marks_in}
use Rattle.cw_topics.specs.Replaying.{told_more}
use Rattle.cw_topics.proofs.replaying.mark_each.Given as goal

abbrev pub invariant-loop-frame : goal.invariant-loop-frame
invariant-loop-frame l = l.state ≡ told_more (flat_map marks_in (take l.frame-index l.frames)) l.initial.state
