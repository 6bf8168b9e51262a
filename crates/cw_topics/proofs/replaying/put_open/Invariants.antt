use Rattle.std.proofs.Common.{◌≡◌, take}
use Rattle.std.proofs.Common.{not}
use Rattle.std.specs.List.{flat_map}
use Rattle.cw_txn.specs.Legal.{is_committed}
use Rattle.cw_offset.specs.Replay.{puts_in}
use Rattle.cw_topics.specs.Replaying.{told_more}
use Rattle.cw_topics.proofs.replaying.put_open.Given as goal

abbrev pub invariant-loop-frame : goal.invariant-loop-frame
invariant-loop-frame l = l.state ≡ told_more (flat_map (puts_in (λ tag. not (is_committed tag l.coordinator.entries))) (take l.frame-index l.frames)) l.initial.state
