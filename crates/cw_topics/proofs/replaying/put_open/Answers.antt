use Rattle.std.proofs.Common.{take}
use Rattle.std.proofs.Common.{not}
use Rattle.std.specs.List.{flat_map}
use Rattle.cw_txn.specs.Legal.{is_committed}
use Rattle.cw_offset.specs.Replay.{puts_in}
use Rattle.cw_topics.proofs.Replays.{none-told, more-told, all-told, free-told, each-flat}
use Rattle.cw_topics.proofs.replaying.put_open.Goals as goal

pub loop-frame-init : goal.loop-frame-init
loop-frame-init c = none-told (flat_map (puts_in (λ tag. not (is_committed tag c.args.coordinator.now.entries)))) (puts_in (λ tag. not (is_committed tag c.args.coordinator.now.entries))) (each-flat (puts_in (λ tag. not (is_committed tag c.args.coordinator.now.entries)))) c.args.state.now c.args.frames.now c.requires

pub put_frame-requires : goal.put_frame-requires
put_frame-requires c = free-told (flat_map (puts_in (λ tag. not (is_committed tag c.args.coordinator.now.entries))) (take c.loop-frame.frame-index c.args.frames.now)) c.args.state.now c.loop-frame.state c.loop-frame.invariant

pub loop-frame-preserved : goal.loop-frame-preserved
loop-frame-preserved c =
    more-told (flat_map (puts_in (λ tag. not (is_committed tag c.args.coordinator.now.entries)))) (puts_in (λ tag. not (is_committed tag c.args.coordinator.now.entries))) (each-flat (puts_in (λ tag. not (is_committed tag c.args.coordinator.now.entries)))) c.args.state.now c.args.frames.now c.loop-frame.frame-index c.loop-frame.state c.loop-frame.invariant c.frame-item.result
    c.loop-frame-test.true c.frame-item.is c.put_frame.new.state c.in_ok-put_frame.ensures

pub returns : goal.returns
returns c = all-told (flat_map (puts_in (λ tag. not (is_committed tag c.args.coordinator.now.entries)))) (puts_in (λ tag. not (is_committed tag c.args.coordinator.now.entries))) (each-flat (puts_in (λ tag. not (is_committed tag c.args.coordinator.now.entries)))) c.args.state.now c.args.frames.now c.loop-frame.frame-index c.loop-frame.state c.loop-frame.invariant c.loop-frame-test.false
