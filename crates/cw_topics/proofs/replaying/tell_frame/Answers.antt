use Rattle.std.proofs.Common.{take}
use Rattle.std.specs.List.{flat_map}
use Rattle.cw_offset.specs.Replay.{calls_at}
use Rattle.cw_topics.proofs.Replays.{none-told, more-told, all-told, free-told, each-flat}
use Rattle.cw_topics.proofs.replaying.tell_frame.Goals as goal

pub loop-entry-init : goal.loop-entry-init
loop-entry-init c = none-told (flat_map (calls_at c.args.log.now)) (calls_at c.args.log.now) (each-flat (calls_at c.args.log.now)) c.args.state.now c.args.frame.now c.requires.free

pub tell_entry-requires-clause-free : goal.tell_entry-requires-clause-free
tell_entry-requires-clause-free c = free-told (flat_map (calls_at c.args.log.now) (take c.loop-entry.entry-index c.args.frame.now)) c.args.state.now c.loop-entry.state c.loop-entry.invariant

pub loop-entry-preserved : goal.loop-entry-preserved
loop-entry-preserved c =
    more-told (flat_map (calls_at c.args.log.now)) (calls_at c.args.log.now) (each-flat (calls_at c.args.log.now)) c.args.state.now c.args.frame.now c.loop-entry.entry-index c.loop-entry.state c.loop-entry.invariant c.entry-item.result
    c.loop-entry-test.true c.entry-item.is c.tell_entry.new.state c.in_ok-tell_entry.ensures

pub returns : goal.returns
returns c = all-told (flat_map (calls_at c.args.log.now)) (calls_at c.args.log.now) (each-flat (calls_at c.args.log.now)) c.args.state.now c.args.frame.now c.loop-entry.entry-index c.loop-entry.state c.loop-entry.invariant c.loop-entry-test.false
