use Rattle.cw_bytes.specs.Frames.{joined}
use Rattle.cw_topics.proofs.Replays.{all-replayed}
use Rattle.cw_topics.proofs.replaying.replay.Goals as goal

pub returns : goal.returns
returns c =
    all-replayed c.args.frames.now (joined c.args.txn.now) c.args.coordinator.now.entries c.requires c.new-state.result c.stand_each.new.state c.tell_list.new.state
    c.put_open.new.state c.mark_each.new.state c.new-state.ensures c.in_ok-stand_each.ensures c.in_ok-tell_list.ensures c.in_ok-put_open.ensures c.in_ok-mark_each.ensures
