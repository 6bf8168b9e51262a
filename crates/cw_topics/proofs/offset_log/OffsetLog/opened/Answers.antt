use Rattle.std.proofs.Common.{ap}
use Rattle.cw_bytes.specs.Frames.{joined}
use Rattle.cw_offset.specs.Calls.{Calls}
use Rattle.cw_topics.proofs.Told.{opened-log}
use Rattle.cw_topics.proofs.offset_log.OffsetLog.opened.Goals as goal

pub invariant_of-result : goal.invariant_of-result
invariant_of-result c =
    opened-log c.args.frames.now c.in_ok-frames.frames (joined c.args.txn.now) c.in_ok-state.state.calls c.next_of-next.result c.in_ok-frames.ensures
    (ap (λ (t : Calls). t.calls) c.in_ok-state.ensures) c.next_of-next.ensures
