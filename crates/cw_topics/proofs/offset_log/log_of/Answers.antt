use Rattle.std.proofs.Common.{List, ap, subst, ◌∙◌}
use Rattle.std.specs.List.{flat_map}
use Rattle.cw_bytes.specs.Frames.{joined, next_after}
use Rattle.cw_offset.specs.Calls.{Calls}
use Rattle.cw_offset.specs.Log.{offset_records}
use Rattle.cw_offset.specs.Replay.{replayed}
use Rattle.cw_offset.specs.declared.body.OffsetEntry.{OffsetEntry}
use Rattle.cw_topics.specs.Offsets.{IsNext}
use Rattle.cw_topics.proofs.Told.{opened-log}
use Rattle.cw_topics.proofs.offset_log.log_of.Goals as goal

pub invariant_of-result : goal.invariant_of-result
invariant_of-result c =
    opened-log c.args.frames.items c.in_ok-frames.frames (joined c.args.txn.now) c.in_ok-state.state.calls c.next_of-next.result c.in_ok-frames.ensures
    (ap (λ (t : Calls). t.calls) c.in_ok-state.ensures ∙ ap (λ (l : List OffsetEntry). replayed (joined c.args.txn.now) l) c.as_slice.ensures.value)
    (subst (λ (l : List OffsetEntry). IsNext (next_after (flat_map offset_records l)) c.next_of-next.result) c.as_slice-2.ensures.value c.next_of-next.ensures)
