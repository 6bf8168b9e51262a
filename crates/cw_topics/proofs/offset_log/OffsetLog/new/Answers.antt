use Rattle.std.proofs.Common.{[], List, sym, ap, subst}
use Rattle.std.specs.List.{flat_map}
use Rattle.cw_bytes.specs.Frames.{next_after}
use Rattle.cw_offset.specs.Calls.{Calls}
use Rattle.cw_offset.specs.declared.body.OffsetEntry.{OffsetEntry}
use Rattle.cw_offset.specs.Log.{offset_records}
use Rattle.cw_topics.specs.Offsets.{AreTold}
use Rattle.cw_topics.proofs.Told.{none-told}
use Rattle.cw_topics.proofs.offset_log.OffsetLog.new.Goals as goal

pub invariant_of-result : goal.invariant_of-result
invariant_of-result c = record {
  next_is = sym (ap (λ (l : List OffsetEntry). next_after (flat_map offset_records l)) c.new.ensures);
  told = subst (λ (l : List OffsetEntry). AreTold l c.new-2.result.calls) (sym c.new.ensures)
      (subst (λ (t : Calls). AreTold [] t.calls) (sym c.new-2.ensures) none-told);
}
