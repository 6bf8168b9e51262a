use Rattle.std.proofs.Common.{◌++◌, ◌∷◌, ◌||◌, [], true, List, ap, sym, subst, ◌∙◌, refl}
use Rattle.std.specs.List.{list_any}
use Rattle.std.specs.BTreeSet.{contains}
use Rattle.cw_types.specs.Same.{part_order}
use Rattle.cw_bytes.specs.declared.applied.Applied.{Applied}
use Rattle.cw_offset.specs.declared.body.OffsetEntry.{OffsetEntry}
use Rattle.cw_offset.specs.Compaction.{is_record_of}
use Rattle.cw_compact.specs.declared.stored.StoredTag.{StoredTag}
use Rattle.cw_compact.specs.Stored.{AreStored}
use Rattle.cw_compact.proofs.StoredRows.{records_noted, mark_noted}
use Rattle.cw_compact.proofs.stored.Stored.note.Goals as goal

pub returns-in_ok-put-in-Records : goal.returns-in_ok-put-in-Records
returns-in_ok-put-in-Records c = λ log before.
    let row : StoredTag = record { marked = c.take-row.result.marked; parts = c.note_parts.new.parts } in
    subst (λ (e : OffsetEntry). AreStored c.put.new.self.rows (log ++ e ∷ [])) (sym c.in-Records.is)
    (records_noted log c.args.self.now.rows c.take-row.new.self.rows c.put.new.self.rows before c.in-Records.tag c.in-Records.records c.take-row.result row c.take-row.ensures c.in_ok-put-in-Records.ensures refl
    (λ q. c.in_ok-note_parts-in-Records.ensures q ∙ ap (λ (l : List Applied). contains part_order c.take-row.result.parts q || list_any (is_record_of q) l) c.as_slice.ensures))

pub returns-in_ok-put-in-Mark : goal.returns-in_ok-put-in-Mark
returns-in_ok-put-in-Mark c = λ log before.
    let row : StoredTag = record { marked = true; parts = c.take.result.parts } in
    subst (λ (e : OffsetEntry). AreStored c.put-in-Mark.new.self.rows (log ++ e ∷ [])) (sym c.in-Mark.is)
    (mark_noted log c.args.self.now.rows c.take.new.self.rows c.put-in-Mark.new.self.rows before c.in-Mark.mark c.take.result row c.take.ensures c.in_ok-put-in-Mark.ensures refl refl)
