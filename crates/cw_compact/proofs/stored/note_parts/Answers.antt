use Rattle.std.proofs.Common.{◌||◌, List, ap, sym, ◌∙◌, arith}
use Rattle.std.specs.List.{list_any}
use Rattle.std.specs.BTreeSet.{contains}
use Rattle.std.proofs.lemmas.List.{take_all}
use Rattle.cw_bytes.specs.declared.applied.Applied.{Applied}
use Rattle.cw_types.specs.Same.{part_order}
use Rattle.cw_offset.specs.Compaction.{is_record_of}
use Rattle.cw_compact.proofs.Joined.{more}
use Rattle.cw_compact.proofs.StoredRows.{parts_more, or_none}
use Rattle.cw_compact.proofs.stored.note_parts.Goals as goal

pub loop-record-init : goal.loop-record-init
loop-record-init c = λ q. sym (or_none (contains part_order c.args.parts.now q))

pub loop-record-preserved : goal.loop-record-preserved
loop-record-preserved c = λ q.
    parts_more q (contains part_order c.args.parts.now q) (contains part_order c.loop-record.parts q) (contains part_order c.note_part.new.parts q) c.args.records.now c.loop-record.record-index c.record-item.result
    (more c.args.records.now c.loop-record.record-index c.record-item.result c.loop-record-test.true c.record-item.is) (c.loop-record.invariant q) (c.in_ok-note_part.ensures q)

pub returns : goal.returns
returns c = λ q. c.loop-record.invariant q ∙ ap (λ (l : List Applied). contains part_order c.args.parts.now q || list_any (is_record_of q) l) (take_all c.loop-record.record-index c.args.records.now (omega arith))
