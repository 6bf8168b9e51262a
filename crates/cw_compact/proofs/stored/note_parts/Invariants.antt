use Rattle.std.proofs.Common.{◌≡◌, ◌||◌, take}
use Rattle.std.specs.List.{list_any}
use Rattle.std.specs.BTreeSet.{contains}
use Rattle.cw_types.specs.declared.ids.PartKey.{PartKey}
use Rattle.cw_types.specs.Same.{part_order}
use Rattle.cw_offset.specs.Compaction.{is_record_of}
use Rattle.cw_compact.proofs.stored.note_parts.Given as goal

abbrev pub invariant-loop-record : goal.invariant-loop-record
invariant-loop-record l = (q : PartKey) → contains part_order l.parts q ≡ (contains part_order l.initial.parts q || list_any (is_record_of q) (take l.record-index l.records))
