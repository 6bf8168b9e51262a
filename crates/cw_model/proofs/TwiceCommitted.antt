-- Of two offsets of one part that are committed and marked, the first goes: a key is read as its part's.
use Rattle.std.proofs.Common.{◌≡◌, true, false, ◌||◌, not, cond, List, [], ◌∷◌, drop, map, length, Ok, Option, Some, refl, ap, ◌∙◌, arith}
use Rattle.std.specs.Option.{option_map_or}
use Rattle.std.specs.List.{filter, flat_map}
use Rattle.cw_types.specs.Same.{same_part}
use Rattle.cw_types.specs.declared.ids.PartKey.{PartKey}
use Rattle.cw_types.specs.declared.logs.LogName.TheVariants.{Offsets}
use Rattle.cw_keys.specs.Parts.{part_of, part_text}
use Rattle.cw_keys.proofs.PartKeys.{part_again}
use Rattle.cw_txn.specs.declared.entry.Entry.{Entry}
use Rattle.cw_offset.specs.declared.body.OffsetEntry.{OffsetEntry}
use Rattle.cw_offset.specs.declared.body.OffsetEntry.TheVariants.{Records, Mark}
use Rattle.cw_offset.specs.Log.{offset_records}
use Rattle.cw_offset.specs.Compaction.{is_outdated, offset_goes, records_staying, offset_stays, compact_offsets}
use Rattle.cw_model.specs.EventsCompaction.{compact}
use Rattle.cw_model.specs.Cases.{answer_of, behind, twice_committed, part_s, tag_s, second_tag, offset_at}

abbrev entries : List Entry
entries = twice_committed.entries

abbrev log : List OffsetEntry
log = twice_committed.offsets.frames

read-key : part_of (part_text (part_s 0)) ≡ Some (part_s 0)
read-key = part_again (part_s 0) (refl, omega arith) refl

-- the part is replaced behind the first commit: the second one has a record of it
replaced : is_outdated entries log (tag_s 1) (part_s 0) ≡ true
replaced = ap (λ (o : Option PartKey). ((option_map_or (same_part (part_s 0)) o false || false) || false) || false) read-key

goes : offset_goes entries log (tag_s 1) (offset_at 0 2) ≡ true
goes = ap (λ (o : Option PartKey). option_map_or (is_outdated entries log (tag_s 1)) o false) read-key ∙ replaced

stays : offset_goes entries log second_tag (offset_at 1 3) ≡ false
stays = ap (λ (o : Option PartKey). option_map_or (is_outdated entries log second_tag) o false) read-key

kept : map (records_staying entries log) log ≡ Records (tag_s 1) [] ∷ Mark (record { tag = tag_s 1; committed = true }) ∷ drop 2 log
kept = λ i. Records (tag_s 1) (cond (not (goes i)) (offset_at 0 2 ∷ []) []) ∷ Mark (record { tag = tag_s 1; committed = true }) ∷
    Records second_tag (cond (not (stays i)) (offset_at 1 3 ∷ []) []) ∷ Mark (record { tag = second_tag; committed = true }) ∷ []

left : compact_offsets entries log ≡ drop 2 log
left = ap (λ l. filter (offset_stays l) l) kept

pub counts : answer_of (compact Offsets) twice_committed ≡ Ok (2, 1)
counts = ap (λ (l : List OffsetEntry). Ok (2, length (flat_map offset_records l))) left

pub frames : (behind (compact Offsets) twice_committed).offsets.frames ≡ drop 2 twice_committed.offsets.frames
frames = left
