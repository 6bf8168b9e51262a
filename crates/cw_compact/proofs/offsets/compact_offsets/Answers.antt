use Rattle.std.proofs.Common.{◌≡◌, List, map, ap, subst, ◌∙◌}
use Rattle.std.specs.List.{filter}
use Rattle.std.specs.BTreeSet.{contains}
use Rattle.cw_types.specs.declared.ids.Tag.{Tag}
use Rattle.cw_types.specs.Same.{tag_order}
use Rattle.cw_keys.proofs.Choice.{if_ok}
use Rattle.cw_bytes.specs.Frames.{joined}
use Rattle.cw_txn.specs.declared.entry.Entry.{Entry}
use Rattle.cw_offset.specs.declared.body.OffsetEntry.{OffsetEntry}
use Rattle.cw_offset.specs.Log.{has_records}
use Rattle.cw_offset.specs.Compaction.{compact_offsets, records_staying, offset_stays, is_filled}
use Rattle.cw_compact.specs.Stored.{AreStored}
use Rattle.cw_compact.specs.Outcomes.{AreOutcomes}
use Rattle.cw_compact.proofs.FilledTags.{all_stay}
use Rattle.cw_compact.proofs.offsets.compact_offsets.Goals as goal

pub returns : goal.returns
returns c =
    let log : List OffsetEntry = c.args.log.items in
    let entries : List Entry = joined c.args.txn.now in
    let whole : List OffsetEntry = map (records_staying entries log) log in
    let stored : AreStored c.in_ok-stored.stored.rows log = subst (AreStored c.in_ok-stored.stored.rows) c.as_slice.ensures.value c.in_ok-stored.ensures in
    let outcomes : AreOutcomes c.in_ok-outcomes.outcomes log entries = c.in_ok-outcomes.ensures log stored in
    let kept : c.in_ok-kept.kept.items ≡ whole = c.in_ok-kept.ensures log entries outcomes in
    let known : (tag : Tag) → contains tag_order c.in_ok-filled.filled tag ≡ has_records tag (filter is_filled whole) =
    subst (λ (l : List OffsetEntry). (tag : Tag) → contains tag_order c.in_ok-filled.filled tag ≡ has_records tag (filter is_filled l)) (c.as_slice-2.ensures.value ∙ kept) c.in_ok-filled.ensures in
    if_ok c.keep_entries.result _ (λ left. left.items ≡ compact_offsets entries log)
    (λ left is. is ∙ all_stay c.in_ok-filled.filled whole known c.in_ok-kept.kept.items ∙ ap (filter (offset_stays whole)) kept)
    c.keep_entries.ensures
