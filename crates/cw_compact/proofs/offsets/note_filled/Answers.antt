use Rattle.std.proofs.Common.{◌≡◌, ◌||◌, ◌==◌, ◌∷◌, [], true, not, List, length, sym, subst, arith}
use Rattle.std.specs.List.{filter}
use Rattle.std.specs.BTreeSet.{contains, Updates}
use Rattle.std.proofs.lemmas.Bool.Decides.{nat_tests}
use Rattle.cw_types.specs.declared.ids.Tag.{Tag}
use Rattle.cw_types.specs.Same.{tag_order}
use Rattle.cw_bytes.specs.declared.applied.Applied.{Applied}
use Rattle.cw_offset.specs.declared.body.OffsetEntry.{OffsetEntry}
use Rattle.cw_offset.specs.Log.{has_records}
use Rattle.cw_offset.specs.Compaction.{is_filled}
use Rattle.cw_compact.proofs.FilledTags.{filled_put}
use Rattle.cw_compact.proofs.offsets.note_filled.Goals as goal

pub returns-in_ok-insert-in-Records : goal.returns-in_ok-insert-in-Records
returns-in_ok-insert-in-Records c = λ q.
    let some : not (length c.as_slice.result.now == 0) ≡ true = grind (arith, nat_tests, c.is_empty.ensures, c.if-is_empty.false) in
    let updates : Updates tag_order c.args.filled.now c.insert.new.self c.in-Records.tag true =
    subst (λ (t : Tag). Updates tag_order c.args.filled.now c.insert.new.self t true) c.in_ok-copy-in-Records.ensures c.in_ok-insert-in-Records.ensures.updates in
    subst (λ (e : OffsetEntry). contains tag_order c.insert.new.self q ≡ (contains tag_order c.args.filled.now q || has_records q (filter is_filled (e ∷ [])))) (sym c.in-Records.is)
    (filled_put c.in-Records.tag q c.in-Records.records c.args.filled.now c.insert.new.self (subst (λ (l : List Applied). not (length l == 0) ≡ true) c.as_slice.ensures some) (updates.0 q))
