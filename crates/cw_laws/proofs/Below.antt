-- A transaction with a number that all used ones are below is none of them: it isn't committed, and has no batch.
use Rattle.std.proofs.Common.{◌≡◌, ℕ, ◌<◌, ◌∷◌, [], ◌&&◌, false, List, map, refl, sym, ap, ◌∙◌, arith}
use Rattle.std.specs.List.{AllByRecursion, filter_map, list_any}
use Rattle.std.proofs.lemmas.Bool.{or_from, false_from_ne_true}
use Rattle.cw_types.specs.declared.ids.Tid.TheVariants as producer
use Rattle.cw_types.specs.declared.ids.Tag.{Tag}
use Rattle.cw_types.specs.declared.ids.TaskId.{TaskId}
use Rattle.cw_types.specs.declared.ids.PartKey.{PartKey}
use Rattle.cw_types.specs.Same.{same_tag, same_part}
use Rattle.cw_types.proofs.SameLemmas.{same_tid-Decides, same_tag-Decides, same_tag-flip}
use Rattle.cw_data.specs.declared.entry.Batch.{Batch}
use Rattle.cw_txn.specs.declared.entry.Entry.{Entry}
use Rattle.cw_txn.specs.declared.entry.Entry.TheVariants.{Bump, Commit, Set}
use Rattle.cw_txn.specs.Legal.{is_committed}
use Rattle.cw_model.specs.Committed.{is_batch_of}
use Rattle.cw_model.specs.FactsProducers.{IsBelow, commit_tag}

module _ (id : TaskId) (epoch number : ℕ) where
  abbrev pub own_tag : Tag
  own_tag = record { tid = producer.Task id; epoch = record { 0 = epoch }; number = number }

  pub differs : (other : Tag) → IsBelow id epoch number other → same_tag own_tag other ≡ false
  differs other below = false_from_ne_true (same_tag own_tag other) (λ same.
      let one : own_tag ≡ other = (same_tag-Decides own_tag other).0 same in
      let number_is : number ≡ other.number = ap (λ (t : Tag). t.number) one in
      let smaller : other.number < number = below ((same_tid-Decides (producer.Task id) other.tid).1 (ap (λ (t : Tag). t.tid) one)) (sym (ap (λ (t : Tag). t.epoch.0) one)) in
      omega arith)

  pub differs-from : (other : Tag) → IsBelow id epoch number other → same_tag other own_tag ≡ false
  differs-from other below = same_tag-flip other own_tag ∙ differs other below

  pub not_committed : (entries : List Entry) → AllByRecursion (IsBelow id epoch number) (filter_map commit_tag entries) → is_committed own_tag entries ≡ false
  not_committed [] each = refl
  not_committed (Bump tid ∷ entries) each = not_committed entries each
  not_committed (Set tid of list ∷ entries) each = not_committed entries each
  not_committed (Commit other generation spans ∷ entries) each =
      or_from (same_tag own_tag other) (is_committed own_tag entries) (differs other each.0) (not_committed entries each.1)

  pub not_batched : (part : PartKey) (batches : List Batch) → AllByRecursion (IsBelow id epoch number) (map (λ batch. batch.tag) batches) → list_any (is_batch_of own_tag part) batches ≡ false
  not_batched part [] each = refl
  not_batched part (batch ∷ batches) each = or_from (is_batch_of own_tag part batch) (list_any (is_batch_of own_tag part) batches)
      (ap (λ b. b && same_part part batch.part) (differs batch.tag each.0)) (not_batched part batches each.1)

  pub none_batched : (batches : List Batch) → AllByRecursion (IsBelow id epoch number) (map (λ batch. batch.tag) batches) → AllByRecursion (λ batch. same_tag own_tag batch.tag ≡ false) batches
  none_batched [] each = tt
  none_batched (batch ∷ batches) each = (differs batch.tag each.0, none_batched batches each.1)
