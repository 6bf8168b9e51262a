-- What is counted piece by piece, and of the transaction log frame by frame.
use Rattle.std.proofs.Common.{◌≡◌, ℕ, zero, suc, ◌+◌, ◌<◌, ◌≤◌, Bool, true, false, List, [], ◌∷◌, length, map, take, get_or, Some, refl, sym, ap, ◌∙◌, arith, subst, inl, inr, ◌⊎◌, if◌then◌else◌}
use Rattle.std.specs.List.{count_by, flat_map, AllByRecursion}
use Rattle.std.specs.Str.{bytes_eq}
use Rattle.std.proofs.lemmas.List.{get_or-map, length-map}
use Rattle.std.proofs.lemmas.List.Folds.{length-flat_map-take}
use Rattle.std.proofs.lemmas.List.Sums.{count_by-le-length, sum_by-append}
use Rattle.cw_txn.specs.declared.entry.Entry.{Entry}
use Rattle.cw_txn.specs.Body.{AreEntries, entries_bytes}
use Rattle.cw_txn.specs.Legal.{is_committed}
use Rattle.cw_types.specs.declared.ids.Tag.{Tag}
use Rattle.cw_data.specs.declared.entry.Batch.{Batch}
use Rattle.cw_data.specs.declared.entry.DataEntry.TheVariants.{Batch as InBatch}
use Rattle.cw_data.specs.Log.{Record, records_in, records_of}
use Rattle.cw_types.specs.Faults.{Rose}
use Rattle.cw_types.specs.declared.logs.LogName.TheVariants.{Txn}
use Rattle.cw_log.specs.Log.{StandsFor, OnCause, kind_of}
use Rattle.cw_log.specs.State.{LogState}
use Rattle.cw_log.specs.declared.fault.Harm.{Harm}
use Rattle.cw_log.specs.declared.fault.OpenCause.{OpenCause}
use Rattle.cw_log.specs.declared.fault.OpenCause.TheVariants.{Damaged, Failed, Memory}
use Rattle.cw_gen.specs.Counts.{HasFrames, HoldsFrames, IsBodyOf}

module _ {X Y : Type 0} (p : Y → Bool) (f : X → List Y) (xs : List X) where
  -- a piece more is no more than there is
  pub count-within : (i : ℕ) (d : X) → i < length xs →
      count_by p (flat_map f (take i xs)) + count_by p (f (get_or xs i d)) ≤ length (flat_map f xs)
  count-within i d below = omega (
    arith,
    count_by-le-length p (flat_map f (take i xs)),
    count_by-le-length p (f (get_or xs i d)),
    length-flat_map-take f xs i d below,
  )

-- ---- records

module _ (entries : List Entry) where
  abbrev counted : List Record → ℕ
  counted rs = count_by (λ r. is_committed r.tag entries) rs

  abbrev made : Tag → List (List ℕ) → List Record
  made tag values = map (λ value. record { tag = tag; value = value }) values

  next-counted : (tag : Tag) (value : List ℕ) (values : List (List ℕ)) (n : ℕ) → (if is_committed tag entries then 1 else 0) ≡ n →
      counted (made tag (value ∷ values)) ≡ n + counted (made tag values)
  next-counted tag value values n is =
      sum_by-append (λ (r : Record). if is_committed r.tag entries then 1 else 0) (record { tag = tag; value = value } ∷ []) (made tag values)
      ∙ ap (λ (k : ℕ). 0 + k + counted (made tag values)) is ∙ omega arith

  -- the values of a batch are all of its transaction
  count-committed : (tag : Tag) (values : List (List ℕ)) → is_committed tag entries ≡ true → counted (made tag values) ≡ length values
  count-committed tag [] is = refl
  count-committed tag (value ∷ values) is =
      next-counted tag value values 1 (ap (λ (b : Bool). if b then 1 else 0) is) ∙ omega (arith, count-committed tag values is)

  count-open : (tag : Tag) (values : List (List ℕ)) → is_committed tag entries ≡ false → counted (made tag values) ≡ 0
  count-open tag [] is = refl
  count-open tag (value ∷ values) is =
      next-counted tag value values 0 (ap (λ (b : Bool). if b then 1 else 0) is) ∙ omega (arith, count-open tag values is)

  module _ (topic : List ℕ) (batch : Batch) where
    abbrev of_topic : Bool → List Record
    of_topic b = if b then records_of batch else []

    pub open-batch : is_committed batch.tag entries ≡ false → counted (records_in topic (InBatch batch)) ≡ 0
    open-batch is = either (bytes_eq topic batch.topic) where
      either : (b : Bool) → counted (of_topic b) ≡ 0
      either true = count-open batch.tag batch.values is
      either false = refl

    pub committed-batch : bytes_eq topic batch.topic ≡ true → is_committed batch.tag entries ≡ true → counted (records_in topic (InBatch batch)) ≡ length batch.values
    committed-batch own is = subst (λ (b : Bool). counted (of_topic b) ≡ length batch.values) (sym own) (count-committed batch.tag batch.values is)

-- ---- frames

each-at : (frames : List (List Entry)) (i : ℕ) → i < length frames → AllByRecursion AreEntries frames → AreEntries (get_or frames i [])
each-at [] i below all = absurd (omega arith)
each-at (frame ∷ frames) zero below all = all.0
each-at (frame ∷ frames) (suc i) below all = each-at frames i (omega arith) all.1

module _ {D : Type 0} (log : LogState D) (frames : List (List Entry)) (has : HasFrames log frames) (i : ℕ) (within : i < log.count) where
  -- the body of a frame
  pub body-at : (body : List ℕ) → ((bodies : List (List ℕ)) → log.bodies ≡ Some bodies → body ≡ get_or bodies i []) → IsBodyOf body (get_or frames i [])
  body-at body reads =
      let below : i < length frames = omega (arith, has.count) in
      record {
        is = reads (map entries_bytes frames) has.bodies ∙ get_or-map entries_bytes frames i [] [] below;
        written = each-at frames i below has.written;
      }

-- a log with the same list has the same frames
pub frames-same : {D : Type 0} (old new : LogState D) (frames : List (List Entry)) → new.bodies ≡ old.bodies → new.count ≡ old.count → HasFrames old frames → HasFrames new frames
frames-same old new frames bodies count has = record {
  bodies = bodies ∙ has.bodies;
  count = count ∙ has.count;
  written = has.written;
  few = has.few;
}

-- a log that was opened on a file has the file's frames
pub frames-found : {D : Type 0} → ((kind : ℕ) (bodies others : List (List ℕ)) (file : List ℕ) → StandsFor kind bodies file → StandsFor kind others file → bodies ≡ others) →
    (log : LogState D) (file : List ℕ) → (bodies : List (List ℕ)) × (log.bodies ≡ Some bodies) × StandsFor (kind_of Txn) bodies file →
    ((bodies : List (List ℕ)) → log.bodies ≡ Some bodies → log.count ≡ length bodies) → (frames : List (List Entry)) → HoldsFrames file frames → HasFrames log frames
frames-found one log file opened counted frames holds =
    let same : opened.0 ≡ map entries_bytes frames = one (kind_of Txn) opened.0 (map entries_bytes frames) file opened.2 holds.stands in
    let bodies : log.bodies ≡ Some (map entries_bytes frames) = opened.1 ∙ ap (λ (b : List (List ℕ)). Some b) same in
    record {
      bodies = bodies;
      count = counted (map entries_bytes frames) bodies ∙ length-map frames entries_bytes;
      written = holds.written;
      few = holds.few;
    }

-- where a file has no harm, and no count of faults rises, only memory is wanting
pub only-memory : (P : ℕ → Harm → Type 0) (M : Type 0) (cause : OpenCause) → OnCause P (Rose 0 0) M cause → ((at : ℕ) (harm : Harm) → P at harm → ⊥) →
    ((at : ℕ) × (harm : Harm) × (cause ≡ Damaged at harm)) ⊎ (cause ≡ Failed) → ⊥
only-memory P M (Damaged at harm) why none is = none at harm why
only-memory P M Failed why none is = absurd (omega (arith, why))
only-memory P M Memory why none (inl is) = let no = is.2 in cc
only-memory P M Memory why none (inr is) = cc
