-- Whether batches agree with the feeds, one after the other.
use Rattle.std.proofs.Common.{◌≡◌, ◌↔◌, ℕ, ◌+◌, ◌-◌, ◌<◌, ◌≤◌, Bool, true, false, IsTrue, List, [], ◌∷◌, ◌++◌, length, map, take, drop, get_or, refl, sym, ap, subst, ◌∙◌, arith, take-append-drop}
use Rattle.std.specs.List.{AllByRecursion, range_with_len}
use Rattle.std.specs.Global.{Vec}
use Rattle.std.proofs.lemmas.List.{take_all, take_more, length-map}
use Rattle.std.proofs.lemmas.List.FromFn.{length-range_with_len}
use Rattle.std.proofs.lemmas.List.Elements.{filter_map-append}
use Rattle.cw_io.specs.Shelf.{Files}
use Rattle.cw_data.specs.declared.entry.DataEntry.{DataEntry}
use Rattle.cw_types.specs.declared.ids.PartKey.{PartKey}
use Rattle.cw_types.specs.declared.ids.PartKey.TheVariants.{Seq}
use Rattle.cw_feed.specs.Yield.{Yield, records_between, record_text}
use Rattle.cw_txn.specs.declared.entry.Entry.{Entry}
use Rattle.cw_model.specs.Committed.{Agrees, BatchAgrees, batches_of, batch_in}
use Rattle.cw_open.proofs.Steps.{refuted}
use Rattle.cw_laws.proofs.Lists.{each-append}
use Rattle.cw_laws.proofs.Framed.{each-first, each-rest}

module _ (feeds : Files) (entries : List Entry) where
  agrees-append : (xs ys : List DataEntry) → Agrees feeds entries xs → Agrees feeds entries ys → Agrees feeds entries (xs ++ ys)
  agrees-append xs ys first rest = subst (AllByRecursion (BatchAgrees feeds entries)) (sym (filter_map-append batch_in xs ys))
      (each-append (BatchAgrees feeds entries) (batches_of xs) (batches_of ys) first rest)

  agrees-parts : (xs ys : List DataEntry) → Agrees feeds entries (xs ++ ys) → Agrees feeds entries xs × Agrees feeds entries ys
  agrees-parts xs ys all =
      let both = subst (AllByRecursion (BatchAgrees feeds entries)) (filter_map-append batch_in xs ys) all in
      (each-first (BatchAgrees feeds entries) (batches_of xs) (batches_of ys) both, each-rest (BatchAgrees feeds entries) (batches_of xs) (batches_of ys) both)

  module _ (frames : List DataEntry) (k : ℕ) (so_far : Agrees feeds entries (take k frames)) (x : DataEntry) (within : k < length frames) (is : x ≡ get_or frames k x)
      (b : Bool) (test : IsTrue b ↔ Agrees feeds entries (x ∷ [])) where
    next : take (k + 1) frames ≡ take k frames ++ x ∷ []
    next = take_more frames k x within ∙ ap (λ (y : DataEntry). take k frames ++ y ∷ []) (sym is)

    pub agrees-more : b ≡ true → Agrees feeds entries (take (k + 1) frames)
    agrees-more passes = subst (Agrees feeds entries) (sym next) (agrees-append (take k frames) (x ∷ []) so_far (test.0 passes))

    pub agrees-not : b ≡ false → IsTrue false ↔ Agrees feeds entries frames
    agrees-not fails = (
      λ e. absurd (let clash : false ≡ true = e in cc),
      λ all. let front = (agrees-parts (take (k + 1) frames) (drop (k + 1) frames) (subst (Agrees feeds entries) (sym (take-append-drop (k + 1) frames)) all)).0 in
          let here = (agrees-parts (take k frames) (x ∷ []) (subst (Agrees feeds entries) next front)).1 in
          let clash : true ≡ false = sym (test.1 here) ∙ fails in cc,
    )

  pub agrees-all : (frames : List DataEntry) (k : ℕ) → Agrees feeds entries (take k frames) → length frames ≤ k → IsTrue true ↔ Agrees feeds entries frames
  agrees-all frames k so_far all = (λ e. subst (Agrees feeds entries) (take_all k frames all) so_far, λ agrees. refl)

pub as-many : (index from to : ℕ) (values : List (List ℕ)) → (from ≤ to) × (values ≡ records_between index from to) → to - from ≡ length values
as-many index from to values yields =
    let size : length values ≡ length (records_between index from to) = ap (λ (l : List (List ℕ)). length l) yields.1 in
    omega (arith, size, length-map (range_with_len from (to - from)) (record_text index), length-range_with_len from (to - from))

pub not-as-many : (feeds : Files) (part : PartKey) (connector : List ℕ) (index from to : ℕ) (values : List (List ℕ)) → part ≡ Seq connector index → (b : Bool) → (IsTrue b ↔ (to - from ≡ length values)) → b ≡ false →
    Yield feeds part from to values → ⊥
not-as-many feeds part connector index from to values is b test fails yields =
    refuted b test fails (as-many index from to values (subst (λ (p : PartKey). Yield feeds p from to values) is yields))

-- ---- texts

abbrev pub texts_of : List (Vec ℕ) → List (List ℕ)
texts_of records = map (λ (v : Vec ℕ). v.items) records
