-- What the calls of a log add to the images of its disk.
use Rattle.std.proofs.Common.{is_some, ◌≡◌, ◌≤◌, refl, inl, inr, ℕ, ◌+◌, List, [], ◌∷◌, ◌++◌, length, get_or, take, drop, sym, ◌∙◌, ap, subst, arith, append_assoc, length-append, take-append-drop, Option, Some, None, option_map}
use Rattle.cw_disk.specs.Told.{ReadsOf}
use Rattle.std.proofs.lemmas.List.{drop_at, drop_more, take_all, drop_all, append-nil, take-append-le}
use Rattle.cw_disk.specs.Disk.{written, Torn, Cut, Follows, Only, Elapses, AddsOf}
use Rattle.cw_disk.proofs.Moments.{adds_none, adds_weaker, adds_then, adds_call, adds_nothing}
use Rattle.cw_log.specs.Calls.{IsGated}

-- the told content after a step
pub told_after : {A : Type 0} (f : A → A) (old new : Option A) (x y : A) → new ≡ option_map f old → old ≡ Some x → f x ≡ y → new ≡ Some y
told_after f old new x y step is same = step ∙ ap (option_map f) is ∙ ap Some same

pub told_before : {A B : Type 0} (f : A → B) (o : Option A) (b : B) → option_map f o ≡ Some b → (a : A) × (o ≡ Some a) × (f a ≡ b)
told_before f None b is = cc
told_before f (Some a) b is = (a, refl, cc)

pub torn_same : (at n : ℕ) (file : List ℕ) → Torn at n file file
torn_same at n file = record { before = refl; after = refl; no_shorter = omega arith; no_longer = omega arith }

pub cut_same : (to : ℕ) (file : List ℕ) → Cut to file file
cut_same to file = record { before = refl; no_shorter = omega arith; no_longer = omega arith }

module _ {D : Type 0} (holds : D → Option (List ℕ)) (may_leave : D → List ℕ → Type 0) (moment : D → ℕ) (left_since : D → ℕ → List ℕ → Type 0) (count reserved : D → ℕ)
    (counts_now : (disk : D) (t : ℕ) (image : List ℕ) → t ≤ moment disk → may_leave disk image → left_since disk t image) where
  abbrev Read : D → D → Type 0
  Read = ReadsOf holds may_leave moment left_since count reserved

  pub reads_none : (disk : D) → ReadsOf holds may_leave moment left_since count reserved disk disk
  reads_none disk = record { same = refl; fewer = λ image left. left; adds = adds_none moment left_since disk (λ image. ⊥); later = omega arith; room = omega arith }

  pub reads_call : (old new : D) → holds new ≡ holds old → ((image : List ℕ) → may_leave new image → may_leave old image) → Elapses (moment old) (moment new) (left_since old) (left_since new) (may_leave new)
      → count old ≤ count new → reserved old ≤ reserved new → ReadsOf holds may_leave moment left_since count reserved old new
  reads_call old new same fewer time later room = record { same = same; fewer = fewer; adds = adds_nothing moment left_since may_leave counts_now old new (λ image. ⊥) time fewer; later = later; room = room }

  pub reads_then : (old mid new : D) → ReadsOf holds may_leave moment left_since count reserved old mid → ReadsOf holds may_leave moment left_since count reserved mid new → ReadsOf holds may_leave moment left_since count reserved old new
  reads_then old mid new first second = record {
    same = second.same ∙ first.same;
    fewer = λ image left. first.fewer image (second.fewer image left);
    adds = adds_then moment left_since old mid new (λ image. ⊥) first.adds second.adds;
    later = omega (arith, first.later, second.later);
    room = omega (arith, first.room, second.room);
  }

  -- what reads adds nothing, whatever is asked of what is added
  pub reads_adds : (old new : D) (P : List ℕ → Type 0) → ReadsOf holds may_leave moment left_since count reserved old new → AddsOf moment left_since old new P
  reads_adds old new P reads = adds_weaker moment left_since old new (λ image. ⊥) P reads.adds (λ image none. absurd none)

  -- a call that steps from what is settled, and a sync behind it
  pub steps_adds : (old new : D) (P : List ℕ → Type 0) → Elapses (moment old) (moment new) (left_since old) (left_since new) (may_leave new) → ((image : List ℕ) → may_leave new image → P image)
      → (end : D) → ((image : List ℕ) → may_leave end image → may_leave new image) → Elapses (moment new) (moment end) (left_since new) (left_since end) (may_leave end) → AddsOf moment left_since old end P
  steps_adds old new P time here end fewer time' = adds_then moment left_since old new end P (adds_call moment left_since may_leave old new P time here) (adds_nothing moment left_since may_leave counts_now new end P time' fewer)

-- an image of a disk on which nothing was pending, after a step
pub stepped : (file : List ℕ) (was now : List ℕ → Type 0) (step : List ℕ → List ℕ → Type 0) → Only file was → Follows step was now → (image : List ℕ) → now image → step file image
stepped file was now step only follows image left = let from = follows image left in subst (λ (f : List ℕ). step f image) (only from.0 from.1) from.2

module _ (file : List ℕ) (gate : ℕ) (tail : List ℕ) (gated : gate + 1 ≡ length file) where
  pub behind_done : written file (gate + 1) tail ≡ file ++ tail
  behind_done =
      ap (λ (l : List ℕ). l ++ tail ++ drop (gate + 1 + length tail) file) (take_all (gate + 1) file (omega arith))
      ∙ ap (λ (l : List ℕ). file ++ tail ++ l) (drop_all (gate + 1 + length tail) file (omega arith))
      ∙ append-nil (file ++ tail)

  pub behind_torn : (image : List ℕ) → Torn (gate + 1) (length tail) file image → IsGated gate file tail image
  behind_torn image torn = inl (torn.before ∙ take_all (gate + 1) file (omega arith))

  front : take gate (file ++ tail) ≡ take gate file
  front = let short : gate ≤ length file = omega arith in rw take-append-le refl

  back : drop (gate + 1) (file ++ tail) ≡ tail
  back = drop_at file tail (gate + 1) (omega arith)

  pub gate_done : written (file ++ tail) gate (1 ∷ []) ≡ take gate file ++ 1 ∷ tail
  gate_done =
      ap (λ (l : List ℕ). l ++ (1 ∷ []) ++ drop (gate + 1) (file ++ tail)) front
      ∙ ap (λ (l : List ℕ). take gate file ++ (1 ∷ []) ++ l) back
      ∙ append_assoc (take gate file) (1 ∷ []) tail

  pub gate_torn : (image : List ℕ) → Torn gate 1 (file ++ tail) image → IsGated gate file tail image
  gate_torn image torn =
      let g = get_or image gate 0 in
      let rest : drop gate image ≡ g ∷ tail =
      drop_more image gate 0 (omega (arith, torn.no_shorter, length-append file tail)) ∙ ap (λ (l : List ℕ). g ∷ l) (torn.after ∙ back) in
      inr (g, sym (take-append-drop gate image) ∙ ap (λ (l : List ℕ). l ++ drop gate image) (torn.before ∙ front) ∙ ap (λ (l : List ℕ). take gate file ++ l) rest)

-- two changes that agree where a content is told
pub told_alike : {A B : Type 0} (f h : A → B) (o : Option A) → ((a : A) → o ≡ Some a → f a ≡ h a) → option_map f o ≡ option_map h o
told_alike f h None alike = refl
told_alike f h (Some a) alike = ap Some (alike a refl)

-- what is told now was told before
pub told_too : (before after : Option (List ℕ)) → is_some after ≡ is_some before → (file : List ℕ) → after ≡ Some file → (old : List ℕ) × (before ≡ Some old)
told_too None after told file is = absurd (let e = ap is_some is in cc)
told_too (Some old) after told file is = (old, refl)
