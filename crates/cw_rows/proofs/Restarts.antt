-- What runs of an item ends, worker by worker.
use Rattle.std.proofs.Common.{◌≡◌, ◌≢◌, ℕ, zero, suc, ◌∷◌, ◌+◌, ◌<◌, ◌==◌, ◌&&◌, not, Bool, true, false, List, [], map, refl, inl, inr, sym, ◌∙◌, ap, arith, get_or, set, nat_lt, length, if◌then◌else◌}
use Rattle.std.proofs.lemmas.Bool.{cases_eq, false≢true}
use Rattle.std.proofs.lemmas.List.{set-get_or}
use Rattle.std.proofs.lemmas.Bool.Decides.{nat_tests}
use Rattle.cw_types.specs.declared.ids.Item.{Item}
use Rattle.cw_assign.specs.Items.{same_item}
use Rattle.cw_model.specs.declared.row.Row.{Row}
use Rattle.cw_model.specs.declared.instance.Instance.{Instance}
use Rattle.cw_model.specs.declared.instance.InstancePhase.TheVariants.{Ended}
use Rattle.cw_model.specs.EventsItems.{runs}
use Rattle.cw_model.specs.Phases.{is_ended}
use Rattle.cw_model.specs.Updates.{in_phase}
use Rattle.cw_rows.specs.Crew.{CrewState, with_ends, takes_part, ends_below, change_at}
use Rattle.cw_rows.proofs.Lists.{map-same, map-map, map-none, and-true, and-false}
use Rattle.cw_model.specs.EventsReports.{is_item_at}

-- ends where a test says so
abbrev ended_if : Bool → Instance → Instance
ended_if true x = in_phase Ended x
ended_if false x = x

ended-is : (b : Bool) (x : Instance) → (if b then in_phase Ended x else x) ≡ ended_if b x
ended-is true x = refl
ended-is false x = refl

-- of the tests that an instance passes: it is of the item, it runs, its worker takes part, is this one, is below it
here-same : (same running : Bool) → ((running && same) ≡ ((same && running) && true))
here-same true true = refl
here-same true false = refl
here-same false true = refl
here-same false false = refl

at-this : (w v : ℕ) → v ≡ w → (v == w) ≡ true
at-this w v is = grind (arith, nat_tests, is)

not-this : (w v : ℕ) → v ≢ w → (v == w) ≡ false
not-this w v other = grind (arith, nat_tests, other)

not-below : (w v : ℕ) → v ≡ w → nat_lt v w ≡ false
not-below w v is = grind (arith, nat_tests, is)

below-next : (w v : ℕ) → v ≡ w → nat_lt v (w + 1) ≡ true
below-next w v is = grind (arith, nat_tests, is)

below-same : (w v : ℕ) → v ≢ w → nat_lt v (w + 1) ≡ nat_lt v w
below-same w v other = grind (arith, nat_tests, other)

not-under : (v : ℕ) → nat_lt v 0 ≡ false
not-under v = grind (arith, nat_tests)

under : (v n : ℕ) → v < n → nat_lt v n ≡ true
under v n below = grind (arith, nat_tests, below)

under-next : (v n : ℕ) → nat_lt (suc v) (suc n) ≡ nat_lt v n
under-next v n = grind (arith, nat_tests)

and-assoc : (a b c : Bool) → ((a && b) && c) ≡ (a && (b && c))
and-assoc true b c = refl
and-assoc false b c = refl

module _ (rows : List Row) (item : Item) where
  -- a worker that takes no part changes nothing
  passed-over : (w : ℕ) → takes_part rows w ≡ false → (x : Instance) → ends_below rows item w x ≡ ends_below rows item (w + 1) x
  passed-over w rests x = elim (cases_eq x.worker w) [
    | inl is ↦ ap (λ (b : Bool). (runs item x && takes_part rows x.worker) && b) (not-below w x.worker is) ∙
        and-false (runs item x && takes_part rows x.worker) ∙
        sym (ap (λ (v : ℕ). (runs item x && takes_part rows v) && nat_lt x.worker (w + 1)) is ∙
        ap (λ (b : Bool). (runs item x && b) && nat_lt x.worker (w + 1)) rests ∙ ap (λ (b : Bool). b && nat_lt x.worker (w + 1)) (and-false (runs item x)))
    | inr other ↦ ap (λ (b : Bool). (runs item x && takes_part rows x.worker) && b) (sym (below-same w x.worker other))
  ]

  -- one that isn't ended yet ends at this worker just where it would end below the next
  ends-here : (w : ℕ) → takes_part rows w ≡ true → (x : Instance) → ends_below rows item w x ≡ false → is_item_at w item x ≡ ends_below rows item (w + 1) x
  ends-here w takes x not-yet = elim (cases_eq x.worker w) [
    | inl is ↦ ap (λ (b : Bool). (b && not (is_ended x.phase)) && same_item x.item item) (at-this w x.worker is) ∙
        here-same (same_item x.item item) (not (is_ended x.phase)) ∙
        ap (λ (b : Bool). runs item x && b) (sym (ap (λ (v : ℕ). takes_part rows v) is ∙ takes)) ∙
        sym (ap (λ (b : Bool). (runs item x && takes_part rows x.worker) && b) (below-next w x.worker is) ∙ and-true (runs item x && takes_part rows x.worker))
    | inr other ↦ ap (λ (b : Bool). (b && not (is_ended x.phase)) && same_item x.item item) (not-this w x.worker other) ∙
        sym not-yet ∙ ap (λ (b : Bool). (runs item x && takes_part rows x.worker) && b) (sym (below-same w x.worker other))
  ]

  stays-ended : (w : ℕ) (x : Instance) → ends_below rows item w x ≡ true → ends_below rows item (w + 1) x ≡ true
  stays-ended w x is = elim (cases_eq x.worker w) [
    | inl at ↦ absurd (false≢true (sym (ap (λ (b : Bool). (runs item x && takes_part rows x.worker) && b) (not-below w x.worker at) ∙
        and-false (runs item x && takes_part rows x.worker)) ∙ is))
    | inr other ↦ ap (λ (b : Bool). (runs item x && takes_part rows x.worker) && b) (below-same w x.worker other) ∙ is
  ]

  -- an instance behind both
  twice : (w : ℕ) → takes_part rows w ≡ true → (x : Instance) (b : Bool) → ends_below rows item w x ≡ b →
      ended_if (is_item_at w item (ended_if b x)) (ended_if b x) ≡ ended_if (ends_below rows item (w + 1) x) x
  twice w takes x true is =
      ap (λ (b : Bool). ended_if b (in_phase Ended x)) (ap (λ (b : Bool). b && same_item x.item item) (and-false (x.worker == w))) ∙
      ap (λ (b : Bool). ended_if b x) (sym (stays-ended w x is))
  twice w takes x false is = ap (λ (b : Bool). ended_if b x) (ends-here w takes x is)

  -- the instances behind one worker more
  pub ends-next : (w : ℕ) → takes_part rows w ≡ true → (instances : List Instance) →
      map (λ x. if is_item_at w item x then in_phase Ended x else x) (map (λ x. if ends_below rows item w x then in_phase Ended x else x) instances) ≡
      map (λ x. if ends_below rows item (w + 1) x then in_phase Ended x else x) instances
  ends-next w takes instances =
      map-map (λ x. if ends_below rows item w x then in_phase Ended x else x) (λ x. if is_item_at w item x then in_phase Ended x else x) instances ∙
      map-same (λ x. let y = if ends_below rows item w x then in_phase Ended x else x in if is_item_at w item y then in_phase Ended y else y)
      (λ x. if ends_below rows item (w + 1) x then in_phase Ended x else x) instances
      (λ x. ap (λ (y : Instance). if is_item_at w item y then in_phase Ended y else y) (ended-is (ends_below rows item w x) x) ∙
      ended-is (is_item_at w item (ended_if (ends_below rows item w x) x)) (ended_if (ends_below rows item w x) x) ∙ twice w takes x (ends_below rows item w x) refl ∙
      sym (ended-is (ends_below rows item (w + 1) x) x))

  pub ends-over : (w : ℕ) → takes_part rows w ≡ false → (instances : List Instance) →
      map (λ x. if ends_below rows item w x then in_phase Ended x else x) instances ≡ map (λ x. if ends_below rows item (w + 1) x then in_phase Ended x else x) instances
  ends-over w rests instances = map-same (λ x. if ends_below rows item w x then in_phase Ended x else x) (λ x. if ends_below rows item (w + 1) x then in_phase Ended x else x) instances
      (λ x. ap (λ (b : Bool). if b then in_phase Ended x else x) (passed-over w rests x))

-- none ends below the first worker
pub ends-none : (item : Item) (s : CrewState) → with_ends (ends_below s.rows item 0) s ≡ s
ends-none item s = ap (λ (xs : List Instance). record { rows = s.rows; instances = xs; reads = s.reads })
    (map-none (λ x. if ends_below s.rows item 0 x then in_phase Ended x else x) s.instances
    (λ x. let none : ends_below s.rows item 0 x ≡ false = ap (λ (b : Bool). (runs item x && takes_part s.rows x.worker) && b) (not-under x.worker) ∙
    and-false (runs item x && takes_part s.rows x.worker) in
    ap (λ (b : Bool). if b then in_phase Ended x else x) none))

-- one worker more, whether it takes part or not
pub ends-more : (item : Item) (s t : CrewState) (w : ℕ) (b : Bool) → t ≡ with_ends (ends_below s.rows item w) s → takes_part s.rows w ≡ b →
    (if b then with_ends (is_item_at w item) t else t) ≡ with_ends (ends_below s.rows item (w + 1)) s
ends-more item s t w true is takes = ap (with_ends (is_item_at w item)) is ∙
    ap (λ (xs : List Instance). record { rows = s.rows; instances = xs; reads = s.reads }) (ends-next s.rows item w takes s.instances)
ends-more item s t w false is rests = is ∙
    ap (λ (xs : List Instance). record { rows = s.rows; instances = xs; reads = s.reads }) (ends-over s.rows item w rests s.instances)

pub ends-if : (item : Item) (s t : CrewState) (w : ℕ) → t ≡ with_ends (ends_below s.rows item w) s →
    (if takes_part t.rows w then with_ends (is_item_at w item) t else t) ≡ with_ends (ends_below s.rows item (w + 1)) s
ends-if item s t w is = ends-more item s t w (takes_part t.rows w) is (sym (ap (λ (c : CrewState). takes_part c.rows w) is))

-- no worker takes part that isn't there
part-there : (rows : List Row) (v : ℕ) → (takes_part rows v && nat_lt v (length rows)) ≡ takes_part rows v
part-there [] v = refl
part-there (x ∷ rows) zero = ap (λ (b : Bool). (x.live && x.hearing) && b) (under 0 (length (x ∷ rows)) (omega arith)) ∙ and-true (x.live && x.hearing)
part-there (x ∷ rows) (suc v) = ap (λ (b : Bool). takes_part rows v && b) (under-next v (length rows)) ∙ part-there rows v

pub ends-all : (item : Item) (s t : CrewState) → t ≡ with_ends (ends_below s.rows item (length s.rows)) s →
    t ≡ with_ends (λ i. runs item i && takes_part s.rows i.worker) s
ends-all item s t is = is ∙ ap (λ (xs : List Instance). record { rows = s.rows; instances = xs; reads = s.reads })
    (map-same (λ x. if ends_below s.rows item (length s.rows) x then in_phase Ended x else x)
    (λ x. if runs item x && takes_part s.rows x.worker then in_phase Ended x else x) s.instances
    (λ x. ap (λ (b : Bool). if b then in_phase Ended x else x)
    (and-assoc (runs item x) (takes_part s.rows x.worker) (nat_lt x.worker (length s.rows)) ∙
    ap (λ (b : Bool). runs item x && b) (part-there s.rows x.worker))))

-- what isn't changed stays
pub change_none : {A : Type 0} (test : A → Bool) (f : A → A) (d : A) (xs : List A) (n : ℕ) → test (get_or xs n d) ≡ false →
    xs ≡ change_at test f d xs n
change_none {A} test f d xs n rests = sym (ap (λ (b : Bool). set xs n (if b then f (get_or xs n d) else get_or xs n d)) rests ∙ set-get_or xs n d)

-- what is changed is what stood there
pub change_some : {A : Type 0} (test : A → Bool) (f : A → A) (d : A) (xs : List A) (n : ℕ) (z : A) → z ≡ get_or xs n d →
    test (get_or xs n d) ≡ true → set xs n (f z) ≡ change_at test f d xs n
change_some {A} test f d xs n z here is = ap (λ (y : A). set xs n (f y)) here ∙
    sym (ap (λ (b : Bool). set xs n (if b then f (get_or xs n d) else get_or xs n d)) is)
