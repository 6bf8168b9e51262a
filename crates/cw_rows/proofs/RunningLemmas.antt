-- What a worker runs of an item is found by its numbers, and its state counts as reported.
use Rattle.std.proofs.Common.{◌≡◌, ◌&&◌, ◌||◌, ℕ, ◌+◌, ◌<◌, suc, arith, drop, Bool, true, false, List, [], ◌∷◌, length, map, Option, Some, None, cond, refl, sym, ◌∙◌, ap, subst, get_or, if◌then◌else◌}
use Rattle.std.proofs.Math.Seq.{drop-cons}
use Rattle.std.specs.List.{find, filter, fold, list_any}
use Rattle.cw_types.specs.declared.ids.Item.{Item}
use Rattle.cw_assign.specs.Items.{same_item}
use Rattle.cw_keys.specs.declared.state.State.{State}
use Rattle.cw_config.specs.declared.records.ConfigRecord.{ConfigRecord}
use Rattle.cw_model.specs.declared.row.Row.{Row}
use Rattle.cw_model.specs.declared.instance.Instance.{Instance}
use Rattle.cw_model.specs.Lookups.{is_at, no_instance}
use Rattle.cw_rows.specs.Crew.{IsCrew, change_at, numbers_at}
use Rattle.cw_rows.specs.Statuses.{reporting}
use Rattle.cw_rows.proofs.Lists.{each-map, map-none}
use Rattle.cw_rows.proofs.Places.{changes-places, reads-places, places-map}
use Rattle.cw_model.specs.EventsReports.{is_item_at}
use Rattle.cw_data.proofs.Lists.{find-filter}

-- ---- the first that passes two tests

find-here : {A : Type 0} (b : Bool) (second : A → Bool) (x : A) (xs : List A) (rest : Option A) → find second xs ≡ rest →
    find second (cond b (x ∷ xs) xs) ≡ cond (b && second x) (Some x) rest
find-here {A} true second x xs rest is = ap (λ (r : Option A). cond (second x) (Some x) r) is
find-here false second x xs rest is = is

none-here : {A : Type 0} (b : Bool) (x : A) (rest : Option A) → cond b (Some x) rest ≡ None → (b ≡ false) × (rest ≡ None)
none-here true x rest is = absurd (cc)
none-here false x rest is = (refl, is)

-- where some member passes a test, one is found
pub finds-any : {A : Type 0} (test : A → Bool) (xs : List A) → list_any test xs ≡ true → find test xs ≡ None → ⊥
finds-any test [] any none = cc
finds-any test (x ∷ xs) any none =
    let both = none-here (test x) x (find test xs) none in
    finds-any test xs (any-behind (test x) (list_any test xs) both.0 any) both.1
  where
    any-behind : (b rest : Bool) → b ≡ false → (b || rest) ≡ true → rest ≡ true
    any-behind true rest is any = absurd (cc)
    any-behind false rest is any = any

-- ---- what a worker runs

pub runs-first : (w : ℕ) (item : Item) (instances : List Instance) →
    find (λ i. same_item i.item item) (map (λ n. get_or instances n no_instance) (numbers_at w instances)) ≡ find (is_item_at w item) instances
runs-first w item instances =
    ap (λ (xs : List Instance). find (λ i. same_item i.item item) xs)
    (reads-places (is_at w) (λ i. i) no_instance [] instances ∙ map-none (λ i. i) (filter (is_at w) instances) (λ x. refl)) ∙
    find-filter (is_at w) (λ i. same_item i.item item) instances

pub reports-of : (w : ℕ) (item : Item) (state : State) (instances : List Instance) →
    fold (change_at (λ i. same_item i.item item) (reporting state) no_instance) instances (numbers_at w instances) ≡
    map (λ i. if is_item_at w item i then reporting state i else i) instances
reports-of w item state instances = changes-places (is_at w) (λ i. same_item i.item item) (reporting state) no_instance [] instances

still-at : (w : ℕ) (state : State) (x : Instance) (b : Bool) → is_at w (if b then reporting state x else x) ≡ is_at w x
still-at w state x true = refl
still-at w state x false = refl

still-worker : (state : State) (x : Instance) (b : Bool) → (if b then reporting state x else x).worker ≡ x.worker
still-worker state x true = refl
still-worker state x false = refl

pub crew-reports : (rows : List Row) (instances : List Instance) (reads : List (List ConfigRecord)) (runs : List (List ℕ)) (w : ℕ) (item : Item)
    (state : State) → IsCrew rows instances reads runs → IsCrew rows (map (λ i. if is_item_at w item i then reporting state i else i) instances) reads runs
crew-reports rows instances reads runs w item state crew = record {
  few = crew.few;
  reads_each = crew.reads_each;
  runs_each = crew.runs_each;
  at_worker = each-map (λ i. i.worker < length rows) (λ i. i.worker < length rows) (λ i. if is_item_at w item i then reporting state i else i) instances
      (λ x below. subst (λ (v : ℕ). v < length rows) (sym (still-worker state x (is_item_at w item x))) below) crew.at_worker;
  numbers = λ v within. crew.numbers v within ∙
      sym (places-map (is_at v) (λ i. if is_item_at w item i then reporting state i else i) 0 instances (λ x. still-at v state x (is_item_at w item x)));
}

-- ---- the first of some numbers

pub first-next : (item : Item) (instances : List Instance) (numbers : List ℕ) (k d : ℕ) → k < length numbers →
    find (λ i. same_item i.item item) (map (λ n. get_or instances n no_instance) (drop k numbers)) ≡
    cond (same_item (get_or instances (get_or numbers k d) no_instance).item item) (Some (get_or instances (get_or numbers k d) no_instance))
    (find (λ i. same_item i.item item) (map (λ n. get_or instances n no_instance) (drop (k + 1) numbers)))
first-next item instances numbers k d within =
    let next : suc k ≡ k + 1 = omega arith in
    ap (λ (l : List ℕ). find (λ i. same_item i.item item) (map (λ n. get_or instances n no_instance) l)) (drop-cons numbers k d within) ∙
    ap (λ (m : ℕ). cond (same_item (get_or instances (get_or numbers k d) no_instance).item item) (Some (get_or instances (get_or numbers k d) no_instance))
    (find (λ i. same_item i.item item) (map (λ n. get_or instances n no_instance) (drop m numbers)))) next

pub first-here : {A : Type 0} (b : Bool) (x : A) (rest : Option A) → b ≡ true → cond b (Some x) rest ≡ Some x
first-here true x rest is = refl
first-here false x rest is = absurd (cc)

pub not-here : {A : Type 0} (b : Bool) (x : A) (rest : Option A) → b ≡ false → cond b (Some x) rest ≡ rest
not-here true x rest is = absurd (cc)
not-here false x rest is = refl
