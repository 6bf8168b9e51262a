-- The numbers of what each worker runs, as workers and instances change.
use Rattle.std.proofs.Common.{◌≡◌, ◌≢◌, ℕ, ◌+◌, ◌<◌, ◌≤◌, ◌==◌, ◌&&◌, not, Bool, true, false, List, [], ◌∷◌, ◌++◌, length, map, refl, inl, inr, sym, ◌∙◌, ap, subst, arith, get_or, set, append-nil, if◌then◌else◌}
use Rattle.std.specs.List.{filter, fold, AllByRecursion}
use Rattle.std.proofs.lemmas.Bool.{cases_eq, false≢true}
use Rattle.std.proofs.lemmas.Bool.Decides.{nat_tests}
use Rattle.std.proofs.lemmas.List.{length-set, get_or-set_other, get_or_append_left, get_or_default}
use Rattle.std.proofs.Math.Seq.{get_or-append_seam}
use Rattle.std.proofs.lemmas.Grind.{get_or-set_at}
use Rattle.cw_types.specs.declared.ids.Item.{Item}
use Rattle.cw_assign.specs.Items.{same_item}
use Rattle.cw_config.specs.declared.records.ConfigRecord.{ConfigRecord}
use Rattle.cw_model.specs.declared.row.Row.{Row}
use Rattle.cw_model.specs.declared.instance.Instance.{Instance}
use Rattle.cw_model.specs.declared.instance.InstancePhase.TheVariants.{Ended}
use Rattle.cw_model.specs.Phases.{is_ended}
use Rattle.cw_model.specs.Lookups.{is_at, no_instance}
use Rattle.cw_model.specs.EventsWorkers.{most_workers}
use Rattle.cw_model.specs.Updates.{in_phase}
use Rattle.cw_rows.proofs.Lists.{each-set, each-push, each-weaker, each-map, each-at, map-same, and-true, and-false}
use Rattle.cw_rows.specs.Crew.{CrewState, IsCrew, change_at, places_from, with_place, numbers_at}
use Rattle.cw_rows.proofs.Places.{length-one, places-push, places-same, places-map, places-none, places-drop, places-filter, changes-places, reads-places, places-within}
use Rattle.cw_model.specs.EventsReports.{is_item_at}

-- ---- what is at a worker

at-same : (w : ℕ) (x y : Instance) → y.worker ≡ x.worker → is_ended y.phase ≡ is_ended x.phase → is_at w y ≡ is_at w x
at-same w x y worker ended = ap (λ (v : ℕ). (v == w) && not (is_ended y.phase)) worker ∙ ap (λ (b : Bool). (x.worker == w) && not b) ended

at-ended : (w : ℕ) (y : Instance) → is_ended y.phase ≡ true → is_at w y ≡ false
at-ended w y ended = ap (λ (b : Bool). (y.worker == w) && not b) ended ∙ and-false (y.worker == w)

at-other : (w : ℕ) (x : Instance) → w ≢ x.worker → is_at w x ≡ false
at-other w x apart =
    let elsewhere : (x.worker == w) ≡ false = grind (arith, nat_tests, apart) in
    ap (λ (b : Bool). b && not (is_ended x.phase)) elsewhere

at-worker : (w : ℕ) (x : Instance) → is_at w x ≡ true → w ≡ x.worker
at-worker w x is = elim (cases_eq w x.worker) [
  | inl same ↦ same
  | inr other ↦ absurd (false≢true (sym (at-other w x other) ∙ is))
]

at-here : (w : ℕ) (y : Instance) → y.worker ≡ w → is_ended y.phase ≡ false → is_at w y ≡ true
at-here w y here runs =
    let there : (y.worker == w) ≡ true = grind (arith, nat_tests, here) in
    ap (λ (b : Bool). b && not (is_ended y.phase)) there ∙ ap not runs

-- numbers are places from 0 on
numbers-drop : (w : ℕ) (xs : List Instance) (i : ℕ) (y : Instance) → is_at w y ≡ false →
    numbers_at w (set xs i y) ≡ filter (λ n. not (n == i)) (numbers_at w xs)
numbers-drop w xs i y gone =
    let same : 0 + i ≡ i = omega arith in
    places-drop (is_at w) 0 xs i y gone ∙ ap (λ (m : ℕ). filter (λ n. not (n == m)) (numbers_at w xs)) same

numbers-push : (w : ℕ) (xs : List Instance) (x : Instance) →
    numbers_at w (xs ++ x ∷ []) ≡ numbers_at w xs ++ with_place (is_at w x) (length xs) []
numbers-push w xs x =
    let same : 0 + length xs ≡ length xs = omega arith in
    places-push (is_at w) 0 xs x ∙ ap (λ (m : ℕ). numbers_at w xs ++ with_place (is_at w x) m []) same

-- ---- one worker more

never-at : (n k : ℕ) (xs : List Instance) → AllByRecursion (λ i. i.worker < n) xs → places_from k (is_at n) xs ≡ []
never-at n k [] each = refl
never-at n k (x ∷ xs) each =
    ap (λ (b : Bool). with_place b k (places_from (k + 1) (is_at n) xs)) (at-other n x (omega (arith, each.0))) ∙ never-at n (k + 1) xs each.1

pub crew-spawn : (rows : List Row) (instances : List Instance) (reads : List (List ConfigRecord)) (runs : List (List ℕ)) (row : Row) →
    length rows < most_workers → IsCrew rows instances reads runs →
    IsCrew (rows ++ row ∷ []) instances (reads ++ [] ∷ []) (runs ++ [] ∷ [])
crew-spawn rows instances reads runs row room crew = record {
  few = omega (arith, room, length-one rows row);
  reads_each = omega (arith, crew.reads_each, length-one rows row, length-one reads []);
  runs_each = omega (arith, crew.runs_each, length-one rows row, length-one runs []);
  at_worker = each-weaker (λ i. i.worker < length rows) (λ i. i.worker < length (rows ++ row ∷ [])) instances (λ i below. omega (arith, below, length-one rows row)) crew.at_worker;
  numbers = λ w within. elim (cases_eq w (length rows)) [
    | inl last ↦ ap (λ (n : ℕ). get_or (runs ++ [] ∷ []) n []) (last ∙ sym crew.runs_each) ∙ get_or-append_seam runs [] [] [] ∙
        sym (never-at (length rows) 0 instances crew.at_worker) ∙ ap (λ (n : ℕ). numbers_at n instances) (sym last)
    | inr other ↦ let below : w < length rows = omega (arith, within, other, length-one rows row) in
        get_or_append_left runs ([] ∷ []) [] w (omega (arith, below, crew.runs_each)) ∙ crew.numbers w below
  ];
}

-- ---- one instance changed, that ends, and one more

module _ (rows : List Row) (instances : List Instance) (reads : List (List ConfigRecord)) (runs : List (List ℕ)) where
  pub crew-row : (w : ℕ) (row : Row) → IsCrew rows instances reads runs → IsCrew (set rows w row) instances reads runs
  crew-row w row crew = let same = sym (length-set rows w row) in record {
    few = subst (λ (n : ℕ). n ≤ most_workers) same crew.few;
    reads_each = crew.reads_each ∙ same;
    runs_each = crew.runs_each ∙ same;
    at_worker = subst (λ (n : ℕ). AllByRecursion (λ i. i.worker < n) instances) same crew.at_worker;
    numbers = λ v within. crew.numbers v (subst (λ (n : ℕ). v < n) (sym same) within);
  }

  pub crew-instance : (i : ℕ) (y : Instance) → i < length instances → y.worker ≡ (get_or instances i no_instance).worker →
      is_ended y.phase ≡ is_ended (get_or instances i no_instance).phase → IsCrew rows instances reads runs →
      IsCrew rows (set instances i y) reads runs
  crew-instance i y there worker ended crew = record {
    few = crew.few;
    reads_each = crew.reads_each;
    runs_each = crew.runs_each;
    at_worker = each-set (λ i. i.worker < length rows) instances i y
        (subst (λ (w : ℕ). w < length rows) (sym worker) (each-at (λ i. i.worker < length rows) instances i no_instance there crew.at_worker)) crew.at_worker;
    numbers = λ w within. crew.numbers w within ∙
        sym (places-same (is_at w) 0 instances i y no_instance (at-same w (get_or instances i no_instance) y worker ended));
  }

  pub crew-stop : (i : ℕ) → i < length instances → IsCrew rows instances reads runs →
      IsCrew rows (set instances i (in_phase Ended (get_or instances i no_instance))) reads
      (set runs (get_or instances i no_instance).worker (filter (λ n. not (n == i)) (get_or runs (get_or instances i no_instance).worker [])))
  crew-stop i there crew =
      let x = get_or instances i no_instance in
      let here : x.worker < length rows = each-at (λ i. i.worker < length rows) instances i no_instance there crew.at_worker in
      let kept = filter (λ n. not (n == i)) (get_or runs x.worker []) in
      record {
        few = crew.few;
        reads_each = crew.reads_each;
        runs_each = length-set runs x.worker kept ∙ crew.runs_each;
        at_worker = each-set (λ i. i.worker < length rows) instances i (in_phase Ended x) here crew.at_worker;
        numbers = λ w within. elim (cases_eq w x.worker) [
          | inl same ↦ get_or-set_at runs x.worker w kept [] same (omega (arith, here, crew.runs_each)) ∙
              ap (λ (ps : List ℕ). filter (λ n. not (n == i)) ps) (crew.numbers x.worker here) ∙
              sym (numbers-drop x.worker instances i (in_phase Ended x) (at-ended x.worker (in_phase Ended x) refl)) ∙
              ap (λ (v : ℕ). numbers_at v (set instances i (in_phase Ended x))) (sym same)
          | inr other ↦ get_or-set_other runs x.worker w kept [] other ∙ crew.numbers w within ∙
              sym (places-same (is_at w) 0 instances i (in_phase Ended x) no_instance
              (at-ended w (in_phase Ended x) refl ∙ sym (at-other w x other)))
        ];
      }

  pub crew-start : (y : Instance) → y.worker < length rows → is_ended y.phase ≡ false → IsCrew rows instances reads runs →
      IsCrew rows (instances ++ y ∷ []) reads (set runs y.worker (get_or runs y.worker [] ++ length instances ∷ []))
  crew-start y here running crew = record {
    few = crew.few;
    reads_each = crew.reads_each;
    runs_each = length-set runs y.worker (get_or runs y.worker [] ++ length instances ∷ []) ∙ crew.runs_each;
    at_worker = each-push (λ i. i.worker < length rows) instances y here crew.at_worker;
    numbers = λ w within. elim (cases_eq w y.worker) [
      | inl same ↦ get_or-set_at runs y.worker w (get_or runs y.worker [] ++ length instances ∷ []) [] same (omega (arith, here, crew.runs_each)) ∙
          ap (λ (ps : List ℕ). ps ++ length instances ∷ []) (crew.numbers y.worker here ∙ ap (λ (v : ℕ). numbers_at v instances) (sym same)) ∙
          ap (λ (b : Bool). numbers_at w instances ++ with_place b (length instances) []) (sym (at-here w y (sym same) running)) ∙
          sym (numbers-push w instances y)
      | inr other ↦ get_or-set_other runs y.worker w (get_or runs y.worker [] ++ length instances ∷ []) [] other ∙ crew.numbers w within ∙
          sym (append-nil (numbers_at w instances)) ∙
          ap (λ (b : Bool). numbers_at w instances ++ with_place b (length instances) []) (sym (at-other w y other)) ∙
          sym (numbers-push w instances y)
    ];
  }

  -- the instance that stands there is changed
  pub crew-change : (s : CrewState) → record { rows = rows; instances = instances; reads = reads } ≡ s → (i : ℕ) → i < length s.instances →
      (z : Instance) → z ≡ get_or instances i z → (y : Instance) → y.worker ≡ z.worker →
      is_ended y.phase ≡ is_ended (get_or s.instances i no_instance).phase → IsCrew rows instances reads runs →
      IsCrew rows (set instances i y) reads runs
  crew-change s is i there z here y worker ended crew =
      let within : i < length instances = subst (λ (c : CrewState). i < length c.instances) (sym is) there in
      let found : z ≡ get_or instances i no_instance = here ∙ get_or_default instances i z no_instance within in
      crew-instance i y within (worker ∙ ap (λ (x : Instance). x.worker) found)
      (ended ∙ ap (λ (c : CrewState). is_ended (get_or c.instances i no_instance).phase) (sym is)) crew

  -- an instance ends, and its worker has one number less
  pub crew-stopped : (s : CrewState) → record { rows = rows; instances = instances; reads = reads } ≡ s → (i : ℕ) → i < length s.instances →
      (z x : Instance) → z ≡ get_or instances i z → x ≡ get_or instances i x → (after : List (List ℕ)) →
      after ≡ set runs z.worker (filter (λ n. not (n == i)) (get_or runs z.worker [])) → IsCrew rows instances reads runs →
      IsCrew rows (set instances i (in_phase Ended x)) reads after
  crew-stopped s is i there z x z-here x-here after step crew =
      let within : i < length instances = subst (λ (c : CrewState). i < length c.instances) (sym is) there in
      let z-found : z ≡ get_or instances i no_instance = z-here ∙ get_or_default instances i z no_instance within in
      let x-found : x ≡ get_or instances i no_instance = x-here ∙ get_or_default instances i x no_instance within in
      let done : after ≡ set runs (get_or instances i no_instance).worker (filter (λ n. not (n == i)) (get_or runs (get_or instances i no_instance).worker [])) =
      step ∙ ap (λ (y : Instance). set runs y.worker (filter (λ n. not (n == i)) (get_or runs y.worker []))) z-found in
      subst (λ (y : Instance). IsCrew rows (set instances i (in_phase Ended y)) reads after) (sym x-found)
      (subst (λ (r : List (List ℕ)). IsCrew rows (set instances i (in_phase Ended (get_or instances i no_instance))) reads r) (sym done) (crew-stop i within crew))

  pub crew-started : (y : Instance) → y.worker < length rows → is_ended y.phase ≡ false → (n : ℕ) → n ≡ length instances →
      (after : List (List ℕ)) → after ≡ set runs y.worker (get_or runs y.worker [] ++ n ∷ []) → IsCrew rows instances reads runs →
      IsCrew rows (instances ++ y ∷ []) reads after
  crew-started y here running n is after step crew =
      subst (λ (r : List (List ℕ)). IsCrew rows (instances ++ y ∷ []) reads r)
      (sym (step ∙ ap (λ (m : ℕ). set runs y.worker (get_or runs y.worker [] ++ m ∷ [])) is)) (crew-start y here running crew)

-- ---- all of a worker end

ended_at : ℕ → Instance → Instance
ended_at w i = if is_at w i then in_phase Ended i else i

end-else : (w v : ℕ) (x : Instance) (b : Bool) → is_at v x ≡ b → v ≢ w →
    is_at w (if b then in_phase Ended x else x) ≡ is_at w x
end-else w v x true is apart = at-ended w (in_phase Ended x) refl ∙ sym (at-other w x (λ same. apart (at-worker v x is ∙ sym same)))
end-else w v x false is apart = refl

end-none : (w : ℕ) (x : Instance) (b : Bool) → is_at w x ≡ b → is_at w (if b then in_phase Ended x else x) ≡ false
end-none w x true is = at-ended w (in_phase Ended x) refl
end-none w x false is = is

end-worker : (x : Instance) (b : Bool) → (if b then in_phase Ended x else x).worker ≡ x.worker
end-worker x true = refl
end-worker x false = refl

-- a worker's numbers are those of the instances that end with it, and tell what it holds
pub ends-at : (w : ℕ) (instances : List Instance) →
    fold (change_at (λ i. true) (in_phase Ended) no_instance) instances (numbers_at w instances) ≡
    map (λ i. if is_at w i then in_phase Ended i else i) instances
ends-at w instances = changes-places (is_at w) (λ i. true) (in_phase Ended) no_instance [] instances ∙
    map-same (λ i. if is_at w i && true then in_phase Ended i else i) (λ i. if is_at w i then in_phase Ended i else i) instances
    (λ i. ap (λ (b : Bool). if b then in_phase Ended i else i) (and-true (is_at w i)))

pub holds-at : (w : ℕ) (instances : List Instance) →
    map (λ n. (get_or instances n no_instance).item) (numbers_at w instances) ≡ map (λ i. i.item) (filter (is_at w) instances)
holds-at w instances = reads-places (is_at w) (λ i. i.item) no_instance [] instances

pub numbers-within : (w : ℕ) (instances : List Instance) → AllByRecursion (λ n. n < length instances) (numbers_at w instances)
numbers-within w instances = places-within (is_at w) 0 (length instances) instances (omega arith)

module _ (rows : List Row) (instances : List Instance) (reads : List (List ConfigRecord)) (runs : List (List ℕ)) where
  pub crew-kill : (w : ℕ) → w < length rows → IsCrew rows instances reads runs →
      IsCrew rows (map (λ i. if is_at w i then in_phase Ended i else i) instances) reads (set runs w [])
  crew-kill w here crew = record {
    few = crew.few;
    reads_each = crew.reads_each;
    runs_each = length-set runs w [] ∙ crew.runs_each;
    at_worker = each-map (λ i. i.worker < length rows) (λ i. i.worker < length rows) (λ i. if is_at w i then in_phase Ended i else i) instances
        (λ x below. subst (λ (v : ℕ). v < length rows) (sym (end-worker x (is_at w x))) below) crew.at_worker;
    numbers = λ v within. elim (cases_eq v w) [
      | inl same ↦ get_or-set_at runs w v [] [] same (omega (arith, here, crew.runs_each)) ∙
          sym (places-none (is_at v) (λ i. if is_at w i then in_phase Ended i else i) 0 instances
          (λ x. subst (λ (u : ℕ). is_at u (if is_at w x then in_phase Ended x else x) ≡ false) (sym same) (end-none w x (is_at w x) refl)))
      | inr other ↦ get_or-set_other runs w v [] [] other ∙ crew.numbers v within ∙
          sym (places-map (is_at v) (λ i. if is_at w i then in_phase Ended i else i) 0 instances
          (λ x. end-else v w x (is_at w x) refl (λ same. other (sym same))))
    ];
  }

  -- what is kept of a worker are its numbers
  pub numbers-read : IsCrew rows instances reads runs → (s : CrewState) → record { rows = rows; instances = instances; reads = reads } ≡ s → (w : ℕ) →
      w < length s.rows → (kept : List ℕ) → kept ≡ get_or runs w kept → kept ≡ numbers_at w instances
  numbers-read crew s is w there kept here =
      let within : w < length rows = subst (λ (c : CrewState). w < length c.rows) (sym is) there in
      here ∙ get_or_default runs w kept [] (omega (arith, within, crew.runs_each)) ∙ crew.numbers w within

-- ---- what a worker runs of an item ends

pub ends-of : (w : ℕ) (item : Item) (instances : List Instance) →
    fold (change_at (λ i. same_item i.item item) (in_phase Ended) no_instance) instances (numbers_at w instances) ≡
    map (λ i. if is_item_at w item i then in_phase Ended i else i) instances
ends-of w item instances = changes-places (is_at w) (λ i. same_item i.item item) (in_phase Ended) no_instance [] instances

and-twice : (a b : Bool) → (a && b) ≡ ((a && b) && b)
and-twice true true = refl
and-twice true false = refl
and-twice false b = refl

still-at : (w v : ℕ) (item : Item) (x : Instance) (b : Bool) → is_item_at v item x ≡ b →
    is_at w (if b then in_phase Ended x else x) ≡ (is_at w x && not (is_ended (if b then in_phase Ended x else x).phase))
still-at w v item x true is = and-false (x.worker == w) ∙ sym (and-false (is_at w x))
still-at w v item x false is = and-twice (x.worker == w) (not (is_ended x.phase))

and-left : (a b : Bool) → (a && b) ≡ true → a ≡ true
and-left true b is = refl
and-left false b is = is

ends-else : (w v : ℕ) (item : Item) (x : Instance) (b : Bool) → is_item_at v item x ≡ b → v ≢ w →
    is_at w (if b then in_phase Ended x else x) ≡ is_at w x
ends-else w v item x true is apart = end-else w v x true (and-left (is_at v x) (same_item x.item item) is) apart
ends-else w v item x false is apart = refl

module _ (rows : List Row) (instances : List Instance) (reads : List (List ConfigRecord)) (runs : List (List ℕ)) where
  pub crew-ends : (w : ℕ) (item : Item) → w < length rows → (after : List (List ℕ)) → (let ended = map (λ i. if is_item_at w item i then in_phase Ended i else i) instances in
      after ≡ set runs w (filter (λ n. not (is_ended (get_or ended n no_instance).phase)) (numbers_at w instances)) →
      IsCrew rows instances reads runs → IsCrew rows ended reads after)
  crew-ends w item here after step crew =
      let ended = map (λ i. if is_item_at w item i then in_phase Ended i else i) instances in
      let kept = filter (λ n. not (is_ended (get_or ended n no_instance).phase)) (numbers_at w instances) in
      record {
        few = crew.few;
        reads_each = crew.reads_each;
        runs_each = ap (λ (r : List (List ℕ)). length r) step ∙ length-set runs w kept ∙ crew.runs_each;
        at_worker = each-map (λ i. i.worker < length rows) (λ i. i.worker < length rows) (λ i. if is_item_at w item i then in_phase Ended i else i) instances
            (λ x below. subst (λ (v : ℕ). v < length rows) (sym (end-worker x (is_item_at w item x))) below) crew.at_worker;
        numbers = λ v within. ap (λ (r : List (List ℕ)). get_or r v []) step ∙ elim (cases_eq v w) [
          | inl same ↦ get_or-set_at runs w v kept [] same (omega (arith, here, crew.runs_each)) ∙
              places-filter (is_at w) (λ i. not (is_ended i.phase)) (λ i. if is_item_at w item i then in_phase Ended i else i) no_instance [] instances
              (λ x. still-at w w item x (is_item_at w item x) refl) ∙ ap (λ (u : ℕ). numbers_at u ended) (sym same)
          | inr other ↦ get_or-set_other runs w v kept [] other ∙ crew.numbers v within ∙
              sym (places-map (is_at v) (λ i. if is_item_at w item i then in_phase Ended i else i) 0 instances
              (λ x. ends-else v w item x (is_item_at w item x) refl (λ same. other (sym same))))
        ];
      }
