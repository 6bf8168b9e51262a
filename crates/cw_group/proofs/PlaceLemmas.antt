-- A member by its place, among members whose numbers rise.
use Rattle.std.proofs.Common.{◌≡◌, ℕ, zero, suc, ◌+◌, ◌<◌, ◌≤◌, ◌==◌, Bool, true, false, not, cond, List, [], ◌∷◌, ◌++◌, length, take, drop, get_or, set, insert, remove, map, Some, None, refl, sym, ap, ◌∙◌, subst, arith, nat_lt, ⊎_elim}
use Rattle.std.specs.List.{AllByRecursion}
use Rattle.std.proofs.lemmas.Bool.{cases_lt}
use Rattle.std.proofs.lemmas.List.{get_or_read, drop_more, take_more, take_more_set, map-append, drop-set-lt, length-drop}
use Rattle.std.proofs.lemmas.Bool.Decides.{nat_tests}
use Rattle.cw_group.specs.declared.member.Member.{Member}
use Rattle.cw_group.specs.Places.{IsPlace}
use Rattle.cw_group.specs.Members.{member_of, with_member, without, with_change, unjoined, AreRising}

if_true : {A : Type 0} (b : Bool) (x y : A) → b ≡ true → cond b x y ≡ x
if_true true x y e = refl
if_true false x y e = cc

if_false : {A : Type 0} (b : Bool) (x y : A) → b ≡ false → cond b x y ≡ y
if_false true x y e = cc
if_false false x y e = refl

equal : (a b : ℕ) → a ≡ b → (a == b) ≡ true
equal a b e = grind (arith, nat_tests)

unequal : (a b : ℕ) → (a ≡ b → ⊥) → (a == b) ≡ false
unequal a b e = grind (arith, nat_tests)

less : (a b : ℕ) → a < b → nat_lt a b ≡ true
less a b e = grind (arith, nat_tests)

no_less : (a b : ℕ) → b ≤ a → nat_lt a b ≡ false
no_less a b e = grind (arith, nat_tests)

-- a member behind the first has a greater number
behind : (n : ℕ) (ms : List Member) (k : ℕ) (d : Member) → AllByRecursion (λ o. n < o.worker) ms → k < length ms → n < (get_or ms k d).worker
behind n [] k d above within = absurd (omega arith)
behind n (m ∷ ms) zero d above within = above.0
behind n (m ∷ ms) (suc k) d above within = behind n ms k d above.1 (omega arith)

pub rising_at : (ms : List Member) (i j : ℕ) (d : Member) → AreRising ms → i < j → j < length ms → (get_or ms i d).worker < (get_or ms j d).worker
rising_at [] i j d rising before within = absurd (omega arith)
rising_at (m ∷ ms) i zero d rising before within = absurd (omega arith)
rising_at (m ∷ ms) zero (suc j) d rising before within = behind m.worker ms j d rising.0 (omega arith)
rising_at (m ∷ ms) (suc i) (suc j) d rising before within = rising_at ms i j d rising.1 (omega arith) (omega arith)

module _ (worker : ℕ) where
  unchanged : (f : Member → Member) (ms : List Member) → AllByRecursion (λ o. worker < o.worker) ms → with_change f worker ms ≡ ms
  unchanged f [] above = refl
  unchanged f (m ∷ ms) above =
      ap (λ (o : Member). o ∷ with_change f worker ms) (if_false (m.worker == worker) (f m) m (unequal m.worker worker (λ e. omega (arith, above.0))))
      ∙ ap (λ (os : List Member). m ∷ os) (unchanged f ms above.1)

  all_stay : (ms : List Member) → AllByRecursion (λ o. worker < o.worker) ms → without worker ms ≡ ms
  all_stay [] above = refl
  all_stay (m ∷ ms) above =
      if_true (not (m.worker == worker)) (m ∷ without worker ms) (without worker ms) (ap not (unequal m.worker worker (λ e. omega (arith, above.0))))
      ∙ ap (λ (os : List Member). m ∷ os) (all_stay ms above.1)

  above_here : (n : ℕ) (ms : List Member) → n ≡ worker → AllByRecursion (λ o. n < o.worker) ms → AllByRecursion (λ o. worker < o.worker) ms
  above_here n ms e = subst (λ (k : ℕ). AllByRecursion (λ o. k < o.worker) ms) e

  pub member-here : (ms : List Member) (at : ℕ) (d : Member) → AreRising ms → at < length ms → (get_or ms at d).worker ≡ worker → member_of worker ms ≡ Some (get_or ms at d)
  member-here [] at d rising within here = absurd (omega arith)
  member-here (m ∷ ms) zero d rising within here = if_true (m.worker == worker) (Some m) (member_of worker ms) (equal m.worker worker here)
  member-here (m ∷ ms) (suc at) d rising within here =
      let before : m.worker < (get_or ms at d).worker = behind m.worker ms at d rising.0 (omega arith) in
      if_false (m.worker == worker) (Some m) (member_of worker ms) (unequal m.worker worker (λ e. omega (arith, before, here, e)))
      ∙ member-here ms at d rising.1 (omega arith) here

  pub member-none : (ms : List Member) → ((k : ℕ) (d : Member) → k < length ms → (get_or ms k d).worker ≡ worker → ⊥) → member_of worker ms ≡ None
  member-none [] apart = refl
  member-none (m ∷ ms) apart =
      if_false (m.worker == worker) (Some m) (member_of worker ms) (unequal m.worker worker (apart 0 m (omega arith)))
      ∙ member-none ms (λ k d within. apart (suc k) d (omega arith))

  pub set-change : (f : Member → Member) (ms : List Member) (at : ℕ) (d : Member) → AreRising ms → at < length ms → (get_or ms at d).worker ≡ worker
      → set ms at (f (get_or ms at d)) ≡ with_change f worker ms
  set-change f [] at d rising within here = absurd (omega arith)
  set-change f (m ∷ ms) zero d rising within here =
      sym (ap (λ (o : Member). o ∷ with_change f worker ms) (if_true (m.worker == worker) (f m) m (equal m.worker worker here))
      ∙ ap (λ (os : List Member). f m ∷ os) (unchanged f ms (above_here m.worker ms here rising.0)))
  set-change f (m ∷ ms) (suc at) d rising within here =
      let before : m.worker < (get_or ms at d).worker = behind m.worker ms at d rising.0 (omega arith) in
      ap (λ (os : List Member). m ∷ os) (set-change f ms at d rising.1 (omega arith) here)
      ∙ sym (ap (λ (o : Member). o ∷ with_change f worker ms) (if_false (m.worker == worker) (f m) m (unequal m.worker worker (λ e. omega (arith, before, here, e)))))

  pub remove-without : (ms : List Member) (at : ℕ) (d : Member) → AreRising ms → at < length ms → (get_or ms at d).worker ≡ worker → remove ms at ≡ without worker ms
  remove-without [] at d rising within here = absurd (omega arith)
  remove-without (m ∷ ms) zero d rising within here =
      sym (if_false (not (m.worker == worker)) (m ∷ without worker ms) (without worker ms) (ap not (equal m.worker worker here)) ∙ all_stay ms (above_here m.worker ms here rising.0))
  remove-without (m ∷ ms) (suc at) d rising within here =
      let before : m.worker < (get_or ms at d).worker = behind m.worker ms at d rising.0 (omega arith) in
      ap (λ (os : List Member). m ∷ os) (remove-without ms at d rising.1 (omega arith) here)
      ∙ sym (if_true (not (m.worker == worker)) (m ∷ without worker ms) (without worker ms) (ap not (unequal m.worker worker (λ e. omega (arith, before, here, e)))))

module _ (member : Member) where
  pub set-with : (ms : List Member) (at : ℕ) (d : Member) → AreRising ms → at < length ms → (get_or ms at d).worker ≡ member.worker → set ms at member ≡ with_member member ms
  set-with [] at d rising within here = absurd (omega arith)
  set-with (m ∷ ms) zero d rising within here =
      sym (if_false (nat_lt member.worker m.worker) (member ∷ m ∷ ms) (cond (member.worker == m.worker) (member ∷ ms) (m ∷ with_member member ms)) (no_less member.worker m.worker (omega (arith, here)))
      ∙ if_true (member.worker == m.worker) (member ∷ ms) (m ∷ with_member member ms) (equal member.worker m.worker (sym here)))
  set-with (m ∷ ms) (suc at) d rising within here =
      let before : m.worker < (get_or ms at d).worker = behind m.worker ms at d rising.0 (omega arith) in
      ap (λ (os : List Member). m ∷ os) (set-with ms at d rising.1 (omega arith) here)
      ∙ sym (if_false (nat_lt member.worker m.worker) (member ∷ m ∷ ms) (cond (member.worker == m.worker) (member ∷ ms) (m ∷ with_member member ms)) (no_less member.worker m.worker (omega (arith, before, here)))
      ∙ if_false (member.worker == m.worker) (member ∷ ms) (m ∷ with_member member ms) (unequal member.worker m.worker (λ e. omega (arith, before, here, e))))

  pub insert-with : (ms : List Member) (at : ℕ) → at ≤ length ms → ((k : ℕ) (d : Member) → k < at → (get_or ms k d).worker < member.worker)
      → ((k : ℕ) (d : Member) → at ≤ k → k < length ms → member.worker ≤ (get_or ms k d).worker) → member_of member.worker ms ≡ None → insert ms at member ≡ with_member member ms
  insert-with [] zero within below from new = refl
  insert-with [] (suc at) within below from new = absurd (omega arith)
  insert-with (m ∷ ms) zero within below from new =
      sym (if_true (nat_lt member.worker m.worker) (member ∷ m ∷ ms) (cond (member.worker == m.worker) (member ∷ ms) (m ∷ with_member member ms)) (less member.worker m.worker (strict (m.worker == member.worker) refl))) where
        strict : (b : Bool) → (m.worker == member.worker) ≡ b → member.worker < m.worker
        strict true is = absurd (clash (sym (if_true (m.worker == member.worker) (Some m) (member_of member.worker ms) is) ∙ new)) where
          clash : Some m ≡ None → ⊥
          clash e = cc
        strict false is = apart is (from 0 m (omega arith) (omega arith)) where
          apart : (m.worker == member.worker) ≡ false → member.worker ≤ m.worker → member.worker < m.worker
          apart e f = grind (arith, nat_tests)
  insert-with (m ∷ ms) (suc at) within below from new =
      let before : m.worker < member.worker = below 0 m (omega arith) in
      ap (λ (os : List Member). m ∷ os) (insert-with ms at (omega arith) (λ k d b. below (suc k) d (omega arith)) (λ k d a w. from (suc k) d (omega arith) (omega arith))
      (sym (if_false (m.worker == member.worker) (Some m) (member_of member.worker ms) (unequal m.worker member.worker (λ e. omega (arith, before, e)))) ∙ new))
      ∙ sym (if_false (nat_lt member.worker m.worker) (member ∷ m ∷ ms) (cond (member.worker == m.worker) (member ∷ ms) (m ∷ with_member member ms)) (no_less member.worker m.worker (omega (arith, before)))
      ∙ if_false (member.worker == m.worker) (member ∷ ms) (m ∷ with_member member ms) (unequal member.worker m.worker (λ e. omega (arith, before, e))))

module _ (worker : ℕ) (ms : List Member) (middle : ℕ) (m : Member) (rising : AreRising ms) (within : middle < length ms) (here : m ≡ get_or ms middle m) where
  at_middle : (d : Member) → (get_or ms middle d).worker ≡ m.worker
  at_middle d = ap (λ (o : Member). o.worker) (sym (get_or_read ms middle m within here d))

  -- below the middle, where it is too low
  pub below_middle : m.worker < worker → (k : ℕ) (d : Member) → k < middle + 1 → (get_or ms k d).worker < worker
  below_middle low k d before = ⊎_elim (λ lower. omega (arith, rising_at ms k middle d rising lower within, at_middle d, low))
      (λ same. subst (λ (j : ℕ). (get_or ms j d).worker < worker) (same_place same) (omega (arith, at_middle d, low))) (cases_lt k middle) where
        same_place : middle ≤ k → middle ≡ k
        same_place e = omega arith

  -- from the middle on, where it isn't
  pub from_middle : worker ≤ m.worker → (k : ℕ) (d : Member) → middle ≤ k → k < length ms → worker ≤ (get_or ms k d).worker
  from_middle high k d after inside = ⊎_elim (λ later. omega (arith, rising_at ms middle k d rising later inside, at_middle d, high))
      (λ same. subst (λ (j : ℕ). worker ≤ (get_or ms j d).worker) (same_place same) (omega (arith, at_middle d, high))) (cases_lt middle k) where
        same_place : k ≤ middle → middle ≡ k
        same_place e = omega arith

-- one member more that hasn't joined
pub unjoin-more : (start ms : List Member) (i : ℕ) (m : Member) → i < length ms → take i ms ≡ map unjoined (take i start) → drop i ms ≡ drop i start → m ≡ get_or ms i m
    → (take (i + 1) (set ms i (unjoined m)) ≡ map unjoined (take (i + 1) start)) × (drop (i + 1) (set ms i (unjoined m)) ≡ drop (i + 1) start)
unjoin-more start ms i m within done rest here =
    let inside : i < length start = omega (arith, length-drop i ms, length-drop i start, ap length rest) in
    let first : m ∷ drop (i + 1) ms ≡ get_or start i m ∷ drop (i + 1) start = ap (λ (o : Member). o ∷ drop (i + 1) ms) here ∙ sym (drop_more ms i m within) ∙ rest ∙ drop_more start i m inside in
    let head : m ≡ get_or start i m = cc in
    let tail : drop (i + 1) ms ≡ drop (i + 1) start = cc in (
      take_more_set ms i (unjoined m) within ∙ ap (λ (os : List Member). os ++ unjoined m ∷ []) done ∙ ap (λ (o : Member). map unjoined (take i start) ++ unjoined o ∷ []) head
          ∙ sym (ap (map unjoined) (take_more start i m inside) ∙ map-append unjoined (take i start) (get_or start i m ∷ [])),
      drop-set-lt (i + 1) ms i (unjoined m) (omega arith) ∙ tail,
    )

-- no member has the number, where those below a place are lower, and the one there is another
pub no-member : (worker : ℕ) (ms : List Member) (at : ℕ) (m : Member) → AreRising ms → at < length ms → m ≡ get_or ms at m → (m.worker ≡ worker → ⊥)
    → ((k : ℕ) (d : Member) → k < at → (get_or ms k d).worker < worker) → ((k : ℕ) (d : Member) → at ≤ k → k < length ms → worker ≤ (get_or ms k d).worker) → member_of worker ms ≡ None
no-member worker ms at m rising within here other below from = member-none worker ms (λ k d inside is. ⊎_elim (λ lower. omega (arith, below k d lower, is))
    (λ e. ⊎_elim (λ later. omega (arith, rising_at ms at k d rising later inside, from at d (omega arith) within, is)) (λ same. other (ap (λ (o : Member). o.worker) (get_or_read ms at m within here d) ∙ subst (λ (j : ℕ). (get_or ms j d).worker ≡ worker) (one k e same) is)) (cases_lt at k)) (cases_lt k at)) where
      one : (k : ℕ) → at ≤ k → k ≤ at → k ≡ at
      one k e f = omega arith

pub past-member : (worker : ℕ) (ms : List Member) (at : ℕ) → at ≡ length ms → ((k : ℕ) (d : Member) → k < at → (get_or ms k d).worker < worker) → member_of worker ms ≡ None
past-member worker ms at is below = member-none worker ms (λ k d inside same. omega (arith, below k d (omega arith), same))

pub place-is : (worker : ℕ) (ms : List Member) (at : ℕ) (m : Member) → AreRising ms → at < length ms → m ≡ get_or ms at m → m.worker ≡ worker → IsPlace worker ms at
place-is worker ms at m rising within here is = record {
  within = within;
  here = λ d. ap (λ (o : Member). o.worker) (sym (get_or_read ms at m within here d)) ∙ is;
  found = λ d. member-here worker ms at d rising within (ap (λ (o : Member). o.worker) (sym (get_or_read ms at m within here d)) ∙ is);
}
