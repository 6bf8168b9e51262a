-- Tests that are passed one behind another, and what stands at the places of a worker's instances.
use Rattle.std.proofs.Common.{◌≡◌, ℕ, suc, ◌+◌, ◌-◌, ◌<◌, min, arith, ◌&&◌, Bool, true, false, cond, List, [], ◌∷◌, ◌++◌, length, map, get_or, slice_get, Option, Some, None, refl, sym, ◌∙◌, ap, append_assoc}
use Rattle.std.specs.List.{filter, find, position, position_from, range_with_len}
use Rattle.std.specs.Option.{option_map, option_or}
use Rattle.std.proofs.lemmas.List.Folds.{find-append}
use Rattle.cw_model.specs.Polls.{turns_from}
use Rattle.std.proofs.lemmas.List.{map-id}
use Rattle.std.proofs.Math.Seq.{get_or-append_seam}
use Rattle.std.proofs.lemmas.Iterator.Adapters.{position_from-zero}
use Rattle.cw_rows.specs.Crew.{with_place, places_from}
use Rattle.cw_rows.proofs.Places.{reads-places, length-one}
use Rattle.cw_data.proofs.Lists.{find-filter}

-- ---- one test behind another

chosen : {A B : Type 0} (f : A → B) (b : Bool) (x : A) (ys : List B) (xs : List A) → ys ≡ map f xs →
    cond b (f x ∷ ys) ys ≡ map f (cond b (x ∷ xs) xs)
chosen {A} {B} f true x ys xs same = ap (λ (l : List B). f x ∷ l) same
chosen f false x ys xs same = same

pub filter-mapped : {A B : Type 0} (f : A → B) (p : B → Bool) (xs : List A) →
    filter p (map f xs) ≡ map f (filter (λ x. p (f x)) xs)
filter-mapped f p [] = refl
filter-mapped f p (x ∷ xs) =
    chosen f (p (f x)) x (filter p (map f xs)) (filter (λ y. p (f y)) xs) (filter-mapped f p xs)

both-kept : {A : Type 0} (q : A → Bool) (b : Bool) (x : A) (xs ys : List A) → filter q xs ≡ ys →
    filter q (cond b (x ∷ xs) xs) ≡ cond (b && q x) (x ∷ ys) ys
both-kept {A} q true x xs ys same = ap (λ (l : List A). cond (q x) (x ∷ l) l) same
both-kept q false x xs ys same = same

pub filter-filtered : {A : Type 0} (p q : A → Bool) (xs : List A) → filter q (filter p xs) ≡ filter (λ x. p x && q x) xs
filter-filtered p q [] = refl
filter-filtered p q (x ∷ xs) =
    both-kept q (p x) x (filter p xs) (filter (λ y. p y && q y) xs) (filter-filtered p q xs)

found-mapped : {A B : Type 0} (f : A → B) (b : Bool) (x : A) (y : Option B) (z : Option A) → y ≡ option_map f z →
    cond b (Some (f x)) y ≡ option_map f (cond b (Some x) z)
found-mapped f true x y z same = refl
found-mapped f false x y z same = same

pub find-mapped : {A B : Type 0} (f : A → B) (p : B → Bool) (xs : List A) →
    find p (map f xs) ≡ option_map f (find (λ x. p (f x)) xs)
find-mapped f p [] = refl
find-mapped f p (x ∷ xs) =
    found-mapped f (p (f x)) x (find p (map f xs)) (find (λ y. p (f y)) xs) (find-mapped f p xs)

found-kept : {A : Type 0} (q : A → Bool) (b : Bool) (x : A) (xs : List A) (y : Option A) → find q xs ≡ y →
    find q (cond b (x ∷ xs) xs) ≡ cond (b && q x) (Some x) y
found-kept {A} q true x xs y same = ap (λ (o : Option A). cond (q x) (Some x) o) same
found-kept q false x xs y same = same

found-alike : {A : Type 0} (b c : Bool) (x : A) (y z : Option A) → b ≡ c → y ≡ z → cond b (Some x) y ≡ cond c (Some x) z
found-alike {A} b c x y z same rest = ap (λ (d : Bool). cond d (Some x) y) same ∙ ap (λ (o : Option A). cond c (Some x) o) rest

-- two tests that agree find the same
pub find_agree : {A : Type 0} (p q : A → Bool) → ((x : A) → p x ≡ q x) → (xs : List A) → find p xs ≡ find q xs
find_agree p q alike [] = refl
find_agree p q alike (x ∷ xs) = found-alike (p x) (q x) x (find p xs) (find q xs) (alike x) (find_agree p q alike xs)

first-kept : {A : Type 0} (b : Bool) (x : A) (xs : List A) (o : Option A) → slice_get xs 0 ≡ o →
    slice_get (cond b (x ∷ xs) xs) 0 ≡ cond b (Some x) o
first-kept true x xs o rest = refl
first-kept false x xs o rest = rest

-- the first of those that pass
pub first-filtered : {A : Type 0} (p : A → Bool) (xs : List A) → slice_get (filter p xs) 0 ≡ find p xs
first-filtered p [] = refl
first-filtered p (x ∷ xs) = first-kept (p x) x (filter p xs) (find p xs) (first-filtered p xs)

-- ---- what stands at these places

-- the members that pass a test, by their places
pub members-at : {A : Type 0} (test : A → Bool) (d : A) (xs : List A) →
    map (λ n. get_or xs n d) (places_from 0 test xs) ≡ filter test xs
members-at {A} test d xs = reads-places test (λ (x : A). x) d [] xs ∙ map-id (filter test xs)

module _ {A B : Type 0} (test second : A → Bool) (d : A) (xs : List A) where
  -- what is read of those that pass a second test too
  pub reads-second : (g : A → B) →
      map (λ n. g (get_or xs n d)) (filter (λ n. second (get_or xs n d)) (places_from 0 test xs)) ≡
      map g (filter (λ x. test x && second x) xs)
  reads-second g =
      sym (mapped-twice g (filter (λ n. second (get_or xs n d)) (places_from 0 test xs))) ∙
      ap (map g) (sym (filter-mapped (λ n. get_or xs n d) second (places_from 0 test xs)) ∙
      ap (filter second) (members-at test d xs) ∙ filter-filtered test second xs) where
        mapped-twice : (f : A → B) (ns : List ℕ) → map f (map (λ n. get_or xs n d) ns) ≡ map (λ n. f (get_or xs n d)) ns
        mapped-twice f [] = refl
        mapped-twice f (n ∷ ns) = ap (λ (l : List B). f (get_or xs n d) ∷ l) (mapped-twice f ns)

-- the first that passes both tests
pub finds-second : {A : Type 0} (test second : A → Bool) (d : A) (xs : List A) →
    option_map (λ n. get_or xs n d) (find (λ n. second (get_or xs n d)) (places_from 0 test xs)) ≡
    find (λ x. test x && second x) xs
finds-second test second d xs =
    sym (find-mapped (λ n. get_or xs n d) second (places_from 0 test xs)) ∙
    ap (find second) (members-at test d xs) ∙ find-filter test second xs

-- ---- the place of the first that passes both tests

place-next : {A : Type 0} (test second : A → Bool) (d : A) (before : List A) (x : A) (xs : List A) (o : Option ℕ) →
    find (λ n. second (get_or ((before ++ x ∷ []) ++ xs) n d)) (places_from (length (before ++ x ∷ [])) test xs) ≡ o →
    find (λ n. second (get_or (before ++ x ∷ xs) n d)) (places_from (length before + 1) test xs) ≡ o
place-next {A} test second d before x xs o rest =
    ap (λ (l : List A). find (λ n. second (get_or l n d)) (places_from (length before + 1) test xs)) (sym (append_assoc before (x ∷ []) xs)) ∙
    ap (λ (k : ℕ). find (λ n. second (get_or ((before ++ x ∷ []) ++ xs) n d)) (places_from k test xs)) (sym (length-one before x)) ∙ rest

place-here : (q : ℕ → Bool) (b c : Bool) (k : ℕ) (ps : List ℕ) (o : Option ℕ) → q k ≡ c → find q ps ≡ o →
    find q (with_place b k ps) ≡ cond (b && c) (Some k) o
place-here q true c k ps o is rest = ap (λ (d : Bool). cond d (Some k) (find q ps)) is ∙ ap (λ (e : Option ℕ). cond c (Some k) e) rest
place-here q false c k ps o is rest = rest

place-second : {A : Type 0} (test second : A → Bool) (d : A) (before xs : List A) →
    find (λ n. second (get_or (before ++ xs) n d)) (places_from (length before) test xs) ≡
    position_from (λ x. test x && second x) (length before) xs
place-second test second d before [] = refl
place-second {A} test second d before (x ∷ xs) =
    place-here (λ n. second (get_or (before ++ x ∷ xs) n d)) (test x) (second x) (length before)
    (places_from (length before + 1) test xs) (position_from (λ y. test y && second y) (length before + 1) xs)
    (ap second (get_or-append_seam before x xs d))
    (place-next test second d before x xs (position_from (λ y. test y && second y) (length before + 1) xs)
    (place-second test second d (before ++ x ∷ []) xs ∙
    ap (λ (k : ℕ). position_from (λ y. test y && second y) k xs) (length-one before x)))

-- the place of the first that passes both tests, among the places of those that pass the first
pub position-second : {A : Type 0} (test second : A → Bool) (d : A) (xs : List A) →
    find (λ n. second (get_or xs n d)) (places_from 0 test xs) ≡ position (λ x. test x && second x) xs
position-second test second d xs = place-second test second d [] xs ∙ sym (position_from-zero (λ x. test x && second x) xs)

-- ---- places one behind the other

pub find-skips : (p : ℕ → Bool) (from to : ℕ) → from < to → p from ≡ false →
    find p (range_with_len from (to - from)) ≡ find p (range_with_len (from + 1) (to - (from + 1)))
find-skips p from to within fails =
    let more : to - from ≡ suc (to - (from + 1)) = omega arith in
    ap (λ (n : ℕ). find p (range_with_len from n)) more ∙
    ap (λ (b : Bool). cond b (Some from) (find p (range_with_len (from + 1) (to - (from + 1))))) fails

pub find-hits : (p : ℕ → Bool) (from to : ℕ) → from < to → p from ≡ true → find p (range_with_len from (to - from)) ≡ Some from
find-hits p from to within passes =
    let more : to - from ≡ suc (to - (from + 1)) = omega arith in
    ap (λ (n : ℕ). find p (range_with_len from n)) more ∙
    ap (λ (b : Bool). cond b (Some from) (find p (range_with_len (from + 1) (to - (from + 1))))) passes

-- from one place on and round about
module _ (p : ℕ → Bool) (first count : ℕ) where
  around : find p (turns_from first count) ≡
      option_or (find p (range_with_len (min first count) (count - min first count))) (find p (range_with_len 0 (min first count - 0)))
  around =
      let far : count - first ≡ count - min first count = omega arith in
      let near : min first count ≡ min first count - 0 = omega arith in
      find-append p (range_with_len (min first count) (count - first)) (range_with_len 0 (min first count)) ∙
      ap (λ (n : ℕ). option_or (find p (range_with_len (min first count) n)) (find p (range_with_len 0 (min first count)))) far ∙
      ap (λ (n : ℕ). option_or (find p (range_with_len (min first count) (count - min first count))) (find p (range_with_len 0 n))) near

  pub around-first : (t : ℕ) → find p (range_with_len (min first count) (count - min first count)) ≡ Some t →
      find p (turns_from first count) ≡ Some t
  around-first t is = around ∙ ap (λ (o : Option ℕ). option_or o (find p (range_with_len 0 (min first count - 0)))) is

  pub around-second : find p (range_with_len (min first count) (count - min first count)) ≡ None →
      find p (turns_from first count) ≡ find p (range_with_len 0 (min first count - 0))
  around-second none = around ∙ ap (λ (o : Option ℕ). option_or o (find p (range_with_len 0 (min first count - 0)))) none
