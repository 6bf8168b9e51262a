-- The records of a topic that are taken from a place on, one behind the other.
use Rattle.std.proofs.Common.{◌≡◌, ℕ, zero, suc, ◌+◌, ◌-◌, ◌<◌, ◌≤◌, ◌&&◌, Bool, true, false, cond, List, [], ◌∷◌, ◌++◌, length, map, min, take, nat_le, Option, Some, None, option_map, refl, sym, ap, subst, ◌∙◌, append_assoc, append-nil, arith}
use Rattle.std.specs.List.{filter, find, enumerate_from, AllByRecursion}
use Rattle.std.proofs.lemmas.Bool.{le-leb, leb-true}
use Rattle.std.proofs.lemmas.List.{length-take}
use Rattle.cw_data.specs.declared.entry.DataEntry.{DataEntry}
use Rattle.cw_data.specs.Log.{Record, taken, records, stable, marker_of, is_commit}
use Rattle.cw_laws.proofs.Lists.{each-map}
use Rattle.cw_model.specs.Polls.{most_records, records_from}
use Rattle.cw_sinktask.specs.Gathered.{values_of, place_behind}
use Rattle.cw_data.proofs.Lists.{each_taken}

-- a place from one on and below another
pub record IsWithin (at end place : ℕ) : Type 0 where
  pub least : at ≤ place
  pub most : place < end

-- ---- a list's members with their places, from a place on

module _ {X : Type 0} (q : X → Bool) where
  abbrev from_on : ℕ → ℕ × X → Bool
  from_on at p = nat_le at p.0 && q p.1

  -- below its first place it doesn't matter from where on
  same-behind : (at other k : ℕ) (xs : List X) → at ≤ k → other ≤ k →
      filter (from_on at) (enumerate_from k xs) ≡ filter (from_on other) (enumerate_from k xs)
  same-behind at other k [] one two = refl
  same-behind at other k (x ∷ xs) one two =
      let same : nat_le at k ≡ nat_le other k = le-leb at k one ∙ sym (le-leb other k two) in
      ap (λ (b : Bool). cond (b && q x) ((k, x) ∷ filter (from_on at) (enumerate_from (k + 1) xs)) (filter (from_on at) (enumerate_from (k + 1) xs))) same ∙
      ap (λ (l : List (ℕ × X)). cond (nat_le other k && q x) ((k, x) ∷ l) l) (same-behind at other (k + 1) xs (omega (arith, one)) (omega (arith, two)))

  -- one whose place lies before is passed over
  leb-above : (a b : ℕ) (c : Bool) → b < a → nat_le a b ≡ c → nat_le a b ≡ false
  leb-above a b true below is = absurd (let over : a ≤ b = leb-true a b is in omega (arith, below, over))
  leb-above a b false below is = is

  past : (k o : ℕ) (x : X) (rest : List (ℕ × X)) → k < o → filter (from_on o) ((k, x) ∷ rest) ≡ filter (from_on o) rest
  past k o x rest below =
      ap (λ (b : Bool). cond (b && q x) ((k, x) ∷ filter (from_on o) rest) (filter (from_on o) rest)) (leb-above o k (nat_le o k) below refl)

  both-first : (b c : Bool) → (b && c) ≡ true → b ≡ true
  both-first true c is = refl
  both-first false c is = is

  -- the first that is found, and those behind it
  pub record First (at k o : ℕ) (v : X) (xs : List X) : Type 0 where
    pub above : k ≤ o
    pub within : o < k + length xs
    pub is : filter (from_on at) (enumerate_from k xs) ≡ (o, v) ∷ filter (from_on (o + 1)) (enumerate_from k xs)

  at-head : (at k : ℕ) (x : X) (xs : List X) → from_on at (k, x) ≡ true → First at k k x (x ∷ xs)
  at-head at k x xs passes =
      let rest = enumerate_from (k + 1) xs in
      let start : at ≤ k = leb-true at k (both-first (nat_le at k) (q x) passes) in
      record {
        above = omega (arith);
        within = omega (arith);
        is = ap (λ (b : Bool). cond b ((k, x) ∷ filter (from_on at) rest) (filter (from_on at) rest)) passes ∙
            ap (λ (l : List (ℕ × X)). (k, x) ∷ l) (same-behind at (k + 1) (k + 1) xs (omega (arith, start)) (omega (arith)) ∙
            sym (past k (k + 1) x rest (omega (arith))));
      }

  behind-head : (at k o : ℕ) (v x : X) (xs : List X) → from_on at (k, x) ≡ false → First at (k + 1) o v xs → First at k o v (x ∷ xs)
  behind-head at k o v x xs fails first =
      let rest = enumerate_from (k + 1) xs in
      let above : k + 1 ≤ o = first.above in
      let within : o < k + 1 + length xs = first.within in
      record {
        above = omega (arith, above);
        within = omega (arith, within);
        is = ap (λ (b : Bool). cond b ((k, x) ∷ filter (from_on at) rest) (filter (from_on at) rest)) fails ∙ first.is ∙
            ap (λ (l : List (ℕ × X)). (o, v) ∷ l) (sym (past k (o + 1) x rest (omega (arith, above))));
      }

  moved-first : (at k o : ℕ) (v x : X) (xs : List X) → ◌≡◌ {A = Option (ℕ × X)} (Some (k, x)) (Some (o, v)) → First at k k x (x ∷ xs) → First at k o v (x ∷ xs)
  moved-first at k o v x xs is first =
      let pair : ◌≡◌ {A = ℕ × X} (k, x) (o, v) = cc in
      let place : k ≡ o = ap (λ (y : ℕ × X). y.0) pair in
      let value : x ≡ v = ap (λ (y : ℕ × X). y.1) pair in
      subst (λ (y : X). First at k o y (x ∷ xs)) value (subst (λ (n : ℕ). First at k n x (x ∷ xs)) place first)

  choose : (at k o : ℕ) (v x : X) (xs : List X) (b : Bool) → from_on at (k, x) ≡ b →
      (find (from_on at) (enumerate_from (k + 1) xs) ≡ Some (o, v) → First at (k + 1) o v xs) →
      cond b (Some (k, x)) (find (from_on at) (enumerate_from (k + 1) xs)) ≡ Some (o, v) → First at k o v (x ∷ xs)
  choose at k o v x xs true passes later is = moved-first at k o v x xs is (at-head at k x xs passes)
  choose at k o v x xs false fails later is = behind-head at k o v x xs fails (later is)

  pub first-in : (at k o : ℕ) (v : X) (xs : List X) → find (from_on at) (enumerate_from k xs) ≡ Some (o, v) → First at k o v xs
  first-in at k o v [] found = absurd (cc)
  first-in at k o v (x ∷ xs) found =
      choose at k o v x xs (from_on at (k, x)) refl (first-in at (k + 1) o v xs) found

  -- each lies from the place on and below the end
  each-chosen : (P : ℕ × X → Type 0) (b : Bool) (p : ℕ × X) (l : List (ℕ × X)) → (b ≡ true → P p) → AllByRecursion P l → AllByRecursion P (cond b (p ∷ l) l)
  each-chosen P true p l one rest = (one refl, rest)
  each-chosen P false p l one rest = rest

  pub each-within : (at k end : ℕ) (xs : List X) → k + length xs ≤ end →
      AllByRecursion (λ p. IsWithin at end p.0) (filter (from_on at) (enumerate_from k xs))
  each-within at k end [] fits = tt
  each-within at k end (x ∷ xs) fits =
      each-chosen (λ p. IsWithin at end p.0) (from_on at (k, x)) (k, x) (filter (from_on at) (enumerate_from (k + 1) xs))
      (λ passes. record { least = leb-true at k (both-first (nat_le at k) (q x) passes); most = omega (arith, fits) })
      (each-within at (k + 1) end xs (omega (arith, fits)))

-- what isn't found isn't there
none-here : {A : Type 0} (b : Bool) (x : A) (o : Option A) (l : List A) → (o ≡ None → l ≡ []) → cond b (Some x) o ≡ None → cond b (x ∷ l) l ≡ []
none-here true x o l later none = absurd (cc)
none-here false x o l later none = later none

none-in : {A : Type 0} (test : A → Bool) (xs : List A) → find test xs ≡ None → filter test xs ≡ []
none-in test [] none = refl
none-in test (x ∷ xs) none = none-here (test x) x (find test xs) (filter test xs) (none-in test xs) none

-- ---- a topic's records

take-none : (n : ℕ) (l : List (ℕ × List ℕ)) → l ≡ [] → take n l ≡ []
take-none zero [] is = refl
take-none (suc n) [] is = refl
take-none n (p ∷ l) is = absurd (cc)

unmapped : {A B : Type 0} (f : A → B) (o : Option A) → option_map f o ≡ None → o ≡ None
unmapped f None none = refl
unmapped f (Some x) none = absurd (cc)

module _ (topic : List ℕ) (log : List DataEntry) where
  abbrev stable_records : List Record
  stable_records = take (stable topic log) (records topic log)

  abbrev is_committed : Record → Bool
  is_committed r = is_commit (marker_of r.tag log)

  abbrev told : ℕ × Record → ℕ × List ℕ
  told p = (p.0, p.1.value)

  -- the next record that is taken, and those behind it
  pub record Next (from o : ℕ) (value : List ℕ) : Type 0 where
    pub within : o < length (records topic log)
    pub is : records_from topic from log ≡ (o, value) ∷ records_from topic (o + 1) log

  at-found : (from o : ℕ) (value : List ℕ) (f : Option (ℕ × Record)) →
      find (from_on is_committed from) (enumerate_from 0 stable_records) ≡ f → option_map told f ≡ Some (o, value) → Next from o value
  at-found from o value None found is = absurd (cc)
  at-found from o value (Some p) found is =
      let first : First is_committed from 0 p.0 p.1 stable_records = first-in is_committed from 0 p.0 p.1 stable_records found in
      let same : ◌≡◌ {A = ℕ × List ℕ} (p.0, p.1.value) (o, value) = cc in
      let cut : length stable_records ≡ min (stable topic log) (length (records topic log)) = length-take (stable topic log) (records topic log) in
      let fewer : length stable_records ≤ length (records topic log) = omega (arith, cut) in
      let below : p.0 < 0 + length stable_records = first.within in
      let all : p.0 < length (records topic log) = omega (arith, fewer, below) in
      record {
        within = subst (λ (y : ℕ × List ℕ). y.0 < length (records topic log)) same all;
        is = ap (map told) first.is ∙ ap (λ (y : ℕ × List ℕ). y ∷ records_from topic (y.0 + 1) log) same;
      }

  pub next-taken : (from o : ℕ) (value : List ℕ) → taken topic from log ≡ Some (o, value) → Next from o value
  next-taken from o value is = at-found from o value (find (from_on is_committed from) (enumerate_from 0 stable_records)) refl is

  pub none-taken : (from : ℕ) → taken topic from log ≡ None → records_from topic from log ≡ []
  none-taken from none = ap (map told) (none-in (from_on is_committed from) (enumerate_from 0 stable_records)
      (unmapped told (find (from_on is_committed from) (enumerate_from 0 stable_records)) none))

  -- ---- at most 500 of them

  -- what is still to be taken from a place on, where some were taken
  abbrev pub left : (count at : ℕ) → List (ℕ × List ℕ)
  left count at = take (most_records - count) (records_from topic at log)

  one-more : (count : ℕ) (p : ℕ × List ℕ) (l : List (ℕ × List ℕ)) → count < 500 →
      take (most_records - count) (p ∷ l) ≡ p ∷ take (most_records - (count + 1)) l
  one-more count p l below =
      let more : 500 - count ≡ suc (500 - (count + 1)) = omega (arith, below) in ap (λ (n : ℕ). take n (p ∷ l)) more

  left-more : (count at o : ℕ) (value : List ℕ) → count < 500 → taken topic at log ≡ Some (o, value) →
      left count at ≡ (o, value) ∷ left (count + 1) (o + 1)
  left-more count at o value below is =
      ap (take (most_records - count)) (next-taken at o value is).is ∙ one-more count (o, value) (records_from topic (o + 1) log) below

  none-left : (count at : ℕ) → taken topic at log ≡ None → left count at ≡ []
  none-left count at none = take-none (most_records - count) (records_from topic at log) (none-taken at none)

  pub next-value : (done : List (List ℕ)) (count at o : ℕ) (value : List ℕ) → count < 500 → taken topic at log ≡ Some (o, value) →
      (done ++ value ∷ []) ++ values_of (left (count + 1) (o + 1)) ≡ done ++ values_of (left count at)
  next-value done count at o value below is =
      append_assoc done (value ∷ []) (values_of (left (count + 1) (o + 1))) ∙
      sym (ap (λ (l : List (ℕ × List ℕ)). done ++ values_of l) (left-more count at o value below is))

  pub next-place : (count at o : ℕ) (value : List ℕ) → count < 500 → taken topic at log ≡ Some (o, value) →
      place_behind (o + 1) (left (count + 1) (o + 1)) ≡ place_behind at (left count at)
  next-place count at o value below is = sym (ap (place_behind at) (left-more count at o value below is))

  pub no-value : (done : List (List ℕ)) (count at : ℕ) → taken topic at log ≡ None → done ++ values_of (left count at) ≡ done
  no-value done count at none = ap (λ (l : List (ℕ × List ℕ)). done ++ values_of l) (none-left count at none) ∙ append-nil done

  pub no-place : (count at : ℕ) → taken topic at log ≡ None → place_behind at (left count at) ≡ at
  no-place count at none = ap (place_behind at) (none-left count at none)

  pub last-value : (done : List (List ℕ)) (at : ℕ) → done ++ values_of (left 500 at) ≡ done
  last-value done at = append-nil done

  -- ---- where they end

  pub records-within : (from : ℕ) → AllByRecursion (λ p. IsWithin from (stable topic log) p.0) (records_from topic from log)
  records-within from =
      let cut : length stable_records ≡ min (stable topic log) (length (records topic log)) = length-take (stable topic log) (records topic log) in
      each-map (λ (p : ℕ × Record). IsWithin from (stable topic log) p.0) (λ (p : ℕ × List ℕ). IsWithin from (stable topic log) p.0) told
      (filter (from_on is_committed from) (enumerate_from 0 stable_records)) (λ p is. is)
      (each-within is_committed from 0 (stable topic log) stable_records (omega (arith, cut)))

  behind-all : (from before end : ℕ) (l : List (ℕ × List ℕ)) → from < before → before ≤ end → AllByRecursion (λ p. IsWithin from end p.0) l →
      (from < place_behind before l) × (place_behind before l ≤ end)
  behind-all from before end [] above below each = (above, below)
  behind-all from before end (p ∷ l) above below each =
      let least : from ≤ p.0 = each.0.least in
      let most : p.0 < end = each.0.most in
      behind-all from (p.0 + 1) end l (omega (arith, least)) (omega (arith, most)) each.1

  -- where there are some, the place behind the last of them is above the one from which on they were taken, and stable
  pub taken-ends : (from o : ℕ) (value : List ℕ) → taken topic from log ≡ Some (o, value) →
      let to = place_behind from (take most_records (records_from topic from log)) in (from < to) × (to ≤ stable topic log)
  taken-ends from o value is =
      let rest = left 1 (o + 1) in
      let all = subst (AllByRecursion (λ p. IsWithin from (stable topic log) p.0)) (left-more 0 from o value (omega (arith)) is)
      (each_taken (λ (p : ℕ × List ℕ). IsWithin from (stable topic log) p.0) most_records (records_from topic from log) (records-within from)) in
      let least : from ≤ o = all.0.least in
      let most : o < stable topic log = all.0.most in
      subst (λ (to : ℕ). (from < to) × (to ≤ stable topic log)) (next-place 0 from o value (omega (arith)) is)
      (behind-all from (o + 1) (stable topic log) rest (omega (arith, least)) (omega (arith, most)) all.1)
