-- The tables of the transaction list behind one entry more, and what they tell.
use Rattle.std.proofs.Common.{◌≡◌, ◌⊎◌, inl, inr, ⊎_elim, ℕ, suc, ◌+◌, ◌≤◌, ◌<◌, Bool, true, false, not, cond, ◌||◌, ◌==◌, leb, List, [], ◌∷◌, ◌++◌, length, drop, Option, None, Some, IsSome, refl, sym, ap, subst, ◌∙◌, arith, length-append}
use Rattle.std.specs.Bool.{nat_lt}
use Rattle.std.specs.Option.{option_map_or, is_some}
use Rattle.std.specs.List.{list_any, position, position_or_len}
use Rattle.std.proofs.lemmas.Bool.Decides.{nat_tests}
use Rattle.std.proofs.lemmas.List.{drop_all, drop-append-le}
use Rattle.std.proofs.lemmas.List.Folds.{list_any-append, position_or_len_push}
use Rattle.cw_types.specs.declared.ids.Tag.{Tag}
use Rattle.cw_types.specs.declared.ids.PartKey.{PartKey}
use Rattle.cw_types.specs.declared.verdict.Verdict.TheVariants.{Committed, Aborted, Open}
use Rattle.cw_txn.specs.declared.entry.Entry.{Entry}
use Rattle.cw_txn.specs.Legal.{is_commit_of, verdict_of, epoch_of}
use Rattle.cw_offset.specs.Compaction.{is_outdated}
use Rattle.cw_offset.specs.declared.body.OffsetEntry.{OffsetEntry}
use Rattle.cw_compact.specs.Outcomes.{changes_part, first_of, is_later}

-- ---- the first place

step_low : (b : Bool) (n m : ℕ) → n ≤ m → cond (not b) (1 + n) 0 ≤ suc m
step_low true n m low = omega arith
step_low false n m low = omega (arith, low)

low_step : (b : Bool) (n m : ℕ) (rest : Bool) → nat_lt n m ≡ rest → nat_lt (cond (not b) (1 + n) 0) (suc m) ≡ (b || rest)
low_step true n m rest is = grind (arith, nat_tests)
low_step false n m rest is = next n m ∙ is
  where
    next : (a c : ℕ) → nat_lt (1 + a) (suc c) ≡ nat_lt a c
    next a c = grind (arith, nat_tests)

some_if : {A : Type 0} (b : Bool) (x : A) → is_some (cond b (Some x) None) ≡ b
some_if true x = refl
some_if false x = refl

none_or : (b : Bool) → (b || false) ≡ b
none_or true = refl
none_or false = refl

by_less : (k n : ℕ) → k ≤ n → (t : Bool) → nat_lt k n ≡ t → (k < n) ⊎ (k ≡ n)
by_less k n low true is = inl (grind (arith, nat_tests))
by_less k n low false is = inr (grind (arith, nat_tests))

below_or_same : (k n : ℕ) → k ≤ n → (k < n) ⊎ (k ≡ n)
below_or_same k n low = by_less k n low (nat_lt k n) refl

module _ {A : Type 0} (p : A → Bool) where
  place_low : (xs : List A) → position_or_len p xs ≤ length xs
  place_low [] = omega arith
  place_low (x ∷ xs) = step_low (p x) (position_or_len p xs) (length xs) (place_low xs)

  -- there is a first place where any passes
  passes_any : (xs : List A) → nat_lt (position_or_len p xs) (length xs) ≡ list_any p xs
  passes_any [] = refl
  passes_any (x ∷ xs) = low_step (p x) (position_or_len p xs) (length xs) (list_any p xs) (passes_any xs)

  pub position_any : (xs : List A) → is_some (position p xs) ≡ list_any p xs
  position_any xs = some_if (nat_lt (position_or_len p xs) (length xs)) (position_or_len p xs) ∙ passes_any xs

  -- the first place with one element more
  pub position-push : (xs : List A) (x : A) → position p (xs ++ x ∷ []) ≡ first_of (position p xs) (cond (p x) (Some (length xs)) None)
  position-push xs x =
      let long : length (xs ++ x ∷ []) ≡ length xs + 1 = length-append xs (x ∷ []) in
      ap (λ (n : ℕ). cond (nat_lt (position_or_len p (xs ++ x ∷ [])) n) (Some (position_or_len p (xs ++ x ∷ []))) None) long
      ∙ ap (λ (k : ℕ). cond (nat_lt k (length xs + 1)) (Some k) None) (position_or_len_push p xs x)
      ∙ pushed (position_or_len p xs) (length xs) (p x) (place_low xs)
    where
      before : (k n : ℕ) (b : Bool) → k < n → cond (nat_lt (cond (k == n) (n + cond b 0 1) k) (n + 1)) (Some (cond (k == n) (n + cond b 0 1) k)) None ≡ first_of (cond (nat_lt k n) (Some k) None) (cond b (Some n) None)
      before k n b less =
          let not_there : (k == n) ≡ false = grind (arith, nat_tests) in
          let here : nat_lt k (n + 1) ≡ true = grind (arith, nat_tests) in
          let there : nat_lt k n ≡ true = grind (arith, nat_tests) in
          ap (λ (t : Bool). cond (nat_lt (cond t (n + cond b 0 1) k) (n + 1)) (Some (cond t (n + cond b 0 1) k)) None) not_there
          ∙ ap (λ (t : Bool). cond t (Some k) None) here
          ∙ sym (ap (λ (t : Bool). first_of (cond t (Some k) None) (cond b (Some n) None)) there)

      last : (n : ℕ) (b : Bool) → cond (nat_lt (n + cond b 0 1) (n + 1)) (Some (n + cond b 0 1)) None ≡ cond b (Some n) None
      last n true =
          let same : n + 0 ≡ n = omega arith in
          let here : nat_lt n (n + 1) ≡ true = grind (arith, nat_tests) in
          ap (λ (k : ℕ). cond (nat_lt k (n + 1)) (Some k) None) same ∙ ap (λ (t : Bool). cond t (Some n) None) here
      last n false = let here : nat_lt (n + 1) (n + 1) ≡ false = grind (arith, nat_tests) in ap (λ (t : Bool). cond t (Some (n + 1)) None) here

      at_end : (n : ℕ) (b : Bool) → cond (nat_lt (cond (n == n) (n + cond b 0 1) n) (n + 1)) (Some (cond (n == n) (n + cond b 0 1) n)) None ≡ first_of (cond (nat_lt n n) (Some n) None) (cond b (Some n) None)
      at_end n b =
          let there : (n == n) ≡ true = grind (arith, nat_tests) in
          let none : nat_lt n n ≡ false = grind (arith, nat_tests) in
          ap (λ (t : Bool). cond (nat_lt (cond t (n + cond b 0 1) n) (n + 1)) (Some (cond t (n + cond b 0 1) n)) None) there
          ∙ last n b
          ∙ sym (ap (λ (t : Bool). first_of (cond t (Some n) None) (cond b (Some n) None)) none)

      pushed : (k n : ℕ) (b : Bool) → k ≤ n → cond (nat_lt (cond (k == n) (n + cond b 0 1) k) (n + 1)) (Some (cond (k == n) (n + cond b 0 1) k)) None ≡ first_of (cond (nat_lt k n) (Some k) None) (cond b (Some n) None)
      pushed k n b low =
          ⊎_elim
          (λ less. before k n b less)
          (λ (same : k ≡ n). subst (λ (m : ℕ). cond (nat_lt (cond (m == n) (n + cond b 0 1) m) (n + 1)) (Some (cond (m == n) (n + cond b 0 1) m)) None ≡ first_of (cond (nat_lt m n) (Some m) None) (cond b (Some n) None)) (sym same) (at_end n b))
          (below_or_same k n low)

-- ---- whether any passes from a place on

-- one element more: from each place up to it, it is among them
module _ {A : Type 0} (p : A → Bool) (xs : List A) (x : A) where
  pub any_from : (o : Option ℕ) → ((from : ℕ) → list_any p (drop from xs) ≡ option_map_or (leb from) o false)
      → (from : ℕ) → list_any p (drop from (xs ++ x ∷ [])) ≡ option_map_or (leb from) (cond (p x) (Some (length xs)) o) false
  any_from o before from = by_test (leb from (length xs)) refl
    where
      within : (b : Bool) → leb from (length xs) ≡ true → (list_any p (drop from xs) || b) ≡ option_map_or (leb from) (cond b (Some (length xs)) o) false
      within true is = or_true (list_any p (drop from xs)) ∙ sym is
        where
          or_true : (a : Bool) → (a || true) ≡ true
          or_true true = refl
          or_true false = refl
      within false is = none_or (list_any p (drop from xs)) ∙ before from

      past : (b : Bool) → leb from (length xs) ≡ false → false ≡ option_map_or (leb from) (cond b (Some (length xs)) o) false
      past true is = sym is
      past false is =
          let beyond : length xs ≤ from = grind (arith, nat_tests) in
          sym (ap (list_any p) (drop_all from xs beyond)) ∙ before from

      by_test : (t : Bool) → leb from (length xs) ≡ t → list_any p (drop from (xs ++ x ∷ [])) ≡ option_map_or (leb from) (cond (p x) (Some (length xs)) o) false
      by_test true is =
          let low : from ≤ length xs = grind (arith, nat_tests) in
          ap (list_any p) (drop-append-le from xs (x ∷ []) low)
          ∙ list_any-append p (drop from xs) (x ∷ [])
          ∙ ap (λ (b : Bool). list_any p (drop from xs) || b) (none_or (p x))
          ∙ within (p x) is
      by_test false is =
          let beyond : length (xs ++ x ∷ []) ≤ from = let low : length xs < from = grind (arith, nat_tests) in omega (arith, low, length-append xs (x ∷ [])) in
          ap (list_any p) (drop_all from (xs ++ x ∷ []) beyond) ∙ past (p x) is

-- ---- what the tables tell

later_from : (commit : ℕ) (change : Option ℕ) → is_later (Some commit) change ≡ option_map_or (leb (commit + 1)) change false
later_from commit None = refl
later_from commit (Some change) = grind (arith, nat_tests)

-- a part changes behind the commit of a transaction
module _ (log : List OffsetEntry) (entries : List Entry) (part : PartKey) (change : Option ℕ) (changes : (from : ℕ) → list_any (changes_part log part) (drop from entries) ≡ option_map_or (leb from) change false) where
  place_of : (place : ℕ) (t : Bool) → nat_lt place (length entries) ≡ t → is_later (cond (nat_lt place (length entries)) (Some place) None) change ≡ list_any (changes_part log part) (drop (place + 1) entries)
  place_of place true is = ap (λ (b : Bool). is_later (cond b (Some place) None) change) is ∙ later_from place change ∙ sym (changes (place + 1))
  place_of place false is =
      let beyond : length entries ≤ place + 1 = grind (arith, nat_tests) in
      ap (λ (b : Bool). is_later (cond b (Some place) None) change) is ∙ sym (ap (list_any (changes_part log part)) (drop_all (place + 1) entries beyond))

  pub outdated : (tag : Tag) (commit : Option ℕ) → commit ≡ position (is_commit_of tag) entries → is_later commit change ≡ is_outdated entries log tag part
  outdated tag commit is = ap (λ (o : Option ℕ). is_later o change) is
      ∙ place_of (position_or_len (is_commit_of tag) entries) (nat_lt (position_or_len (is_commit_of tag) entries) (length entries)) refl

-- how a transaction ended
pub committed : (entries : List Entry) (tag : Tag) → IsSome (position (is_commit_of tag) entries) → Committed ≡ verdict_of entries tag
committed entries tag some =
    sym (ap (λ (b : Bool). cond b Committed (cond (nat_lt tag.epoch.0 (epoch_of tag.tid entries)) Aborted Open)) (sym (position_any (is_commit_of tag) entries) ∙ some))

not_committed : (entries : List Entry) (tag : Tag) → is_some (position (is_commit_of tag) entries) ≡ false
    → cond (nat_lt tag.epoch.0 (epoch_of tag.tid entries)) Aborted Open ≡ verdict_of entries tag
not_committed entries tag none =
    sym (ap (λ (b : Bool). cond b Committed (cond (nat_lt tag.epoch.0 (epoch_of tag.tid entries)) Aborted Open)) (sym (position_any (is_commit_of tag) entries) ∙ none))

pub aborted : (entries : List Entry) (tag : Tag) → is_some (position (is_commit_of tag) entries) ≡ false → tag.epoch.0 < epoch_of tag.tid entries → Aborted ≡ verdict_of entries tag
aborted entries tag none less =
    let is : nat_lt tag.epoch.0 (epoch_of tag.tid entries) ≡ true = grind (arith, nat_tests) in
    sym (ap (λ (b : Bool). cond b Aborted Open) is) ∙ not_committed entries tag none

pub opened : (entries : List Entry) (tag : Tag) → is_some (position (is_commit_of tag) entries) ≡ false → epoch_of tag.tid entries ≤ tag.epoch.0 → Open ≡ verdict_of entries tag
opened entries tag none low =
    let is : nat_lt tag.epoch.0 (epoch_of tag.tid entries) ≡ false = grind (arith, nat_tests) in
    sym (ap (λ (b : Bool). cond b Aborted Open) is) ∙ not_committed entries tag none

-- a row that isn't there
pub no_row : {A : Type 0} (r : Bool) (o : Option A) → (IsSome o → r ≡ true) → r ≡ false → o ≡ None
no_row r None some none = refl
no_row r (Some x) some none = let e : r ≡ true = some refl in cc
