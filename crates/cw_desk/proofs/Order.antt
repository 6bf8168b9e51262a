-- Receipts in the order of their numbers, each standing in the journal, are the journal.
use Rattle.std.proofs.Common.{◌≡◌, ℕ, zero, suc, ◌+◌, ◌-◌, ◌<◌, ◌≤◌, List, [], ◌∷◌, length, map, Some, slice_get, get_or, refl, sym, ap, ◌∙◌, subst, arith}
use Rattle.std.specs.List.{range_with_len}
use Rattle.std.specs.List.Sorted.{IsNonDecreasingBy}
use Rattle.std.proofs.lemmas.List.{ext_get_or, length-map}
use Rattle.std.proofs.lemmas.List.FromFn.{get_or-range_with_len, length-range_with_len}
use Rattle.std.proofs.Math.ListN.{get_or-map}
use Rattle.std.proofs.lemmas.Option.{slice_get_within, slice_get-get_or, get_or_from_slice_get}
use Rattle.cw_model.specs.declared.journal.JournalEntry.{JournalEntry}
use Rattle.cw_world.specs.Receipts.{ReceiptState}
use Rattle.cw_desk.specs.Comparing.{AreTheJournal, NoneTwice, NoneElsewhere}

-- n numbers that rise, all below n, are 0 to n - 1
at_least : (f : ℕ → ℕ) (n : ℕ) → ((k : ℕ) → k + 1 < n → f k < f (k + 1)) → (k : ℕ) → k < n → k ≤ f k
at_least f n rise zero lt = omega arith
at_least f n rise (suc k) lt =
    let before = at_least f n rise k (omega arith) in
    let up = rise k (omega arith) in
    let is : k + 1 ≡ suc k = omega arith in
    subst (λ m. suc k ≤ f m) is (omega arith)

at_most : (f : ℕ → ℕ) (n : ℕ) → ((k : ℕ) → k + 1 < n → f k < f (k + 1)) → ((k : ℕ) → k < n → f k < n) → (d k : ℕ) → k + d + 1 ≡ n → f k ≤ k
at_most f n rise top zero k is = let t = top k (omega arith) in omega arith
at_most f n rise top (suc d) k is =
    let up = rise k (omega arith) in
    let next = at_most f n rise top d (k + 1) (omega arith) in omega arith

pub counts : (f : ℕ → ℕ) (n : ℕ) → ((k : ℕ) → k + 1 < n → f k < f (k + 1)) → ((k : ℕ) → k < n → f k < n) → (k : ℕ) → k < n → f k ≡ k
counts f n rise top k lt =
    let low = at_least f n rise k lt in
    let d : (d : ℕ) × (k + d + 1 ≡ n) = (n - k - 1, omega arith) in
    let high = at_most f n rise top d.0 k d.1 in omega arith

-- no receipts are an empty journal
none : (journal : List JournalEntry) (rs : List ReceiptState) → length rs ≡ length journal → rs ≡ [] → AreTheJournal journal rs
none [] rs len is = rw is (record { entries = refl; numbers = refl })
none (e ∷ journal) rs len is = absurd (let no : length rs ≡ 0 = ap length is in omega (arith, no, len))

module _ (journal : List JournalEntry) (rs : List ReceiptState) (len : length rs ≡ length journal) (sorted : IsNonDecreasingBy (λ r. r.number) rs)
    (none_twice : NoneTwice rs (length rs)) (stands : NoneElsewhere journal rs (length rs)) where
  got : (d : ReceiptState) (k : ℕ) → k < length rs → slice_get rs k ≡ Some (get_or rs k d)
  got d k lt = slice_get-get_or rs k d lt

  -- each number is that of its place
  number : (d : ReceiptState) (k : ℕ) → k < length rs → (get_or rs k d).number ≡ k
  number d k lt =
      let f : ℕ → ℕ = λ j. (get_or rs j d).number in
      let rise : (j : ℕ) → j + 1 < length rs → f j < f (j + 1) = λ j below.
      let apart = none_twice j (get_or rs j d) (get_or rs (j + 1) d) below (got d j (omega arith)) (got d (j + 1) below) in
      let le = sorted j (j + 1) d (omega arith) below in omega arith in
      let top : (j : ℕ) → j < length rs → f j < length rs = λ j below.
      let within = slice_get_within journal (f j) (get_or rs j d).entry (stands j (get_or rs j d) below (got d j below)) in omega arith in
      counts f (length rs) rise top k lt

  -- each entry is the one there
  entry : (d : ReceiptState) (k : ℕ) → k < length rs → get_or journal k d.entry ≡ (get_or rs k d).entry
  entry d k lt = get_or_from_slice_get journal k (get_or rs k d).entry d.entry
      (ap (slice_get journal) (sym (number d k lt)) ∙ stands k (get_or rs k d) lt (got d k lt))

  some : ReceiptState → AreTheJournal journal rs
  some d = record {
    entries = ext_get_or d.entry (map (λ r. r.entry) rs) journal (length-map rs (λ r. r.entry) ∙ len) (λ k below.
        let lt : k < length rs = subst (λ n. k < n) (length-map rs (λ r. r.entry)) below in
        get_or-map (λ (r : ReceiptState). r.entry) rs k d ∙ sym (entry d k lt));
    numbers = ext_get_or d.number (map (λ r. r.number) rs) (range_with_len 0 (length journal))
        (length-map rs (λ r. r.number) ∙ len ∙ sym (length-range_with_len 0 (length journal))) (λ k below.
        let lt : k < length rs = subst (λ n. k < n) (length-map rs (λ r. r.number)) below in
        let within : k < length journal = omega (arith, lt, len) in
        get_or-map (λ (r : ReceiptState). r.number) rs k d ∙ number d k lt ∙
        sym (get_or-range_with_len 0 (length journal) k d.number within ∙ omega arith));
  }

  pub are_the_journal : AreTheJournal journal rs
  are_the_journal = at rs refl where
    at : (l : List ReceiptState) → rs ≡ l → AreTheJournal journal rs
    at [] is = none journal rs len is
    at (d ∷ l) is = some d
