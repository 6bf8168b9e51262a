-- Receipts that were taken out because they aren't the journal's entries are among those that were there.
use Rattle.std.proofs.Common.{◌≡◌, ◌≢◌, ℕ, ◌+◌, ◌-◌, ◌<◌, List, [], ◌∷◌, ◌++◌, length, get_or, sym, ap, ◌∙◌, subst, arith}
use Rattle.std.specs.List.{swap_remove}
use Rattle.std.specs.List.Sorted.{IsPermutation}
use Rattle.std.proofs.lemmas.List.Sorted.{IsPermutation-swap_remove, IsPermutation-trans, IsPermutation-append_right}
use Rattle.std.proofs.lemmas.List.{get_or_default}
use Rattle.cw_model.specs.declared.journal.JournalEntry.{JournalEntry}
use Rattle.cw_world.specs.Receipts.{ReceiptState}
use Rattle.cw_desk.specs.declared.comparing.Disagree.{Disagree}
use Rattle.cw_desk.specs.Comparing.{Disagrees, receipts_in}

-- one that is taken out
pub taken : (rs left : List ReceiptState) (k : ℕ) (x : ReceiptState) → k < length rs → x ≡ get_or rs k x → left ≡ swap_remove rs k x →
    IsPermutation rs (x ∷ left)
taken rs left k x lt is after = subst (λ l. IsPermutation rs (x ∷ l)) (sym after) (IsPermutation-swap_remove rs k x lt is)

-- two neighbours of one number, the later one first
module _ (rs left rest : List ReceiptState) (k : ℕ) (kept other : ReceiptState) (place : 0 < k) (within : k < length rs)
    (twice : (d : ReceiptState) → (get_or rs (k - 1) d).number ≡ (get_or rs k d).number)
    (kept_is : kept ≡ get_or rs k kept) (after : left ≡ swap_remove rs k kept) (m n : ℕ) (rs_size : n ≡ length rs) (left_size : m ≡ length left) (size : m + 1 ≡ n)
    (other_is : other ≡ get_or left (k - 1) other) (behind : rest ≡ swap_remove left (k - 1) other)
    (stays : (j : ℕ) (d : ReceiptState) → j ≢ k → j + 1 < n → get_or left j d ≡ get_or rs j d) where
  pub both_among : IsPermutation rs (kept ∷ other ∷ rest)
  both_among = IsPermutation-trans rs (kept ∷ left) (kept ∷ other ∷ rest) (taken rs left k kept within kept_is after)
      (IsPermutation-append_right (kept ∷ []) left (other ∷ rest) (taken left rest (k - 1) other (omega arith) other_is behind))

  pub same_number : other.number ≡ kept.number
  same_number = ap (λ (r : ReceiptState). r.number) (other_is ∙ stays (k - 1) other (omega arith) (omega arith)) ∙ twice other ∙
      sym (ap (λ (r : ReceiptState). r.number) (kept_is ∙ get_or_default rs k kept other within))

-- what disagrees with sorted receipts disagrees with them as they were
pub as_they_were : (journal : List JournalEntry) (rs sorted : List ReceiptState) (d : Disagree) → IsPermutation rs sorted →
    Disagrees journal sorted d → Disagrees journal rs d
as_they_were journal rs sorted d moved shows = record {
  at = shows.at;
  found = shows.found;
  rest = shows.rest;
  among = IsPermutation-trans rs sorted (d.kept ∷ receipts_in d.found ++ shows.rest) moved shows.among;
}
