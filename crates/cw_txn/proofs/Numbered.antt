-- A script's transactions are told apart by their places in the list.
use Rattle.std.proofs.Common.{◌≡◌, ℕ, ◌+◌, ◌≤◌, ◌<◌, Bool, true, false, ◌||◌, List, [], ◌∷◌, ◌++◌, length, refl, sym, ap, ◌∙◌, arith, length-append}
use Rattle.cw_types.specs.declared.ids.Tid.TheVariants.{Raw}
use Rattle.cw_types.specs.declared.ids.Tag.{Tag}
use Rattle.cw_txn.specs.declared.entry.Entry.{Entry}
use Rattle.cw_txn.specs.declared.entry.Entry.TheVariants.{Bump, Commit, Set}
use Rattle.cw_types.specs.Same.{same_tag}
use Rattle.cw_txn.specs.Legal.{EachFrom, is_commit_of, is_committed, IsNumberedBehind, AreNumbered}
use Rattle.cw_types.proofs.SameLemmas.{same_tag-Decides}

false_by : (b : Bool) → (b ≡ true → ⊥) → b ≡ false
false_by true never = absurd (never refl)
false_by false never = refl

neither : (a b : Bool) → a ≡ false → b ≡ false → (a || b) ≡ false
neither true b first second = first
neither false b first second = second

module _ (tag : Tag) (n : ℕ) (raw : tag.tid ≡ Raw n) where
  not_this : (before : List Entry) (entry : Entry) → IsNumberedBehind before entry → length before < tag.number → is_commit_of tag entry ≡ false
  not_this before (Bump tid) numbered later = refl
  not_this before (Commit other generation spans) numbered later = false_by (same_tag tag other) (λ same.
      let one : tag ≡ other = (same_tag-Decides tag other).0 same in
      omega (arith, numbered n (sym (ap (λ t. t.tid) one) ∙ raw), ap (λ t. t.number) one, later))
  not_this before (Set tid epoch list) numbered later = refl

  none_yet : (before entries : List Entry) → EachFrom IsNumberedBehind before entries → length before + length entries ≤ tag.number → is_committed tag entries ≡ false
  none_yet before [] each small = refl
  none_yet before (entry ∷ entries) each small = neither (is_commit_of tag entry) (is_committed tag entries)
      (not_this before entry each.0 (omega arith))
      (none_yet (before ++ entry ∷ []) entries each.1 (omega (arith, length-append before (entry ∷ []))))

  pub is_committed-numbered : (entries : List Entry) → AreNumbered entries → tag.number ≡ length entries → is_committed tag entries ≡ false
  is_committed-numbered entries each last = none_yet [] entries each (omega (arith, last))
