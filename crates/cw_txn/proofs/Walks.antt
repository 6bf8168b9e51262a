-- What the definitions over a list say of a list with one entry more.
use Rattle.std.proofs.Common.{◌≡◌, ◌+◌, ◌≤◌, Bool, true, false, ◌||◌, cond, List, [], ◌∷◌, ◌++◌, length, refl, sym, ◌∙◌, subst, arith, append_assoc}
use Rattle.std.proofs.lemmas.List.{append-nil}
use Rattle.std.proofs.lemmas.List.Sums.{fold-append, sum_by-append}
use Rattle.std.proofs.lemmas.List.Folds.{list_any-append}
use Rattle.cw_types.specs.declared.ids.Tid.{Tid}
use Rattle.cw_types.specs.declared.ids.Tag.{Tag}
use Rattle.cw_types.specs.declared.ids.PartKey.{PartKey}
use Rattle.cw_txn.specs.declared.entry.Entry.{Entry}
use Rattle.cw_txn.specs.Legal.{is_bump_of, epoch_of, is_commit_of, is_committed, EachFrom, Each}
use Rattle.cw_txn.specs.History.{after_entry, history, unset}

pub epoch_of-push : (tid : Tid) (entries : List Entry) (entry : Entry) → epoch_of tid (entries ++ entry ∷ []) ≡ epoch_of tid entries + cond (is_bump_of tid entry) 1 0
epoch_of-push tid entries entry = omega (arith, sum_by-append (λ (e : Entry). cond (is_bump_of tid e) 1 0) entries (entry ∷ []))

one_at_most : (b : Bool) → cond b 1 0 ≤ 1
one_at_most true = omega arith
one_at_most false = omega arith

epoch_of-cons : (tid : Tid) (entry : Entry) (entries : List Entry) → epoch_of tid (entry ∷ entries) ≡ cond (is_bump_of tid entry) 1 0 + epoch_of tid entries
epoch_of-cons tid entry entries = omega (arith, sum_by-append (λ (e : Entry). cond (is_bump_of tid e) 1 0) (entry ∷ []) entries)

-- no more epochs than entries
pub epoch_of_le : (tid : Tid) (entries : List Entry) → epoch_of tid entries ≤ length entries
epoch_of_le tid [] = omega arith
epoch_of_le tid (entry ∷ entries) = omega (arith, epoch_of-cons tid entry entries, epoch_of_le tid entries, one_at_most (is_bump_of tid entry))

or_false : (a b : Bool) → (a || (b || false)) ≡ (a || b)
or_false true b = refl
or_false false true = refl
or_false false false = refl

pub is_committed-push : (tag : Tag) (entries : List Entry) (entry : Entry) → is_committed tag (entries ++ entry ∷ []) ≡ (is_committed tag entries || is_commit_of tag entry)
is_committed-push tag entries entry = list_any-append (is_commit_of tag) entries (entry ∷ []) ∙ or_false (is_committed tag entries) (is_commit_of tag entry)

pub history-push : (part : PartKey) (entries : List Entry) (entry : Entry) → history part (entries ++ entry ∷ []) ≡ after_entry part (history part entries) entry
history-push part entries entry = fold-append (after_entry part) unset entries (entry ∷ [])

module _ (P : List Entry → Entry → Type 0) where
  -- a fact of each entry, and of one more behind them
  pub EachFrom-push : (before entries : List Entry) (entry : Entry) → EachFrom P before entries → P (before ++ entries) entry → EachFrom P before (entries ++ entry ∷ [])
  EachFrom-push before [] entry each here = (subst (λ (l : List Entry). P l entry) (append-nil before) here, tt)
  EachFrom-push before (e ∷ entries) entry each here =
      (each.0, EachFrom-push (before ++ e ∷ []) entries entry each.1 (subst (λ (l : List Entry). P l entry) (sym (append_assoc before (e ∷ []) entries)) here))

  pub Each-push : (entries : List Entry) (entry : Entry) → Each P entries → P entries entry → Each P (entries ++ entry ∷ [])
  Each-push entries entry each here = EachFrom-push [] entries entry each here
