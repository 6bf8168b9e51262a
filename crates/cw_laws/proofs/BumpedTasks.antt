-- A frame that bumps the producers of a connector's fenced tasks: each of them has a later epoch, and nothing else changes.
use Rattle.std.proofs.Common.{◌≡◌, ◌⊎◌, inl, inr, ℕ, zero, suc, ◌+◌, ◌<◌, ◌≤◌, ◌++◌, ◌∷◌, [], Bool, true, false, cond, List, map, refl, sym, ap, subst, ◌∙◌, arith, append_assoc, append-nil}
use Rattle.std.specs.List.{filter_map, range_with_len}
use Rattle.std.proofs.lemmas.Bool.{cases_lt}
use Rattle.std.proofs.lemmas.List.Sums.{sum_by-append}
use Rattle.cw_types.specs.declared.ids.Tid.{Tid}
use Rattle.cw_types.specs.declared.ids.Tid.TheVariants.{Lead, Task}
use Rattle.cw_types.specs.declared.ids.PartKey.{PartKey}
use Rattle.cw_types.specs.Same.{same_tid}
use Rattle.cw_types.proofs.SameLemmas.{same_tid-Decides}
use Rattle.cw_txn.specs.declared.entry.Entry.{Entry}
use Rattle.cw_txn.specs.declared.entry.Entry.TheVariants.{Bump}
use Rattle.cw_txn.specs.Legal.{epoch_of, is_bump_of}
use Rattle.cw_model.specs.State.{Setting, Cluster}
use Rattle.cw_model.specs.Lookups.{end_or_start}
use Rattle.cw_model.specs.FactsProducers.{commit_tag}
use Rattle.cw_laws.proofs.EntryPush.{end-stays}
use Rattle.cw_laws.proofs.Entered.{EntryFacts, listed, entry-behind}
use Rattle.cw_laws.proofs.Bump.{bump-stands}

-- ---- epochs

abbrev bump_count : Tid → Entry → ℕ
bump_count tid e = cond (is_bump_of tid e) 1 0

pub epoch-joined : (tid : Tid) (entries more : List Entry) → epoch_of tid (entries ++ more) ≡ epoch_of tid entries + epoch_of tid more
epoch-joined tid entries more = omega (arith, sum_by-append (bump_count tid) entries more)

epoch-first : (tid : Tid) (e : Entry) (entries : List Entry) → epoch_of tid (e ∷ entries) ≡ bump_count tid e + epoch_of tid entries
epoch-first tid e entries = omega (arith, sum_by-append (bump_count tid) (e ∷ []) entries)

-- the bumps of tasks from a number on
abbrev pub bumps_from : List ℕ → ℕ → ℕ → List Entry
bumps_from name from count = map (λ index. Bump (Task (record { connector = name; index = index }))) (range_with_len from count)

counted-some : (b : Bool) → b ≡ true → 1 ≤ cond b 1 0
counted-some true is = omega arith
counted-some false is = cc

-- a task among them is bumped
pub bumped-later : (name : List ℕ) (index from count : ℕ) → from ≤ index → index < from + count → 1 ≤ epoch_of (Task (record { connector = name; index = index })) (bumps_from name from count)
bumped-later name index from zero low high = absurd (omega arith)
bumped-later name index from (suc count) low high = by (cases_lt from index) (bumped-later name index (from + 1) count)
  where
    first : epoch_of (Task (record { connector = name; index = index })) (bumps_from name from (suc count)) ≡
        bump_count (Task (record { connector = name; index = index })) (Bump (Task (record { connector = name; index = from })))
        + epoch_of (Task (record { connector = name; index = index })) (bumps_from name (from + 1) count)
    first = epoch-first (Task (record { connector = name; index = index })) (Bump (Task (record { connector = name; index = from }))) (bumps_from name (from + 1) count)

    by : (from < index) ⊎ (index ≤ from) →
        (from + 1 ≤ index → index < from + 1 + count → 1 ≤ epoch_of (Task (record { connector = name; index = index })) (bumps_from name (from + 1) count)) →
        1 ≤ epoch_of (Task (record { connector = name; index = index })) (bumps_from name from (suc count))
    by (inl later) rest = omega (arith, first, rest (omega arith) (omega arith))
    by (inr here) rest =
        let one : index ≡ from = omega arith in
        let same : same_tid (Task (record { connector = name; index = index })) (Task (record { connector = name; index = from })) ≡ true =
        (same_tid-Decides (Task (record { connector = name; index = index })) (Task (record { connector = name; index = from }))).1 (ap (λ (k : ℕ). Task (record { connector = name; index = k })) one) in
        omega (arith, first, counted-some (same_tid (Task (record { connector = name; index = index })) (Task (record { connector = name; index = from }))) same)

-- the leader isn't
pub lead-not_bumped : (name : List ℕ) (from count : ℕ) → epoch_of Lead (bumps_from name from count) ≡ 0
lead-not_bumped name from zero = refl
lead-not_bumped name from (suc count) = omega (arith, epoch-first Lead (Bump (Task (record { connector = name; index = from }))) (bumps_from name (from + 1) count), lead-not_bumped name (from + 1) count)

-- ---- what else the list says

pub tags-not_bumped : (name : List ℕ) (from count : ℕ) → filter_map commit_tag (bumps_from name from count) ≡ []
tags-not_bumped name from zero = refl
tags-not_bumped name from (suc count) = tags-not_bumped name (from + 1) count

pub end-not_bumped : (part : PartKey) (name : List ℕ) (from count : ℕ) (entries : List Entry) → end_or_start part (entries ++ bumps_from name from count) ≡ end_or_start part entries
end-not_bumped part name from zero entries = ap (end_or_start part) (append-nil entries)
end-not_bumped part name from (suc count) entries =
    ap (end_or_start part) (sym (append_assoc entries (Bump (Task (record { connector = name; index = from })) ∷ []) (bumps_from name (from + 1) count)))
    ∙ end-not_bumped part name (from + 1) count (entries ++ Bump (Task (record { connector = name; index = from })) ∷ [])
    ∙ end-stays part entries (Bump (Task (record { connector = name; index = from }))) (λ h. refl)

-- ---- the facts of the list

pub bumps-listed : (setting : Setting) (name : List ℕ) (from count : ℕ) (s : Cluster) → EntryFacts setting s → EntryFacts setting (listed (bumps_from name from count) s)
bumps-listed setting name from zero s f = subst (λ (l : List Entry). EntryFacts setting (record s { entries = l })) (sym (append-nil s.entries)) f
bumps-listed setting name from (suc count) s f =
    let bump : Entry = Bump (Task (record { connector = name; index = from })) in
    subst (λ (l : List Entry). EntryFacts setting (record s { entries = l })) (append_assoc s.entries (bump ∷ []) (bumps_from name (from + 1) count))
    (bumps-listed setting name (from + 1) count (listed (bump ∷ []) s) (entry-behind setting bump s (bump-stands setting (Task (record { connector = name; index = from })) s f) f))
