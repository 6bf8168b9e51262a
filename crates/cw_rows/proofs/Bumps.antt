-- The entries by which a connector's offsets are set and its producers are fenced.
use Rattle.std.proofs.Common.{◌≡◌, ℕ, ◌<◌, ◌+◌, List, [], ◌∷◌, ◌++◌, length, map, arith, zero-add, length-append}
use Rattle.std.specs.List.{AllByRecursion, range_with_len}
use Rattle.std.proofs.lemmas.List.FromFn.{map-range_with_len_more, length-map-range_with_len}
use Rattle.cw_types.specs.declared.ids.Epoch.{Epoch}
use Rattle.cw_types.specs.declared.ids.Tid.TheVariants.{Lead, Task}
use Rattle.cw_rest.specs.Operations.{bumps_of, offset_entries}
use Rattle.cw_txn.specs.Body.{IsShort, AreShort}
use Rattle.cw_txn.specs.declared.entry.Entry.{Entry}
use Rattle.cw_txn.specs.declared.entry.Entry.TheVariants.{Bump, Set}
use Rattle.cw_txn.specs.declared.entry.SetOffset.{SetOffset}

abbrev pub bump_at : List ℕ → ℕ → Entry
bump_at name index = Bump (Task (record { connector = name; index = index }))

-- one task's bump more
pub bumps-more : (name : List ℕ) (n : ℕ) → bumps_of name (n + 1) ≡ bumps_of name n ++ bump_at name n ∷ []
bumps-more name n = map-range_with_len_more (bump_at name) 0 n n (zero-add n)

bumps-length : (name : List ℕ) (n : ℕ) → length (bumps_of name n) ≡ n
bumps-length name n = length-map-range_with_len (bump_at name) 0 n

each-bump : (name indices : List ℕ) (last : Entry) → IsShort last → AllByRecursion IsShort (map (bump_at name) indices ++ last ∷ [])
each-bump name [] last short = (short, tt)
each-bump name (index ∷ indices) last short = (tt, each-bump name indices last short)

-- they are short enough to be written
pub offsets-short : (name : List ℕ) (fenced : ℕ) (epoch : Epoch) (list : List SetOffset) → fenced < 4294967295 → length list < 4294967296 →
    AreShort (offset_entries name fenced epoch list)
offsets-short name fenced epoch list few short = record {
  some = omega (arith, length-append (bumps_of name fenced) (Set Lead epoch list ∷ []));
  few = omega (arith, few, bumps-length name fenced, length-append (bumps_of name fenced) (Set Lead epoch list ∷ []));
  each = each-bump name (range_with_len 0 fenced) (Set Lead epoch list) short;
}
