-- The first committed record from an offset on is in the first row that ends behind it.
use Rattle.std.proofs.Common.{◌≡◌, ℕ, zero, suc, ◌+◌, ◌-◌, ◌<◌, ◌≤◌, max, Bool, true, false, ◌&&◌, cond, List, [], ◌∷◌, length, take, map, get_or, Option, None, Some, is_some, refl, sym, ap, ◌∙◌, arith}
use Rattle.std.specs.Prelude.{slice_get, nat_le, nat_lt}
use Rattle.std.specs.Bool.{⊤}
use Rattle.std.specs.Option.{option_map, option_or}
use Rattle.std.specs.List.{filter, find, flat_map, enumerate_from, AllByRecursion}
use Rattle.std.specs.List.Sorted.{IsPartitionedBy}
use Rattle.std.proofs.lemmas.Bool.Decides.{nat_tests}
use Rattle.cw_types.specs.declared.ids.Tag.{Tag}
use Rattle.cw_data.specs.declared.entry.Batch.{Batch}
use Rattle.cw_data.specs.declared.entry.DataEntry.{DataEntry}
use Rattle.cw_data.specs.declared.topic.Row.{Row}
use Rattle.cw_data.specs.Log.{Record, is_commit}
use Rattle.cw_data.specs.Rows.{Marks, batch_at, mark_of_batch, commits}
use Rattle.cw_data.proofs.Lists.{slice_get-past, slice_get-within, find-append, enumerate_from-append, option_or-some}
use Rattle.cw_data.proofs.Chains.{records_in_batch, held, Chain}

-- the record at an offset or behind it in records that begin at another
abbrev pub at_or_behind : ℕ → ℕ → List Record → Option (ℕ × Record)
at_or_behind first from rs = option_map {U = ℕ × Record} (λ r. (max first from, r)) (slice_get rs (max first from - first))

-- the record in a row
abbrev pub in_row : List DataEntry → ℕ → Option Row → Option (ℕ × Record)
in_row entries from None = None
in_row entries from (Some row) = at_or_behind row.first from (held entries row)

is_some-mapped : (k : ℕ) (o : Option Record) → is_some o ≡ true → is_some (option_map {U = ℕ × Record} (λ r. (k, r)) o) ≡ true
is_some-mapped k None some = some
is_some-mapped k (Some r) some = refl

passes : (b c : Bool) (x : ℕ × Record) (o : Option (ℕ × Record)) → c ≡ false → o ≡ None → cond (b && c) (Some x) o ≡ None
passes true true x o is rest = cc
passes true false x o is rest = rest
passes false c x o is rest = rest

-- the first record, or a later one
one_on : (first from : ℕ) (r : Record) (rs : List Record) (b c : Bool) → nat_le from first ≡ b → c ≡ true → (o : Option (ℕ × Record)) → o ≡ at_or_behind (first + 1) from rs
    → cond (b && c) (Some (first, r)) o ≡ at_or_behind first from (r ∷ rs)
one_on first from r rs true true is sure o rest =
    let here : max first from ≡ first = grind (arith, nat_tests) in
    let none : first - first ≡ 0 = omega arith in
    sym (ap (λ k. option_map {U = ℕ × Record} (λ x. (k, x)) (slice_get (r ∷ rs) (k - first))) here ∙ ap (λ k. option_map {U = ℕ × Record} (λ x. (first, x)) (slice_get (r ∷ rs) k)) none)
one_on first from r rs true false is sure o rest = cc
one_on first from r rs false c is sure o rest =
    let less : first < from = grind (arith, nat_tests) in
    let here : max first from ≡ from = omega arith in
    let there : max (first + 1) from ≡ from = omega arith in
    let next : from - first ≡ suc (from - (first + 1)) = omega arith in
    rest ∙ ap (λ k. option_map {U = ℕ × Record} (λ x. (k, x)) (slice_get rs (k - (first + 1)))) there
    ∙ sym (ap (λ k. option_map {U = ℕ × Record} (λ x. (k, x)) (slice_get (r ∷ rs) (k - first))) here ∙ ap (λ k. option_map {U = ℕ × Record} (λ x. (from, x)) (slice_get (r ∷ rs) k)) next)

module _ (from : ℕ) (p : Record → Bool) where
  abbrev pub wanted : ℕ × Record → Bool
  wanted x = nat_le from x.0 && p x.1

  none_wanted : (first : ℕ) (rs : List Record) → AllByRecursion (λ r. p r ≡ false) rs → find wanted (enumerate_from first rs) ≡ None
  none_wanted first [] each = refl
  none_wanted first (r ∷ rs) each = passes (nat_le from first) (p r) (first, r) (find wanted (enumerate_from (first + 1) rs)) each.0 (none_wanted (first + 1) rs each.1)

  first_wanted : (first : ℕ) (rs : List Record) → AllByRecursion (λ r. p r ≡ true) rs → find wanted (enumerate_from first rs) ≡ at_or_behind first from rs
  first_wanted first [] each = refl
  first_wanted first (r ∷ rs) each = one_on first from r rs (nat_le from first) (p r) refl each.0 (find wanted (enumerate_from (first + 1) rs)) (first_wanted (first + 1) rs each.1)

  -- the records of rows, of which the test tells whether their batch is committed
  module _ (marks : Marks) (entries : List DataEntry) (tells : (r : Record) → p r ≡ is_commit (marks r.tag)) where
    each_value : (tag : Tag) (b : Bool) → is_commit (marks tag) ≡ b → (values : List (List ℕ)) → AllByRecursion (λ r. p r ≡ b) (map (λ (value : List ℕ). record { tag = tag; value = value }) values)
    each_value tag b is [] = tt
    each_value tag b is (value ∷ values) = (tells (record { tag = tag; value = value }) ∙ is, each_value tag b is values)

    each_held : (o : Option Batch) (b : Bool) → is_commit (mark_of_batch marks o) ≡ b → AllByRecursion (λ r. p r ≡ b) (records_in_batch o)
    each_held None b is = tt
    each_held (Some batch) b is = each_value batch.tag b is batch.values

    -- by cases on whether the row is committed, and whether it ends behind the offset
    in_first : (row : Row) (rows : List Row) (first : ℕ) → row.first ≡ first → row.end ≡ first + length (held entries row) → 1 ≤ length (held entries row)
        → find wanted (enumerate_from row.end (flat_map (held entries) rows)) ≡ in_row entries from (find (λ (r : Row). nat_lt from r.end) (filter (commits marks entries) rows))
        → (c b : Bool) → commits marks entries row ≡ c → nat_lt from row.end ≡ b
        → option_or (find wanted (enumerate_from first (held entries row))) (find wanted (enumerate_from row.end (flat_map (held entries) rows)))
        ≡ in_row entries from (find (λ (r : Row). nat_lt from r.end) (cond c (row ∷ filter (commits marks entries) rows) (filter (commits marks entries) rows)))
    in_first row rows first starts ends some rest true true committed behind =
        let these = first_wanted first (held entries row) (each_held (batch_at entries row.place) true committed) in
        let within : max first from - first < length (held entries row) = grind (arith, nat_tests, ends, some, behind) in
        let there : is_some (at_or_behind first from (held entries row)) ≡ true = is_some-mapped (max first from) (slice_get (held entries row) (max first from - first)) (slice_get-within (held entries row) (max first from - first) within) in
        ap (λ o. option_or o (find wanted (enumerate_from row.end (flat_map (held entries) rows)))) these
        ∙ option_or-some (at_or_behind first from (held entries row)) (find wanted (enumerate_from row.end (flat_map (held entries) rows))) there
        ∙ ap (λ k. at_or_behind k from (held entries row)) (sym starts)
        ∙ sym (ap (λ d. in_row entries from (cond d (Some row) (find (λ (r : Row). nat_lt from r.end) (filter (commits marks entries) rows)))) behind)
    in_first row rows first starts ends some rest true false committed behind =
        let these = first_wanted first (held entries row) (each_held (batch_at entries row.place) true committed) in
        let past : length (held entries row) ≤ max first from - first = grind (arith, nat_tests, ends, some, behind) in
        ap (λ o. option_or o (find wanted (enumerate_from row.end (flat_map (held entries) rows))))
        (these ∙ ap (option_map {U = ℕ × Record} (λ r. (max first from, r))) (slice_get-past (held entries row) (max first from - first) past))
        ∙ rest
        ∙ sym (ap (λ d. in_row entries from (cond d (Some row) (find (λ (r : Row). nat_lt from r.end) (filter (commits marks entries) rows)))) behind)
    in_first row rows first starts ends some rest false b committed behind =
        ap (λ o. option_or o (find wanted (enumerate_from row.end (flat_map (held entries) rows)))) (none_wanted first (held entries row) (each_held (batch_at entries row.place) false committed))
        ∙ rest

    pub found_in : (rows : List Row) (first : ℕ) → Chain entries first rows
        → find wanted (enumerate_from first (flat_map (held entries) rows)) ≡ in_row entries from (find (λ (r : Row). nat_lt from r.end) (filter (commits marks entries) rows))
    found_in [] first chain = refl
    found_in (row ∷ rows) first chain =
        ap (find wanted) (enumerate_from-append first (held entries row) (flat_map (held entries) rows))
        ∙ find-append wanted (enumerate_from first (held entries row)) (enumerate_from (first + length (held entries row)) (flat_map (held entries) rows))
        ∙ ap (λ k. option_or (find wanted (enumerate_from first (held entries row))) (find wanted (enumerate_from k (flat_map (held entries) rows)))) (sym chain.1)
        ∙ in_first row rows first chain.0 chain.1 chain.2 (found_in rows row.end chain.3) (commits marks entries row) (nat_lt from row.end) refl refl

-- the first of these rows that ends behind an offset, where those before it don't and those from it on do
pub behind_is : (from : ℕ) (rows : List Row) (at : ℕ) → ((k : ℕ) (d : Row) → k < at → nat_le (get_or rows k d).end from ≡ true)
    → ((k : ℕ) (d : Row) → at ≤ k → k < length rows → nat_le (get_or rows k d).end from ≡ false) → slice_get rows at ≡ find (λ (row : Row). nat_lt from row.end) rows
behind_is from [] at before behind = refl
behind_is from (row ∷ rows) zero before behind =
    let last = behind 0 row (omega arith) (omega arith) in
    let late : nat_lt from row.end ≡ true = grind (arith, nat_tests) in
    sym (ap (λ b. cond b (Some row) (find (λ (r : Row). nat_lt from r.end) rows)) late)
behind_is from (row ∷ rows) (suc at) before behind =
    let first = before 0 row (omega arith) in
    let early : nat_lt from row.end ≡ false = grind (arith, nat_tests) in
    behind_is from rows at (λ k d less. before (suc k) d (omega (arith, less))) (λ k d from_at within. behind (suc k) d (omega (arith, from_at)) (omega (arith, within)))
    ∙ sym (ap (λ b. cond b (Some row) (find (λ (r : Row). nat_lt from r.end) rows)) early)

-- rows in the order of their ends
abbrev pub Ascends : ℕ → List Row → Type 0
Ascends low [] = ⊤
Ascends low (row ∷ rows) = (low ≤ row.end) × Ascends row.end rows

pub ascends_from_chain : (entries : List DataEntry) (first : ℕ) (rows : List Row) → Chain entries first rows → Ascends first rows
ascends_from_chain entries first [] chain = tt
ascends_from_chain entries first (row ∷ rows) chain = (omega (arith, chain.1), ascends_from_chain entries row.end rows chain.3)

lower : (low high : ℕ) (rows : List Row) → low ≤ high → Ascends high rows → Ascends low rows
lower low high [] le up = tt
lower low high (row ∷ rows) le up = (omega (arith, le, up.0), up.1)

pub ascends_taken : (n low : ℕ) (rows : List Row) → Ascends low rows → Ascends low (take n rows)
ascends_taken zero low rows up = tt
ascends_taken (suc n) low [] up = tt
ascends_taken (suc n) low (row ∷ rows) up = (up.0, ascends_taken n row.end rows up.1)

kept_or_not : (b : Bool) (low : ℕ) (row : Row) (rest : List Row) → low ≤ row.end → Ascends row.end rest → Ascends low (cond b (row ∷ rest) rest)
kept_or_not true low row rest le up = (le, up)
kept_or_not false low row rest le up = lower low row.end rest le up

pub ascends_filtered : (p : Row → Bool) (low : ℕ) (rows : List Row) → Ascends low rows → Ascends low (filter p rows)
ascends_filtered p low [] up = tt
ascends_filtered p low (row ∷ rows) up = kept_or_not (p row) low row (filter p rows) up.0 (ascends_filtered p row.end rows up.1)

above : (low : ℕ) (rows : List Row) (j : ℕ) (d : Row) → Ascends low rows → j < length rows → low ≤ (get_or rows j d).end
above low [] j d up within = absurd (omega (arith, within))
above low (row ∷ rows) zero d up within = up.0
above low (row ∷ rows) (suc j) d up within = omega (arith, up.0, above row.end rows j d up.1 (omega (arith, within)))

-- rows that end at or before an offset stand before those that end behind it
pub partitioned : (from low : ℕ) (rows : List Row) → Ascends low rows → IsPartitionedBy (λ (row : Row). nat_le row.end from) rows
partitioned from low [] up i j d le within at = absurd (omega (arith, within))
partitioned from low (row ∷ rows) up zero zero d le within at = at
partitioned from low (row ∷ rows) up zero (suc j) d le within at =
    let first = above row.end rows j d up.1 (omega (arith, within)) in
    grind (arith, nat_tests)
partitioned from low (row ∷ rows) up (suc i) zero d le within at = absurd (omega (arith, le))
partitioned from low (row ∷ rows) up (suc i) (suc j) d le within at = partitioned from row.end rows up.1 i j d (omega (arith, le)) (omega (arith, within)) at
