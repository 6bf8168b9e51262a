-- A topic's rows hold its records, one row behind the other.
use Rattle.std.proofs.Common.{◌≡◌, ℕ, zero, suc, ◌+◌, ◌≤◌, Bool, true, false, cond, List, [], ◌∷◌, ◌++◌, length, take, drop, map, Option, None, Some, is_some, refl, sym, ap, subst, ◌∙◌, arith, append_assoc, length-append}
use Rattle.std.specs.Bool.{⊤}
use Rattle.std.specs.Str.{bytes_eq}
use Rattle.std.specs.List.{flat_map, prefix_len, AllByRecursion}
use Rattle.std.proofs.lemmas.List.{nil_from_length, length_push}
use Rattle.cw_types.specs.declared.ids.Tag.{Tag}
use Rattle.cw_data.specs.declared.entry.Batch.{Batch}
use Rattle.cw_data.specs.declared.entry.DataEntry.{DataEntry}
use Rattle.cw_data.specs.declared.entry.DataEntry.TheVariants.{Batch as InBatch, Mark}
use Rattle.cw_data.specs.declared.topic.Row.{Row}
use Rattle.cw_data.specs.Log.{Record, records_of, records_in, records}
use Rattle.cw_data.specs.Rows.{Marks, batch_in, batch_at, mark_of_batch, is_marked, rows_in, rows_from, BeginsUnmarked, first_or}
use Rattle.cw_data.proofs.Lists.{slice_get-here, prefix_len-all, prefix_len-none, take-behind}

-- the records of the batch at a place
abbrev pub records_in_batch : Option Batch → List Record
records_in_batch None = []
records_in_batch (Some batch) = records_of batch

abbrev pub held : List DataEntry → Row → List Record
held entries row = records_in_batch (batch_at entries row.place)

-- rows that follow each other from an offset on, each with its records
abbrev pub Chain : List DataEntry → ℕ → List Row → Type 0
Chain entries first [] = ⊤
Chain entries first (row ∷ rows) = (row.first ≡ first) × (row.end ≡ first + length (held entries row)) × (1 ≤ length (held entries row)) × Chain entries row.end rows

chain_in : (entries : List DataEntry) (place first count : ℕ) (rows : List Row) → (1 ≤ count → length (records_in_batch (batch_at entries place)) ≡ count) → Chain entries (first + count) rows → Chain entries first (rows_in place first count ++ rows)
chain_in entries place first zero rows same chain = let e : first + 0 ≡ first = omega arith in subst (λ n. Chain entries n rows) e chain
chain_in entries place first (suc more) rows same chain =
    let n : length (records_in_batch (batch_at entries place)) ≡ suc more = same (omega arith) in
    (refl, ap (λ k. first + k) (sym n), omega (arith, n), chain)

joined_in : (entries : List DataEntry) (place first count : ℕ) (these : List Record) (rows : List Row) → length these ≡ count → (1 ≤ count → records_in_batch (batch_at entries place) ≡ these)
    → flat_map (held entries) (rows_in place first count ++ rows) ≡ these ++ flat_map (held entries) rows
joined_in entries place first zero these rows none same = sym (ap (λ (l : List Record). l ++ flat_map (held entries) rows) (nil_from_length these none))
joined_in entries place first (suc more) these rows some same = ap (λ (l : List Record). l ++ flat_map (held entries) rows) (same (omega arith))

-- an entry that adds records to a topic is a batch of them
none_or_all : (b : Bool) (these : List Record) → 1 ≤ length (cond b these []) → these ≡ cond b these []
none_or_all true these some = refl
none_or_all false these some = absurd (omega (arith, some))

adds : (name : List ℕ) (entry : DataEntry) → 1 ≤ length (records_in name entry) → records_in_batch (batch_in (Some entry)) ≡ records_in name entry
adds name (InBatch batch) some = none_or_all (bytes_eq name batch.topic) (records_of batch) some
adds name (Mark tag committed) some = absurd (omega (arith, some))

held_at : (front : List DataEntry) (e : DataEntry) (es : List DataEntry) (name : List ℕ) → 1 ≤ length (records_in name e) → records_in_batch (batch_at (front ++ e ∷ es) (length front)) ≡ records_in name e
held_at front e es name some = ap (λ o. records_in_batch (batch_in o)) (slice_get-here front e es) ∙ adds name e some

pub rows_chain : (name : List ℕ) (front es : List DataEntry) (first : ℕ) → Chain (front ++ es) first (rows_from name (length front) first es)
rows_chain name front [] first = tt
rows_chain name front (e ∷ es) first =
    chain_in (front ++ e ∷ es) (length front) first (length (records_in name e)) (rows_from name (length front + 1) (first + length (records_in name e)) es)
    (λ some. ap length (held_at front e es name some))
    (subst (λ n. Chain (front ++ e ∷ es) (first + length (records_in name e)) (rows_from name n (first + length (records_in name e)) es)) (length_push front e)
    (subst (λ (l : List DataEntry). Chain l (first + length (records_in name e)) (rows_from name (length (front ++ e ∷ [])) (first + length (records_in name e)) es)) (append_assoc front (e ∷ []) es)
    (rows_chain name (front ++ e ∷ []) es (first + length (records_in name e)))))

pub rows_joined : (name : List ℕ) (front es : List DataEntry) (first : ℕ) → flat_map (held (front ++ es)) (rows_from name (length front) first es) ≡ records name es
rows_joined name front [] first = refl
rows_joined name front (e ∷ es) first =
    joined_in (front ++ e ∷ es) (length front) first (length (records_in name e)) (records_in name e) (rows_from name (length front + 1) (first + length (records_in name e)) es) refl
    (λ some. held_at front e es name some)
    ∙ ap (λ (l : List Record). records_in name e ++ l)
    (subst (λ n. flat_map (held (front ++ e ∷ es)) (rows_from name n (first + length (records_in name e)) es) ≡ records name es) (length_push front e)
    (subst (λ (l : List DataEntry). flat_map (held l) (rows_from name (length (front ++ e ∷ [])) (first + length (records_in name e)) es) ≡ records name es) (append_assoc front (e ∷ []) es)
    (rows_joined name (front ++ e ∷ []) es (first + length (records_in name e)))))

-- a test of records that tells whether their batch is marked
module _ (marks : Marks) (entries : List DataEntry) (p : Record → Bool) (tells : (r : Record) → p r ≡ is_some (marks r.tag)) where
  each_value : (tag : Tag) (b : Bool) → is_some (marks tag) ≡ b → (values : List (List ℕ)) → AllByRecursion (λ r. p r ≡ b) (map (λ (value : List ℕ). record { tag = tag; value = value }) values)
  each_value tag b is [] = tt
  each_value tag b is (value ∷ values) = (tells (record { tag = tag; value = value }) ∙ is, each_value tag b is values)

  each_held : (o : Option Batch) (b : Bool) → is_some (mark_of_batch marks o) ≡ b → AllByRecursion (λ r. p r ≡ b) (records_in_batch o)
  each_held None b is = tt
  each_held (Some batch) b is = each_value batch.tag b is batch.values

  -- the front of the records that pass ends where the first row without marker begins
  pub front_ends : (rows : List Row) (first n : ℕ) → Chain entries first rows → AllByRecursion (λ row. is_marked marks entries row ≡ true) (take n rows) → BeginsUnmarked marks entries (drop n rows)
      → first + prefix_len p (flat_map (held entries) rows) ≡ first_or (first + length (flat_map (held entries) rows)) (drop n rows)
  front_ends [] first zero chain marked next = refl
  front_ends [] first (suc n) chain marked next = refl
  front_ends (row ∷ rows) first zero chain marked next =
      let none = prefix_len-none p (held entries row) (flat_map (held entries) rows) chain.2 (each_held (batch_at entries row.place) false next) in
      omega (arith, none, chain.0)
  front_ends (row ∷ rows) first (suc n) chain marked next =
      let all = prefix_len-all p (held entries row) (flat_map (held entries) rows) (each_held (batch_at entries row.place) true marked.0) in
      let rest = front_ends rows row.end n chain.3 marked.1 next in
      let here : first + prefix_len p (held entries row ++ flat_map (held entries) rows) ≡ row.end + prefix_len p (flat_map (held entries) rows) = omega (arith, all, chain.1) in
      let there : row.end + length (flat_map (held entries) rows) ≡ first + length (held entries row ++ flat_map (held entries) rows) = omega (arith, length-append (held entries row) (flat_map (held entries) rows), chain.1) in
      here ∙ rest ∙ ap (λ k. first_or k (drop n rows)) there

  -- and is what the rows before it hold
  pub front_is : (rows : List Row) (first n : ℕ) → Chain entries first rows → AllByRecursion (λ row. is_marked marks entries row ≡ true) (take n rows) → BeginsUnmarked marks entries (drop n rows)
      → take (prefix_len p (flat_map (held entries) rows)) (flat_map (held entries) rows) ≡ flat_map (held entries) (take n rows)
  front_is [] first zero chain marked next = refl
  front_is [] first (suc n) chain marked next = refl
  front_is (row ∷ rows) first zero chain marked next =
      ap (λ k. take k (held entries row ++ flat_map (held entries) rows)) (prefix_len-none p (held entries row) (flat_map (held entries) rows) chain.2 (each_held (batch_at entries row.place) false next))
  front_is (row ∷ rows) first (suc n) chain marked next =
      ap (λ k. take k (held entries row ++ flat_map (held entries) rows)) (prefix_len-all p (held entries row) (flat_map (held entries) rows) (each_held (batch_at entries row.place) true marked.0))
      ∙ take-behind (held entries row) (flat_map (held entries) rows) (prefix_len p (flat_map (held entries) rows))
      ∙ ap (λ (l : List Record). held entries row ++ l) (front_is rows row.end n chain.3 marked.1 next)
