-- What the look-ups say of the whole list.
use Rattle.std.proofs.Common.{◌≡◌, ℕ, zero, suc, ◌+◌, ◌-◌, max, Bool, not, List, [], ◌∷◌, length, take, drop, Option, None, Some, is_some, is_none, refl, sym, ap, subst, ◌∙◌, arith}
use Rattle.std.specs.Prelude.{slice_get, nat_lt, nat_le}
use Rattle.std.specs.Option.{option_map}
use Rattle.std.specs.List.{filter, find, flat_map, prefix_len, enumerate_from}
use Rattle.std.specs.List.Sorted.{IsPartitionedBy}
use Rattle.cw_types.specs.declared.ids.Tag.{Tag}
use Rattle.cw_data.specs.declared.entry.Batch.{Batch}
use Rattle.cw_data.specs.declared.entry.DataEntry.{DataEntry}
use Rattle.cw_data.specs.declared.topic.Row.{Row}
use Rattle.cw_data.specs.declared.topic.Topic.{Topic}
use Rattle.cw_data.specs.Log.{Record, records, marker_of, stable, taken, is_commit}
use Rattle.cw_data.specs.Rows.{Marks, values_in, batch_at, commits, rows_of, IsTopic, first_or}
use Rattle.cw_data.proofs.Lists.{slice_get-map}
use Rattle.cw_data.proofs.Chains.{records_in_batch, held, Chain, rows_chain, rows_joined, front_ends, front_is}
use Rattle.cw_data.proofs.Takes.{in_row, wanted, found_in, ascends_from_chain, ascends_taken, ascends_filtered, partitioned}

some_not_none : (o : Option Bool) → not (is_none o) ≡ is_some o
some_not_none None = refl
some_not_none (Some b) = refl

chain_taken : (entries : List DataEntry) (n first : ℕ) (rows : List Row) → Chain entries first rows → Chain entries first (take n rows)
chain_taken entries zero first rows chain = tt
chain_taken entries (suc n) first [] chain = tt
chain_taken entries (suc n) first (row ∷ rows) chain = (chain.0, chain.1, chain.2, chain_taken entries n row.end rows chain.3)

abbrev pub told : Option (ℕ × Record) → Option (ℕ × List ℕ)
told o = option_map {U = ℕ × List ℕ} (λ p. (p.0, p.1.value)) o

mapped : (k : ℕ) (tag : Tag) (o : Option (List ℕ)) → told (option_map {U = ℕ × Record} (λ r. (k, r)) (option_map (λ (value : List ℕ). record { tag = tag; value = value }) o)) ≡ option_map {U = ℕ × List ℕ} (λ v. (k, v)) o
mapped k tag None = refl
mapped k tag (Some v) = refl

valued : (k i : ℕ) (o : Option Batch) → told (option_map {U = ℕ × Record} (λ r. (k, r)) (slice_get (records_in_batch o) i)) ≡ option_map {U = ℕ × List ℕ} (λ v. (k, v)) (slice_get (values_in o) i)
valued k i None = refl
valued k i (Some batch) =
    ap (λ o. told (option_map {U = ℕ × Record} (λ r. (k, r)) o)) (slice_get-map (λ (value : List ℕ). record { tag = batch.tag; value = value }) batch.values i)
    ∙ mapped k batch.tag (slice_get batch.values i)

abbrev pub pair : ℕ → List ℕ → Option (ℕ × List ℕ)
pair k v = Some (k, v)

-- what a row gives from an offset on
pub in_row_is : (entries : List DataEntry) (from : ℕ) (row : Row) → told (in_row entries from (Some row)) ≡ option_map {U = ℕ × List ℕ} (λ v. (max row.first from, v)) (slice_get (values_in (batch_at entries row.place)) (max row.first from - row.first))
in_row_is entries from row = valued (max row.first from) (max row.first from - row.first) (batch_at entries row.place)

module _ (marks : Marks) (entries : List DataEntry) (same : (tag : Tag) → marks tag ≡ marker_of tag entries) (name : List ℕ) (topic : Topic) (was : IsTopic marks entries name topic) where
  abbrev marked : Record → Bool
  marked r = not (is_none (marker_of r.tag entries))

  tells_marked : (r : Record) → marked r ≡ is_some (marks r.tag)
  tells_marked r = some_not_none (marker_of r.tag entries) ∙ ap is_some (sym (same r.tag))

  chain : Chain entries 0 (rows_of name entries)
  chain = rows_chain name [] entries 0

  joined : flat_map (held entries) (rows_of name entries) ≡ records name entries
  joined = rows_joined name [] entries 0

  pub stable_is : first_or topic.end (drop topic.passed topic.rows.items) ≡ stable name entries
  stable_is =
      let ends : 0 + prefix_len marked (flat_map (held entries) (rows_of name entries)) ≡ first_or (0 + length (flat_map (held entries) (rows_of name entries))) (drop topic.passed (rows_of name entries)) =
      front_ends marks entries marked tells_marked (rows_of name entries) 0 topic.passed chain was.waits.marked was.next in
      let end : topic.end ≡ 0 + length (flat_map (held entries) (rows_of name entries)) = omega (arith, was.waits.end, ap length joined) in
      let front : 0 + prefix_len marked (flat_map (held entries) (rows_of name entries)) ≡ prefix_len marked (flat_map (held entries) (rows_of name entries)) = omega arith in
      ap (λ (rows : List Row). first_or topic.end rows) was.waits.back ∙ ap (λ n. first_or n (drop topic.passed (rows_of name entries))) end ∙ sym ends ∙ front ∙ ap (prefix_len marked) joined

  pub taken_is : (from : ℕ) → taken name from entries ≡ told (in_row entries from (find (λ (row : Row). nat_lt from row.end) (take topic.kept topic.rows.items)))
  taken_is from =
      let front : take (stable name entries) (records name entries) ≡ flat_map (held entries) (take topic.passed (rows_of name entries)) =
      sym (ap (λ (l : List Record). take (prefix_len marked l) l) joined) ∙ front_is marks entries marked tells_marked (rows_of name entries) 0 topic.passed chain was.waits.marked was.next in
      ap (λ (l : List Record). told (find (wanted from (λ r. is_commit (marker_of r.tag entries))) (enumerate_from 0 l))) front
      ∙ ap told (found_in from (λ r. is_commit (marker_of r.tag entries)) marks entries (λ r. ap is_commit (sym (same r.tag))) (take topic.passed (rows_of name entries)) 0
      (chain_taken entries topic.passed 0 (rows_of name entries) chain))
      ∙ ap (λ (rows : List Row). told (in_row entries from (find (λ (row : Row). nat_lt from row.end) rows))) (sym was.waits.front)

  pub rising : (from : ℕ) → IsPartitionedBy (λ (row : Row). nat_le row.end from) (take topic.kept topic.rows.items)
  rising from = subst (IsPartitionedBy (λ (row : Row). nat_le row.end from)) (sym was.waits.front)
      (partitioned from 0 (filter (commits marks entries) (take topic.passed (rows_of name entries)))
      (ascends_filtered (commits marks entries) 0 (take topic.passed (rows_of name entries))
      (ascends_taken topic.passed 0 (rows_of name entries) (ascends_from_chain entries 0 (rows_of name entries) chain))))
