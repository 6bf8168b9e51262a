-- What a log has room for is so short that its lengths and places fit their fields.
use Rattle.std.proofs.Common.{◌≡◌, ℕ, ◌+◌, ◌≤◌, ◌<◌, ◌^◌, ◌++◌, ◌∷◌, [], true, List, Option, Some, None, length, map, refl, ap, ◌∙◌, arith, length-append}
use Rattle.std.specs.List.{flat_map, AllByRecursion}
use Rattle.std.proofs.lemmas.List.{append-nil}
use Rattle.std.proofs.lemmas.List.Concat.{flat_map-append}
use borrow.Author.Tests.{leb-true}
use Rattle.cw_bytes.specs.declared.applied.Applied.{Applied}
use Rattle.cw_bytes.specs.Spelling.{word, long, text, value_bytes, record_bytes, records_bytes, IsValue, IsRecord, AreRecords}
use Rattle.cw_log.specs.Log.{length_of}
use Rattle.cw_txn.specs.declared.entry.Entry.{Entry}
use Rattle.cw_txn.specs.declared.entry.Entry.TheVariants.{Bump, Commit, Set}
use Rattle.cw_txn.specs.Body.{entry_bytes, entries_bytes}
use Rattle.cw_bytes.specs.Frames.{joined}
use Rattle.cw_model.specs.State.{Setting, Cluster}
use Rattle.cw_model.specs.Lookups.{list_end}
use Rattle.cw_model.specs.Bodies.{frame_of, has_room}
use Rattle.cw_model.specs.FactsLogs.{LogFacts}

-- one frame more
pub joined-push : {A : Type 0} (frames : List (List A)) (frame : List A) → joined (frames ++ frame ∷ []) ≡ joined frames ++ frame
joined-push frames frame = flat_map-append (λ frame. frame) frames (frame ∷ []) ∙ ap (λ l. joined frames ++ l) (append-nil frame)

pub length-word : (n : ℕ) → length (word n) ≡ 4
unfolding word
length-word n = refl

length-long : (n : ℕ) → length (long n) ≡ 8
unfolding long
length-long n = refl

pub length-text : (bytes : List ℕ) → length (text bytes) ≡ 4 + length bytes
unfolding text
length-text bytes = omega (arith, length-append (word (length bytes)) bytes, length-word (length bytes))

-- ---- records

-- a record's texts are no longer than the record
value-short : (value : Option (List ℕ)) → length (value_bytes value) < 2 ^ 32 → IsValue value
value-short None short = tt
value-short (Some value) short = omega (arith, short, length-text value)

record-length : (r : Applied) → length (record_bytes r) ≡ 20 + (length r.key + length (value_bytes r.value))
record-length r = omega (
  arith,
  length-append (long r.offset) (long r.stamp ++ (text r.key ++ value_bytes r.value)),
  length-append (long r.stamp) (text r.key ++ value_bytes r.value),
  length-append (text r.key) (value_bytes r.value),
  length-long r.offset,
  length-long r.stamp,
  length-text r.key,
)

-- a record's numbers fit their fields
pub record HasNumbers (r : Applied) : Type 0 where
  pub offset : r.offset < 2 ^ 64
  pub stamp : r.stamp < 2 ^ 64

record-written : (r : Applied) → HasNumbers r → length (record_bytes r) < 2 ^ 32 → IsRecord r
record-written r fit short = (fit.offset, fit.stamp, omega (arith, short, record-length r), value-short r.value (omega (arith, short, record-length r)))

each-written : (records : List Applied) → AllByRecursion HasNumbers records → length (flat_map record_bytes records) < 2 ^ 32 → AllByRecursion IsRecord records
each-written [] fit short = tt
each-written (r ∷ records) fit short = (
  record-written r fit.0 (omega (arith, short, length-append (record_bytes r) (flat_map record_bytes records))),
  each-written records fit.1 (omega (arith, short, length-append (record_bytes r) (flat_map record_bytes records))),
)

-- a list has no more elements than bytes, where each has one at least
pub few-by-bytes : {A : Type 0} (bytes : A → List ℕ) (xs : List A) → ((x : A) → 1 ≤ length (bytes x)) → length xs ≤ length (flat_map bytes xs)
few-by-bytes bytes [] some = omega arith
few-by-bytes bytes (x ∷ xs) some = omega (arith, some x, few-by-bytes bytes xs some, length-append (bytes x) (flat_map bytes xs))

-- records for which a log has room can be written
pub records-written : (records : List Applied) (size : ℕ) → 1 ≤ length records → has_room size (frame_of (records_bytes records)) ≡ true → AllByRecursion HasNumbers records →
    AreRecords records
records-written records size some room fit =
    let most : size + (length (records_bytes records) + 5) ≤ 2 ^ 28 = leb-true (size + (length (records_bytes records) + 5)) (2 ^ 28) room in
    let short : length (flat_map record_bytes records) < 2 ^ 32 =
    omega (arith, most, length-append (word (length records)) (flat_map record_bytes records)) in
    record {
      some = some;
      few = omega (arith, short, few-by-bytes record_bytes records (λ r. omega (arith, record-length r)));
      each = each-written records fit short;
    }

-- ---- transactions

entry-some : (entry : Entry) → 1 ≤ length (entry_bytes entry)
entry-some (Bump tid) = omega arith
entry-some (Commit tag generation spans) = omega arith
entry-some (Set tid epoch list) = omega arith

-- a frame has more bytes than entries
pub frame-few : (frame : List Entry) → length frame + 4 ≤ length (entries_bytes frame)
frame-few frame = omega (arith, few-by-bytes entry_bytes frame entry-some, length-append (word (length frame)) (flat_map entry_bytes frame), length-word (length frame))

entries-few : (frames : List (List Entry)) → length (joined frames) + 17 ≤ length_of (map entries_bytes frames)
entries-few [] = omega arith
entries-few (frame ∷ frames) = omega (arith, entries-few frames, length-append frame (joined frames), frame-few frame)

-- the transaction list is short
pub list-short : (setting : Setting) (s : Cluster) → LogFacts setting s → list_end s.entries + 17 < 2 ^ 64
list-short setting s f = omega (arith, f.disks.txn, entries-few s.txn, ap length f.all_entries)

-- the transaction list's end is a stamp
pub end-fits : (setting : Setting) (s : Cluster) → LogFacts setting s → list_end s.entries < 2 ^ 64
end-fits setting s f = omega (arith, list-short setting s f)
