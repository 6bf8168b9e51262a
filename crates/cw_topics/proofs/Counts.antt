-- How many bytes a batch has, and how many records a log.
use Rattle.std.proofs.Common.{◌≡◌, ℕ, ◌+◌, ◌<◌, ◌≤◌, ◌^◌, ◌++◌, ◌∷◌, [], Bool, true, false, cond, List, length, map, arith, length-append, refl}
use Rattle.std.specs.List.{flat_map}
use Rattle.std.proofs.lemmas.Bool.{leb-true}
use Rattle.std.proofs.lemmas.List.{length-map}
use Rattle.cw_bytes.specs.Spelling.{word, text, tag_bytes, span_bytes}
use Rattle.cw_data.specs.Body.{span_of, values_bytes, entry_bytes}
use Rattle.cw_data.specs.Log.{Record, records_of, records_in, records}
use Rattle.cw_data.specs.declared.entry.Batch.{Batch}
use Rattle.cw_data.specs.declared.entry.DataEntry.{DataEntry}
use Rattle.cw_data.specs.declared.entry.DataEntry.TheVariants.{Batch as InBatch, Mark}
use Rattle.std.specs.Str.{bytes_eq}
use Rattle.cw_log.specs.Log.{length_of}
use Rattle.cw_model.specs.Bodies.{frame_of, has_room}

pub length-word : (n : ℕ) → length (word n) ≡ 4
unfolding word
length-word n = refl

pub length-text : (bytes : List ℕ) → length (text bytes) ≡ 4 + length bytes
unfolding text
length-text bytes = omega (arith, length-append (word (length bytes)) bytes, length-word (length bytes))

pub texts-few : (values : List (List ℕ)) → length values ≤ length (flat_map text values)
texts-few [] = omega arith
texts-few (value ∷ values) = omega (arith, texts-few values, length-append (text value) (flat_map text values), length-text value)

-- a batch has more bytes than records
pub values-few : (batch : Batch) → length batch.values ≤ length (entry_bytes (InBatch batch))
values-few batch = omega (
  arith,
  texts-few batch.values,
  length-append (word (length batch.values)) (flat_map text batch.values),
  length-append (span_bytes (span_of batch)) (values_bytes batch.values),
  length-append (text batch.topic) (span_bytes (span_of batch) ++ values_bytes batch.values),
  length-append (tag_bytes batch.tag) (text batch.topic ++ (span_bytes (span_of batch) ++ values_bytes batch.values)),
)

records-if : (b : Bool) (records : List Record) (n : ℕ) → length records ≤ n → length (cond b records []) ≤ n
records-if true records n few = few
records-if false records n few = omega arith

records-few : (topic : List ℕ) (entry : DataEntry) → length (records_in topic entry) ≤ length (entry_bytes entry)
records-few topic (InBatch batch) = records-if (bytes_eq topic batch.topic) (records_of batch) (length (entry_bytes (InBatch batch)))
    (omega (arith, values-few batch, length-map {B = Record} batch.values (λ (value : List ℕ). record { tag = batch.tag; value = value })))
records-few topic (Mark tag committed) = omega arith

pub all_records-few : (topic : List ℕ) (log : List DataEntry) → length (records topic log) ≤ length_of (map entry_bytes log)
all_records-few topic [] = omega arith
all_records-few topic (entry ∷ log) = omega (arith, records-few topic entry, all_records-few topic log, length-append (records_in topic entry) (records topic log))

-- where the log has room for a batch, the records of its topic can still be counted
pub records-fit : (batch : Batch) (log : List DataEntry) → has_room (length_of (map entry_bytes log)) (frame_of (entry_bytes (InBatch batch))) ≡ true →
    length (records batch.topic log) + length batch.values < 2 ^ 64
records-fit batch log room =
    let size = length_of (map entry_bytes log) in
    let most : size + (length (entry_bytes (InBatch batch)) + 5) ≤ 2 ^ 28 = leb-true (size + (length (entry_bytes (InBatch batch)) + 5)) (2 ^ 28) room in
    omega (arith, most, all_records-few batch.topic log, values-few batch)
