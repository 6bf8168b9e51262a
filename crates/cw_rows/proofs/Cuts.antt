-- How many bytes a batch has.
use Rattle.std.proofs.Common.{◌≡◌, ℕ, zero, suc, ◌+◌, ◌<◌, ◌^◌, ◌++◌, ◌∷◌, [], List, length, take, get_or, ap, ◌∙◌, arith, length-append}
use Rattle.std.specs.List.{AllByRecursion, flat_map}
use Rattle.cw_bytes.specs.Spelling.{word, text, tag_bytes, span_bytes, IsText}
use Rattle.cw_data.specs.Body.{span_of, values_bytes, entry_bytes, AreValues}
use Rattle.cw_data.specs.declared.entry.Batch.{Batch}
use Rattle.cw_data.specs.declared.entry.DataEntry.TheVariants.{Batch as InBatch}
use Rattle.cw_topics.proofs.Counts.{length-word, length-text, texts-few}

-- values whose texts have few bytes are few, and each of them is short
each-short : (values : List (List ℕ)) → length (flat_map text values) < 2 ^ 32 → AllByRecursion IsText values
each-short [] short = tt
each-short (value ∷ values) short = (
  omega (arith, short, length-append (text value) (flat_map text values), length-text value),
  each-short values (omega (arith, short, length-append (text value) (flat_map text values))),
)

pub short-values : (values : List (List ℕ)) → length (flat_map text values) < 2 ^ 32 → AreValues values
short-values values short = (omega (arith, short, texts-few values), each-short values short)

-- one value more
pub texts-next : (values : List (List ℕ)) (k : ℕ) (d : List ℕ) → k < length values →
    length (flat_map text (take (k + 1) values)) ≡ length (flat_map text (take k values)) + (4 + length (get_or values k d))
texts-next [] k d within = absurd (omega (arith, within))
texts-next (v ∷ values) zero d within = omega (arith, length-append (text v) [], length-text v)
texts-next (v ∷ values) (suc k) d within =
    let next : suc k + 1 ≡ suc (k + 1) = omega arith in
    ap (λ (n : ℕ). length (flat_map text (take n (v ∷ values)))) next ∙ omega (
      arith,
      texts-next values k d (omega (arith, within)),
      length-append (text v) (flat_map text (take (k + 1) values)),
      length-append (text v) (flat_map text (take k values)),
    )

-- a batch has the bytes of its values' texts beside those of one without any
pub batch_size : (batch : Batch) → length (entry_bytes (InBatch batch)) ≡ length (entry_bytes (InBatch (record batch { values = [] }))) + length (flat_map text batch.values)
batch_size batch = omega (
  arith,
  length-word (length batch.values),
  length-word 0,
  length-append (word (length batch.values)) (flat_map text batch.values),
  length-append (word 0) [],
  length-append (span_bytes (span_of batch)) (values_bytes batch.values),
  length-append (span_bytes (span_of batch)) (values_bytes []),
  length-append (text batch.topic) (span_bytes (span_of batch) ++ values_bytes batch.values),
  length-append (text batch.topic) (span_bytes (span_of batch) ++ values_bytes []),
  length-append (tag_bytes batch.tag) (text batch.topic ++ (span_bytes (span_of batch) ++ values_bytes batch.values)),
  length-append (tag_bytes batch.tag) (text batch.topic ++ (span_bytes (span_of batch) ++ values_bytes [])),
)
