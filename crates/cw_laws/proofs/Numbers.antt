-- What is written fits its fields: generations are numbers below 2^64, and so is each place where a record of a feed or of
-- a sequence ends, and each offset of a topic.
use Rattle.std.proofs.Common.{◌≡◌, ℕ, ◌+◌, ◌<◌, ◌≤◌, ◌^◌, ◌++◌, ◌∷◌, [], Bool, true, false, not, cond, max, nat_lt, List, Option, Some, None, Result, Ok, Err, length, map, unwrap_or, refl, sym, ap, arith, length-append}
use Rattle.std.specs.List.{AllByRecursion, cons_option, filter_map, flat_map, fold}
use Rattle.std.specs.BTreeMap.{is_at}
use Rattle.std.specs.Str.{bytes_eq}
use Rattle.std.specs.Option.{is_none}
use Rattle.std.proofs.lemmas.List.{length-map}
use Rattle.std.proofs.lemmas.List.Sums.{prefix_len-le-length}
use Rattle.std.proofs.lemmas.Bool.{ltb-false, leb-true}
use Rattle.cw_types.specs.Order.{name_cmp}
use Rattle.cw_types.specs.declared.ids.PartKey.{PartKey}
use Rattle.cw_types.specs.declared.ids.Span.{Span}
use Rattle.cw_types.specs.declared.ids.PartKey.TheVariants.{Raw, File, Seq, Sink}
use Rattle.cw_bytes.specs.declared.applied.Applied.{Applied}
use Rattle.cw_bytes.specs.Spelling.{word, text, tag_bytes, span_bytes, IsRecord, AreRecords}
use Rattle.cw_keys.specs.declared.config_key.ConfigKey.{ConfigKey}
use Rattle.cw_keys.specs.declared.config_value.ConfigValue.{ConfigValue}
use Rattle.cw_keys.specs.declared.fault.KeyFault.{KeyFault}
use Rattle.cw_keys.specs.Configs.{config_of}
use Rattle.cw_config.specs.declared.records.ConfigRecord.{ConfigRecord}
use Rattle.cw_config.specs.Acceptance.{end_of, record_with}
use Rattle.cw_io.specs.Shelf.{Files, bytes_of}
use Rattle.cw_feed.specs.Feeds.{feed_of}
use Rattle.cw_data.specs.declared.entry.Batch.{Batch}
use Rattle.cw_data.specs.declared.entry.DataEntry.{DataEntry}
use Rattle.cw_data.specs.declared.entry.DataEntry.TheVariants as data_entry
use Rattle.cw_data.specs.Body.{span_of, values_bytes, entry_bytes as data_body, AreValues}
use Rattle.cw_data.specs.Log.{Record, records_of, records_in, records, marker_of, stable}
use Rattle.cw_log.specs.Log.{length_of}
use Rattle.cw_bytes.specs.Frames.{joined}
use Rattle.cw_config.specs.Compaction.{config_in, configs_in}
use Rattle.cw_model.specs.State.{Setting, Cluster}
use Rattle.cw_model.specs.Bodies.{frame_of, has_room}
use Rattle.cw_model.specs.EventsSources.{ends_badly}
use Rattle.cw_model.specs.FactsLogs.{LogFacts, AreShort}
use Rattle.cw_laws.proofs.Written.{length-text, few-by-bytes}
use Rattle.cw_laws.proofs.Lists.{each-append}

-- ---- generations

offset-read : (offset stamp : ℕ) (read : Result (ConfigKey × Option ConfigValue) KeyFault) (r : ConfigRecord) → record_with offset stamp read ≡ Some r → r.offset ≡ offset
offset-read offset stamp (Ok read) r is = same (record { offset = offset; stamp = stamp; key = read.0; value = read.1 }) r is where
  same : (a b : ConfigRecord) → Some a ≡ Some b → b.offset ≡ a.offset
  same a b e = let one : a ≡ b = cc in sym (ap (λ (r : ConfigRecord). r.offset) one)
offset-read offset stamp (Err fault) r is = cc

-- records below a number, of which each is read with its offset
below-read : (o : Option ConfigRecord) (n : ℕ) (rest : List ConfigRecord) → ((r : ConfigRecord) → o ≡ Some r → r.offset < n) → AllByRecursion (λ r. r.offset < n) rest →
    AllByRecursion (λ r. r.offset < n) (cons_option o rest)
below-read None n rest here each = each
below-read (Some r) n rest here each = (here r refl, each)

reads-below : (applied : List Applied) → AllByRecursion IsRecord applied → AllByRecursion (λ r. r.offset < 2 ^ 64) (filter_map config_in applied)
reads-below [] each = tt
reads-below (a ∷ applied) each = below-read (config_in a) (2 ^ 64) (filter_map config_in applied)
    (λ r is. omega (arith, each.0.0, offset-read a.offset a.stamp (config_of a.key a.value) r is)) (reads-below applied each.1)

joined-records : (frames : List (List Applied)) → AllByRecursion AreRecords frames → AllByRecursion IsRecord (joined frames)
joined-records [] each = tt
joined-records (frame ∷ frames) each = each-append IsRecord frame (joined frames) each.0.each (joined-records frames each.1)

end-below : (records : List ConfigRecord) (n end : ℕ) → end ≤ n → AllByRecursion (λ r. r.offset < n) records → fold (λ end r. max end (r.offset + 1)) end records ≤ n
end-below [] n end below each = below
end-below (r ∷ records) n end below each = end-below records n (max end (r.offset + 1)) (omega (arith, each.0)) each.1

-- the config log's end is a number that fits, or just above all that do
pub end-fits : (setting : Setting) (s : Cluster) → LogFacts setting s → end_of s.configs ≤ 2 ^ 64
end-fits setting s f =
    let standing : end_of (configs_in s.config.frames) ≤ 2 ^ 64 =
    end-below (configs_in s.config.frames) (2 ^ 64) 0 (omega arith) (reads-below (joined s.config.frames) (joined-records s.config.frames f.written.config)) in
    omega (arith, standing, f.configs.same.end)

-- ---- places in feeds and sequences

bytes-short : (o rest : Option (List ℕ)) (b : Bool) → length (unwrap_or o []) < 2 ^ 64 → length (unwrap_or rest []) < 2 ^ 64 → length (unwrap_or (cond b o rest) []) < 2 ^ 64
bytes-short o rest true here behind = here
bytes-short o rest false here behind = behind

feed-short : (name : List ℕ) (feeds : Files) → AreShort feeds → length (feed_of name feeds) < 2 ^ 64
feed-short name [] short = omega arith
feed-short name (feed ∷ feeds) short = bytes-short (Some feed.1) (bytes_of name feeds) (is_at (name_cmp name) feed.0) short.0 (feed-short name feeds short.1)

in-feed : (b rest : Bool) → cond b true rest ≡ false → b ≡ false
in-feed true rest bad = cc
in-feed false rest bad = refl

-- where a part has a record's end, that is a number that fits
pub end_place-fits : (feeds : Files) (part : PartKey) (count to : ℕ) → AreShort feeds → count < 2 ^ 64 → ends_badly feeds part count to ≡ false → to < 2 ^ 64
end_place-fits feeds (File connector feed) count to short few well =
    let within : nat_lt (length (feed_of feed feeds)) to ≡ false = in-feed (nat_lt (length (feed_of feed feeds)) to) _ well in
    omega (arith, ltb-false (length (feed_of feed feeds)) to within, feed-short feed feeds short)
end_place-fits feeds (Seq connector index) count to short few well = omega (arith, ltb-false count to well, few)
end_place-fits feeds (Raw n) count to short few well = cc
end_place-fits feeds (Sink connector topic) count to short few well = cc

-- ---- records of a topic

-- a batch has more bytes than records
pub values-few : (batch : Batch) → length batch.values ≤ length (data_body (data_entry.Batch batch))
values-few batch =
    let span : Span = span_of batch in
    omega (
      arith,
      few-by-bytes text batch.values (λ value. omega (arith, length-text value)),
      length-append (word (length batch.values)) (flat_map text batch.values),
      length-append (span_bytes span) (values_bytes batch.values),
      length-append (text batch.topic) (span_bytes span ++ values_bytes batch.values),
      length-append (tag_bytes batch.tag) (text batch.topic ++ (span_bytes span ++ values_bytes batch.values)),
    )

records-if : (b : Bool) (records : List Record) (n : ℕ) → length records ≤ n → length (cond b records []) ≤ n
records-if true records n few = few
records-if false records n few = omega arith

records-few : (topic : List ℕ) (entry : DataEntry) → length (records_in topic entry) ≤ length (data_body entry)
records-few topic (data_entry.Batch batch) = records-if (bytes_eq topic batch.topic) (records_of batch) (length (data_body (data_entry.Batch batch)))
    (omega (arith, values-few batch, length-map {B = Record} batch.values (λ (value : List ℕ). record { tag = batch.tag; value = value })))
records-few topic (data_entry.Mark tag committed) = omega arith

all_records-few : (topic : List ℕ) (log : List DataEntry) → length (records topic log) ≤ length_of (map data_body log)
all_records-few topic [] = omega arith
all_records-few topic (entry ∷ log) = omega (arith, records-few topic entry, all_records-few topic log, length-append (records_in topic entry) (records topic log))

-- an offset of a topic is a number that fits
pub stable-fits : (setting : Setting) (s : Cluster) (topic : List ℕ) → LogFacts setting s → stable topic s.batches < 2 ^ 64
stable-fits setting s topic f =
    let test : Record → Bool = λ r. is_none (marker_of r.tag s.batches) in
    omega (arith, prefix_len-le-length (λ r. not (test r)) (records topic s.batches), all_records-few topic s.batches, f.disks.batches)

-- ---- the values of a batch

each-text : (values : List (List ℕ)) (n : ℕ) → length (flat_map text values) < n → AllByRecursion (λ value. length value < n) values
each-text [] n few = tt
each-text (value ∷ values) n few = (
  omega (arith, few, length-append (text value) (flat_map text values), length-text value),
  each-text values n (omega (arith, few, length-append (text value) (flat_map text values))),
)

-- values that a log has room for
pub values-fit : (batch : Batch) (size : ℕ) → has_room size (frame_of (data_body (data_entry.Batch batch))) ≡ true → AreValues batch.values
values-fit batch size room =
    let span : Span = span_of batch in
    let most : size + (length (data_body (data_entry.Batch batch)) + 5) ≤ 2 ^ 28 = leb-true (size + (length (data_body (data_entry.Batch batch)) + 5)) (2 ^ 28) room in
    let short : length (flat_map text batch.values) < 2 ^ 32 = omega (
      arith,
      most,
      length-append (word (length batch.values)) (flat_map text batch.values),
      length-append (span_bytes span) (values_bytes batch.values),
      length-append (text batch.topic) (span_bytes span ++ values_bytes batch.values),
      length-append (tag_bytes batch.tag) (text batch.topic ++ (span_bytes span ++ values_bytes batch.values)),
    ) in
    (omega (arith, most, values-few batch), each-text batch.values (2 ^ 32) short)
