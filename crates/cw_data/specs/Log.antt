-- The data log: batches of records, and markers that say how their transactions ended (KIP-98, control records). That
-- a topic's offsets are places in one log of all topics, and that markers take none, is this project's own.
use Rattle.std.specs.Prelude.{ℕ, Bool, false, ◌&&◌, List, [], ◌∷◌, map, take, nat_le, Option, None, Some, is_none}
use Rattle.std.specs.Prelude.{unwrap_or, if◌then◌else◌}
use Rattle.std.specs.Option.{option_map, option_or}
use Rattle.std.specs.List.{flat_map, filter_map, find, position_or_len, enumerate_from}
use Rattle.std.specs.Str.{bytes_eq}
use Rattle.cw_types.specs.Verdict.{has_ended}
use Rattle.cw_types.specs.declared.ids.Tag.{Tag}
use Rattle.cw_types.specs.declared.verdict.Verdict.{Verdict}
use Rattle.cw_data.specs.declared.entry.Batch.{Batch}
use Rattle.cw_data.specs.declared.entry.DataEntry.{DataEntry}
use Rattle.cw_data.specs.declared.entry.DataEntry.TheVariants.{Batch as InBatch, Mark}
use Rattle.cw_types.specs.Same.{same_tag}

-- a record of a topic: the transaction that wrote it, and its value
pub record Record : Type 0 where
  pub tag : Tag
  pub value : List ℕ

-- the records of a batch
abbrev pub records_of : Batch → List Record
records_of batch = map (λ value. record { tag = batch.tag; value = value }) batch.values

-- what an entry adds to a topic
abbrev pub records_in : List ℕ → DataEntry → List Record
records_in topic (InBatch batch) = if bytes_eq topic batch.topic then records_of batch else []
records_in topic (Mark tag committed) = []

-- the records of a topic in order; the place of each is its offset, whether it is committed or not
abbrev pub records : List ℕ → List DataEntry → List Record
records topic entries = flat_map (records_in topic) entries

-- what an entry says of how a transaction ended
abbrev pub mark_in : Tag → DataEntry → Option Bool
mark_in tag (InBatch batch) = None
mark_in tag (Mark other committed) = if same_tag tag other then Some committed else None

-- whether a transaction is committed, by its first marker; none where it has no marker
abbrev pub marker_of : Tag → List DataEntry → Option Bool
marker_of tag [] = None
marker_of tag (entry ∷ entries) = option_or (mark_in tag entry) (marker_of tag entries)

-- the last stable offset: the place of the first record without marker, else the topic's end
abbrev pub stable : List ℕ → List DataEntry → ℕ
stable topic entries = position_or_len (λ r. is_none (marker_of r.tag entries)) (records topic entries)

-- whether a marker is one of a commit
abbrev pub is_commit : Option Bool → Bool
is_commit marker = unwrap_or marker false

-- the first committed record from a place on and below the last stable offset, with its offset
abbrev pub taken : List ℕ → ℕ → List DataEntry → Option (ℕ × List ℕ)
taken topic from entries =
    option_map {U = ℕ × List ℕ} (λ p. (p.0, p.1.value))
    (find (λ p. nat_le from p.0 && is_commit (marker_of p.1.tag entries))
    (enumerate_from 0 (take (stable topic entries) (records topic entries))))

-- the transaction of a batch
abbrev pub tag_in : DataEntry → Option Tag
tag_in (InBatch batch) = Some batch.tag
tag_in (Mark tag committed) = None

-- the first transaction of the log that has ended and has no marker
abbrev pub first_unmarked : (Tag → Verdict) → List DataEntry → Option Tag
first_unmarked verdict entries =
    find (λ tag. is_none (marker_of tag entries) && has_ended (verdict tag)) (filter_map tag_in entries)
