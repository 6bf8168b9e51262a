-- The keys of Connect's offset topic: `["CONNECTOR",PARTITION]`. A partition is `{"filename":"FEED"}`,
-- `{"sequence":I}`, or `{"kafka_partition":0,"kafka_topic":"TOPIC"}` for a sink (KIP-875). A key is compared by its
-- bytes, so each part has one spelling.
use Rattle.std.specs.Prelude.{◌<◌, ◌^◌, ℕ, List, Bool, true, false, Option, Some, None, option_map, option_and_then}
use Rattle.std.specs.Prelude.{bytes_eq, codes, if◌then◌else◌}
use Rattle.serde_json.specs.Data.{Data, null, number, string, array, object, Items, no_items, item, member, no_members}
use Rattle.serde_json.specs.Data.{unsigned}
use Rattle.serde_json.specs.Find.{get, as_str, as_array}
use Rattle.serde_json.specs.Written.{compact_text}
use Rattle.cw_types.specs.Name.{name_of, IsName}
use Rattle.cw_types.specs.declared.ids.PartKey.{PartKey}
use Rattle.cw_types.specs.declared.ids.PartKey.TheVariants.{Raw, File, Seq, Sink}
use Rattle.cw_json.specs.Reading.{reading}
use Rattle.cw_keys.specs.Counts.{count_at}

-- the JSON of a key: a connector and a partition
abbrev pub key_data : List ℕ → Data → Data
key_data connector partition = array (item (string connector) (item partition no_items))

-- a feed of a source
abbrev pub file_partition : List ℕ → Data
file_partition feed = object (member (codes "filename") (string feed) no_members)

-- a sequence of a source, by its number
abbrev pub seq_partition : ℕ → Data
seq_partition index = object (member (codes "sequence") (number (unsigned index)) no_members)

-- a topic of a sink, whose only partition is 0
abbrev pub sink_partition : List ℕ → Data
sink_partition topic =
    object (member (codes "kafka_partition") (number (unsigned 0)) (
    member (codes "kafka_topic") (string topic) no_members))

-- the JSON of a part's key; a part of a script has none
abbrev pub part_data : PartKey → Data
part_data (Raw n) = null
part_data (File connector feed) = key_data connector (file_partition feed)
part_data (Seq connector index) = key_data connector (seq_partition index)
part_data (Sink connector topic) = key_data connector (sink_partition topic)

-- the bytes of a part's key
abbrev pub part_text : PartKey → List ℕ
part_text part = compact_text (part_data part)

-- a part of a script
abbrev pub is_raw : PartKey → Bool
is_raw (Raw n) = true
is_raw (File connector feed) = false
is_raw (Seq connector index) = false
is_raw (Sink connector topic) = false

-- what each part of the program holds
abbrev pub IsPart : PartKey → Type 0
IsPart (Raw n) = Unit {0}
IsPart (File connector feed) = IsName connector × IsName feed
IsPart (Seq connector index) = IsName connector × (index < 2 ^ 32)
IsPart (Sink connector topic) = IsName connector × IsName topic

-- the name at a key
abbrev pub name_at : List ℕ → Data → Option (List ℕ)
name_at key d = option_and_then name_of (option_and_then as_str (get key d))

-- the first part that there is
abbrev pub first_some : Option PartKey → Option PartKey → Option PartKey
first_some (Some part) other = Some part
first_some None other = other

-- the part of a connector that a partition's members name
abbrev pub part_named : List ℕ → Data → Option PartKey
part_named connector d =
    first_some (option_map (File connector) (name_at (codes "filename") d)) (
    first_some (option_map (Seq connector) (count_at (codes "sequence") d)) (
    option_map (Sink connector) (name_at (codes "kafka_topic") d)))

-- the part that a connector and a partition name
abbrev pub part_in_items : Items → Option PartKey
part_in_items no_items = None
part_in_items (item connector no_items) = None
part_in_items (item connector (item partition rest)) =
    option_and_then (λ name. part_named name partition) (option_and_then name_of (as_str connector))

-- the part that bytes name, where they are just the bytes that are written for it
abbrev pub part_of : List ℕ → Option PartKey
part_of bytes = option_and_then (λ part. if bytes_eq (part_text part) bytes then Some part else None)
    (option_and_then part_in_items (option_and_then as_array (reading bytes)))
