-- The values of Connect's offset topic: `{"position":n}` for a source's partition, `{"kafka_offset":n}` for a sink's
-- topic (KIP-875). Members may stand in any order, and members of other names are passed over.
use Rattle.std.specs.Prelude.{ℕ, List, Option, option_and_then, codes}
use Rattle.serde_json.specs.Written.{compact_text}
use Rattle.cw_types.specs.declared.ids.PartKey.{PartKey}
use Rattle.cw_types.specs.declared.ids.PartKey.TheVariants.{Raw, File, Seq, Sink}
use Rattle.cw_json.specs.Reading.{reading}
use Rattle.cw_keys.specs.Counts.{u64_at, count_data}

-- the member that holds a part's offset
abbrev pub offset_name : PartKey → List ℕ
offset_name (Raw n) = codes "position"
offset_name (File connector feed) = codes "position"
offset_name (Seq connector index) = codes "position"
offset_name (Sink connector topic) = codes "kafka_offset"

-- the offset that a value tells of a part
abbrev pub offset_of : PartKey → List ℕ → Option ℕ
offset_of part value = option_and_then (u64_at (offset_name part)) (reading value)

-- the text of an offset
abbrev pub offset_text : PartKey → ℕ → List ℕ
offset_text part n = compact_text (count_data (offset_name part) n)
