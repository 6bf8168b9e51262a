-- Which offsets a connector has, and which ones a call alters or resets (KIP-875): those of feeds and sequences for a
-- source, those of topics for a sink. Positions below 2^48, at most 1,000 of them in a call, and that none is named
-- twice, are this project's own.
use Rattle.std.specs.Prelude.{ℕ, ◌^◌, ◌==◌, ◌&&◌, Bool, true, false, not, List, [], ◌∷◌, length, map, nat_le, nat_lt}
use Rattle.std.specs.Prelude.{Option, Some, None, is_some, bytes_eq, option_map, option_and_then, codes, if◌then◌else◌}
use Rattle.std.specs.Option.{option_map_or}
use Rattle.std.specs.List.{filter, filter_map, flat_map, fold, list_any}
use Rattle.std.specs.declared.cmp.Ordering.{Ordering}
use Rattle.std.specs.BTreeSet.{insert_key}
use Rattle.serde_json.specs.Data.{Data, null, boolean, number, string, array, object, Items, no_items, item}
use Rattle.serde_json.specs.Find.{get, as_array}
use Rattle.serde_json.specs.Written.{compact_text}
use Rattle.cw_types.specs.Order.{name_cmp}
use Rattle.cw_types.specs.Same.{same_part, connector_of}
use Rattle.cw_types.specs.declared.ids.PartKey.{PartKey}
use Rattle.cw_types.specs.declared.ids.PartKey.TheVariants.{Raw, File, Seq, Sink}
use Rattle.cw_json.specs.Reading.{reading}
use Rattle.cw_keys.specs.Counts.{u64_at, count_at}
use Rattle.cw_keys.specs.Offsets.{offset_name}
use Rattle.cw_keys.specs.Parts.{file_partition, seq_partition, sink_partition, name_at, first_some}
use Rattle.cw_txn.specs.declared.entry.Entry.{Entry}
use Rattle.cw_txn.specs.declared.entry.Entry.TheVariants.{Bump, Commit, Set}
use Rattle.cw_txn.specs.declared.entry.SetOffset.{SetOffset}
use Rattle.cw_txn.specs.History.{end_of}
use Rattle.cw_rest.specs.Bodies.{has_members, where_it}

-- ---- the offsets that a connector has

-- whether a part is one that a source reads, or one that a sink reads
abbrev pub is_of_type : (is_source : Bool) → PartKey → Bool
is_of_type is_source (Raw n) = false
is_of_type is_source (File connector feed) = is_source
is_of_type is_source (Seq connector index) = is_source
is_of_type is_source (Sink connector topic) = not is_source

-- whether a part is a connector's
abbrev pub is_part_of : List ℕ → PartKey → Bool
is_part_of name part = option_map_or (λ own. bytes_eq own name) (connector_of part) false

-- a part as a partition of Connect's offsets; one of a script is none
abbrev pub partition_of : PartKey → Data
partition_of (Raw n) = null
partition_of (File connector feed) = file_partition feed
partition_of (Seq connector index) = seq_partition index
partition_of (Sink connector topic) = sink_partition topic

-- parts in the order of their partitions' texts
abbrev pub partition_cmp : PartKey → PartKey → Ordering
partition_cmp a b = name_cmp (compact_text (partition_of a)) (compact_text (partition_of b))

-- the parts that an entry commits or sets
abbrev pub parts_in : Entry → List PartKey
parts_in (Bump tid) = []
parts_in (Commit tag generation spans) = map (λ span. span.part) spans
parts_in (Set tid epoch list) = map (λ set. set.part) list

-- whether a part is of a connector and a type, and has an offset
abbrev pub has_offset : (is_source : Bool) → List ℕ → List Entry → PartKey → Bool
has_offset is_source name entries part =
    is_part_of name part && is_of_type is_source part && is_some (end_of part entries)

-- the parts of a connector that have offsets, in the order of their partitions, each once
abbrev pub parts_with_offsets : (is_source : Bool) → List ℕ → List Entry → List PartKey
parts_with_offsets is_source name entries =
    fold (insert_key partition_cmp) [] (filter (has_offset is_source name entries) (flat_map parts_in entries))

-- ---- the offsets that a call alters

-- the elements of a JSON list
abbrev pub elements_of : Items → List Data
elements_of no_items = []
elements_of (item first others) = first ∷ elements_of others

-- what each element is, where each is something
abbrev pub with_each : {A : Type 0} → Option A → Option (List A) → Option (List A)
with_each None others = None
with_each (Some first) None = None
with_each (Some first) (Some others) = Some (first ∷ others)

abbrev pub each_of : {A B : Type 0} → (A → Option B) → List A → Option (List B)
each_of f [] = Some []
each_of f (x ∷ xs) = with_each (f x) (each_of f xs)

-- an offset that is to be altered, as JSON tells it
pub record Alteration : Type 0 where
  pub partition : Data
  pub offset : Data

-- an element of the list: an object with a partition, an offset and no other member
abbrev pub alteration_of : Data → Option Alteration
alteration_of value = option_and_then (λ partition. option_map
    (λ offset. record { partition = partition; offset = offset })
    (get (codes "offset") value)) (option_and_then (get (codes "partition")) (where_it (has_members 2) value))

-- what stands for a feed, a sequence or a topic: an object with the members of a partition and no others
abbrev pub feed_in : Data → Option (List ℕ)
feed_in value = option_and_then (name_at (codes "filename")) (where_it (has_members 1) value)

abbrev pub sequence_in : Data → Option ℕ
sequence_in value = option_and_then (count_at (codes "sequence")) (where_it (has_members 1) value)

abbrev pub topic_in : Data → Option (List ℕ)
topic_in value = option_and_then (name_at (codes "kafka_topic"))
    (where_it (λ d. has_members 2 d && option_map_or (λ n. n == 0) (u64_at (codes "kafka_partition") d) false) value)

-- the part of a connector that a partition names
abbrev pub part_in : List ℕ → Data → Option PartKey
part_in name partition = first_some (option_map (File name) (feed_in partition))
    (first_some (option_map (Seq name) (sequence_in partition)) (option_map (Sink name) (topic_in partition)))

-- the part that an alteration names
abbrev pub part_of : List ℕ → Alteration → Option PartKey
part_of name alteration = part_in name alteration.partition

-- whether a part stands twice among these
abbrev pub has_repeat : List PartKey → Bool
has_repeat [] = false
has_repeat (part ∷ parts) = if list_any (same_part part) parts then true else has_repeat parts

-- whether there are 1 to 1,000 offsets, and no part is named twice
abbrev pub is_list_of_offsets : List ℕ → List Alteration → Bool
is_list_of_offsets name list = nat_lt 0 (length list) && nat_le (length list) 1000 &&
    not (has_repeat (filter_map (part_of name) list))

-- the offsets that an object alters: it has their list and no other member
abbrev pub alterations_by : List ℕ → Data → Option (List Alteration)
alterations_by name value = option_and_then (where_it (is_list_of_offsets name))
    (option_and_then (λ items. each_of alteration_of (elements_of items))
    (option_and_then as_array (option_and_then (get (codes "offsets")) (where_it (has_members 1) value))))

-- the offsets that a body alters
abbrev pub alterations_in : List ℕ → List ℕ → Option (List Alteration)
alterations_in name body = option_and_then (alterations_by name) (reading body)

-- a position below 2^48, as the offset of a part
abbrev pub position_in : PartKey → Data → Option (Option ℕ)
position_in part value = option_map Some (option_and_then (where_it (λ n. nat_lt n (2 ^ 48)))
    (option_and_then (u64_at (offset_name part)) (where_it (has_members 1) value)))

-- the offset of a part, or null for none
abbrev pub offset_in : PartKey → Data → Option (Option ℕ)
offset_in part null = Some None
offset_in part (boolean b) = None
offset_in part (number n) = None
offset_in part (string s) = None
offset_in part (array items) = None
offset_in part (object members) = position_in part (object members)

-- what an alteration sets of a connector of a type
abbrev pub set_by : (is_source : Bool) → List ℕ → Alteration → Option SetOffset
set_by is_source name alteration = option_and_then
    (λ part. option_map (λ to. record { part = part; to = to }) (offset_in part alteration.offset))
    (option_and_then (where_it (is_of_type is_source)) (part_of name alteration))

-- what a list of them sets, in its order
abbrev pub sets_by : (is_source : Bool) → List ℕ → List Alteration → Option (List SetOffset)
sets_by is_source name list = each_of (set_by is_source name) list
