-- What the coordinator's tables keep of its list, so that no look-up walks it. Internal: no public contract cites this.
use Rattle.std.specs.Prelude.{◌≡◌, ℕ, ◌+◌, Bool, false, List, length, Contains, [], ◌∷◌, ◌&&◌, is_some, IsSome, Some}
use Rattle.std.specs.Prelude.{unwrap_or, All, if◌then◌else◌, slice_index_or, take, ◌<◌, ◌^◌}
use Rattle.std.specs.Str.{bytes_eq}
use Rattle.std.specs.List.{fold}
use Rattle.std.specs.BTreeMap.{BTreeMap, get, is_at}
use Rattle.std.specs.BTreeMap.Range.{entries_between}
use Rattle.std.specs.declared.ops.Bound.TheVariants.{Included, Unbounded}
use Rattle.cw_types.specs.declared.ids.Tid.{Tid}
use Rattle.cw_types.specs.declared.ids.Tag.{Tag}
use Rattle.cw_types.specs.declared.ids.PartKey.{PartKey}
use Rattle.cw_types.specs.declared.ids.PartKey.TheVariants.{Raw, File, Seq, Sink}
use Rattle.cw_types.specs.declared.ids.Span.{Span}
use Rattle.cw_types.specs.Same.{same_tid, tid_order, tag_order, part_order}
use Rattle.cw_txn.specs.declared.entry.Entry.{Entry}
use Rattle.cw_txn.specs.declared.entry.Entry.TheVariants.{Bump, Commit, Set}
use Rattle.cw_txn.specs.declared.entry.SetOffset.{SetOffset}
use Rattle.cw_txn.specs.declared.entry.EntryRef.{EntryRef}
use Rattle.cw_txn.specs.declared.entry.EntryRef.TheVariants.{Bump as BumpRef, Commit as CommitRef, Set as SetRef}
use Rattle.cw_txn.specs.declared.history.History.{History}
use Rattle.cw_txn.specs.declared.tables.Tables.{Tables}
use Rattle.cw_txn.specs.History.{history, unset, after_span, after_offset}
use Rattle.cw_txn.specs.Legal.{epoch_of, is_committed, IsLegal, Chains}

-- the entry that is borrowed in parts
abbrev pub entry_of : EntryRef → Entry
entry_of (BumpRef tid) = Bump tid.now
entry_of (CommitRef tag generation spans) = Commit tag.now generation spans.now
entry_of (SetRef tid epoch list) = Set tid.now epoch list.now

-- what each table says of a key; a missing row reads as the value before the first entry
abbrev pub epoch_at : BTreeMap Tid ℕ → Tid → ℕ
epoch_at epochs tid = unwrap_or (get tid_order epochs tid) 0

abbrev pub committed_at : BTreeMap Tag Bool → Tag → Bool
committed_at committed tag = unwrap_or (get tag_order committed tag) false

abbrev pub history_at : BTreeMap PartKey History → PartKey → History
history_at parts part = unwrap_or (get part_order parts part) unset

-- the tables are those of the entries
pub record Keeps (tables : Tables) (entries : List Entry) : Type 0 where
  pub epochs : (tid : Tid) → epoch_at tables.epochs tid ≡ epoch_of tid entries
  pub committed : (tag : Tag) → committed_at tables.committed tag ≡ is_committed tag entries
  pub parts : (part : PartKey) → history_at tables.parts part ≡ history part entries

-- whether a part is a connector's
abbrev pub is_of : List ℕ → PartKey → Bool
is_of connector (Raw a) = false
is_of connector (File a f) = bytes_eq a connector
is_of connector (Seq a i) = bytes_eq a connector
is_of connector (Sink a t) = bytes_eq a connector

-- the connector's parts in a table that have an end
abbrev pub parts_in : List ℕ → List (PartKey × History) → List PartKey
parts_in connector [] = []
parts_in connector (e ∷ es) =
    if is_some e.1.end && is_of connector e.0 then e.0 ∷ parts_in connector es else parts_in connector es

-- none of a connector's parts comes before this one
abbrev pub first_of : List ℕ → PartKey
first_of connector = Seq connector 0

-- the rows from there on
abbrev pub rows_from : List ℕ → List (PartKey × History) → List (PartKey × History)
rows_from connector rows = entries_between part_order (Included (first_of connector)) Unbounded rows

-- of the first rows, which are the connector's, the parts that have an end
abbrev pub first_parts : List ℕ → List (PartKey × History) → List PartKey
first_parts connector [] = []
first_parts connector (e ∷ es) = if is_of connector e.0
    then (if is_some e.1.end then e.0 ∷ first_parts connector es else first_parts connector es)
    else []

-- a producer, a transaction and a part has a row
abbrev pub HasEpoch : BTreeMap Tid ℕ → Tid → Type 0
HasEpoch epochs tid = IsSome (get tid_order epochs tid)

abbrev pub HasTag : BTreeMap Tag Bool → Tag → Type 0
HasTag committed tag = IsSome (get tag_order committed tag)

abbrev pub HasPart : BTreeMap PartKey History → PartKey → Type 0
HasPart parts part = IsSome (get part_order parts part)

-- each row that the entry changes is there
abbrev pub HasRows : Tables → Entry → Type 0
HasRows tables (Bump tid) = HasEpoch tables.epochs tid
HasRows tables (Commit tag generation spans) =
    HasTag tables.committed tag × All (λ span. HasPart tables.parts span.part) spans
HasRows tables (Set tid epoch list) = All (λ set. HasPart tables.parts set.part) list

-- no row was lost
abbrev pub KeepsEpochs : BTreeMap Tid ℕ → BTreeMap Tid ℕ → Type 0
KeepsEpochs old new = (tid : Tid) → HasEpoch old tid → HasEpoch new tid

abbrev pub KeepsTags : BTreeMap Tag Bool → BTreeMap Tag Bool → Type 0
KeepsTags old new = (tag : Tag) → HasTag old tag → HasTag new tag

abbrev pub KeepsParts : BTreeMap PartKey History → BTreeMap PartKey History → Type 0
KeepsParts old new = (part : PartKey) → HasPart old part → HasPart new part

pub record KeepsRows (old new : Tables) : Type 0 where
  pub epochs : KeepsEpochs old.epochs new.epochs
  pub committed : KeepsTags old.committed new.committed
  pub parts : KeepsParts old.parts new.parts

-- every table reads as before
abbrev pub SameEpochs : BTreeMap Tid ℕ → BTreeMap Tid ℕ → Type 0
SameEpochs old new = (tid : Tid) → epoch_at new tid ≡ epoch_at old tid

abbrev pub SameTags : BTreeMap Tag Bool → BTreeMap Tag Bool → Type 0
SameTags old new = (tag : Tag) → committed_at new tag ≡ committed_at old tag

abbrev pub SameParts : BTreeMap PartKey History → BTreeMap PartKey History → Type 0
SameParts old new = (part : PartKey) → history_at new part ≡ history_at old part

pub record SameRows (old new : Tables) : Type 0 where
  pub epochs : SameEpochs old.epochs new.epochs
  pub committed : SameTags old.committed new.committed
  pub parts : SameParts old.parts new.parts

-- a producer's row, where it is there, says one more
abbrev pub RaisesRow : Bool → BTreeMap Tid ℕ → BTreeMap Tid ℕ → Tid → Type 0
RaisesRow there old new tid = (q : Tid) → get tid_order new q
    ≡ (if there && is_at (tid_order tid) q then Some (epoch_at old tid + 1) else get tid_order old q)

-- a producer's epoch is one more
abbrev pub RaisesEpoch : BTreeMap Tid ℕ → BTreeMap Tid ℕ → Tid → Type 0
RaisesEpoch old new tid =
    (q : Tid) → epoch_at new q ≡ (if same_tid q tid then epoch_at old q + 1 else epoch_at old q)

-- a part's history behind a span of it
abbrev pub ended : History → Span → History
ended h span = record { base = h.base; end = Some span.to }

-- the row of a span's part, where it is there, ends with the span
abbrev pub MovesRow : Bool → BTreeMap PartKey History → BTreeMap PartKey History → Span → Type 0
MovesRow there old new span = (q : PartKey) → get part_order new q
    ≡ (if there && is_at (part_order span.part) q then Some (ended (history_at old span.part) span)
    else get part_order old q)

-- each part ends with its last span of these
abbrev pub MovesEnds : BTreeMap PartKey History → BTreeMap PartKey History → List Span → Type 0
MovesEnds old new spans = (part : PartKey) → history_at new part ≡ fold (after_span part) (history_at old part) spans

-- each part begins and ends with its last offset of these
abbrev pub SetsParts : BTreeMap PartKey History → BTreeMap PartKey History → List SetOffset → Type 0
SetsParts old new list = (part : PartKey) → history_at new part ≡ fold (after_offset part) (history_at old part) list

-- the first place of an entry in a list
pub record IsFirstAt (entry : Entry) (entries : List Entry) (at : ℕ) : Type 0 where
  pub within : at < length entries
  pub there : slice_index_or entries at entry ≡ entry
  pub first : ¬ Contains (take at entries) entry

-- what every coordinator keeps: its list is legal and its parts chain, its tables and its length are those of its list,
-- and room is there for what is reserved
pub record IsCoordinator (tables : Tables) (entries reserved : List Entry) (count : ℕ) : Type 0 where
  pub legal : IsLegal entries
  pub chains : (part : PartKey) → Chains part entries
  pub kept : Keeps tables entries
  pub rows : (entry : Entry) → Contains reserved entry → HasRows tables entry
  pub counted : count ≡ length entries
  pub few : length entries + length reserved < 2 ^ 64
