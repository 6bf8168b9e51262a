-- What the offset log has of each transaction, so that no look-up walks it. Internal: no public contract cites this.
use Rattle.std.specs.Prelude.{◌≡◌, Bool, false, List, Option, Some, if◌then◌else◌}
use Rattle.std.specs.Option.{option_map_or}
use Rattle.std.specs.List.{list_any}
use Rattle.std.specs.BTreeMap.{BTreeMap, get, is_at}
use Rattle.std.specs.BTreeSet.{contains}
use Rattle.cw_types.specs.declared.ids.Tag.{Tag}
use Rattle.cw_types.specs.declared.ids.PartKey.{PartKey}
use Rattle.cw_types.specs.Same.{tag_order, part_order}
use Rattle.cw_offset.specs.declared.body.OffsetEntry.{OffsetEntry}
use Rattle.cw_offset.specs.Log.{is_marked}
use Rattle.cw_offset.specs.Compaction.{stores}
use Rattle.cw_compact.specs.declared.stored.StoredTag.{StoredTag}

-- whether a row is marked, and has a record of a part
abbrev pub marked_in : Option StoredTag → Bool
marked_in row = option_map_or (λ r. r.marked) row false

abbrev pub stores_in : PartKey → Option StoredTag → Bool
stores_in part row = option_map_or (λ r. contains part_order r.parts part) row false

-- the same of a transaction in a table
abbrev pub marked_at : BTreeMap Tag StoredTag → Tag → Bool
marked_at rows tag = marked_in (get tag_order rows tag)

abbrev pub stores_at : BTreeMap Tag StoredTag → Tag → PartKey → Bool
stores_at rows tag part = stores_in part (get tag_order rows tag)

-- the table says what the log has
pub record AreStored (rows : BTreeMap Tag StoredTag) (log : List OffsetEntry) : Type 0 where
  pub marked : (tag : Tag) → marked_at rows tag ≡ is_marked tag log
  pub stored : (tag : Tag) (part : PartKey) → stores_at rows tag part ≡ list_any (stores tag part) log

-- a row was taken out
pub record Takes (tag : Tag) (row : StoredTag) (old new : BTreeMap Tag StoredTag) : Type 0 where
  pub marked : row.marked ≡ marked_at old tag
  pub stored : (part : PartKey) → contains part_order row.parts part ≡ stores_at old tag part
  pub others : (q : Tag) → is_at (tag_order tag) q ≡ false → get tag_order new q ≡ get tag_order old q

-- a row was put in
abbrev pub Puts : Tag → StoredTag → (old new : BTreeMap Tag StoredTag) → Type 0
Puts tag row old new = (q : Tag) → get tag_order new q
    ≡ (if is_at (tag_order tag) q then Some row else get tag_order old q)
