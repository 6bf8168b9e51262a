-- What the table keeps of the records, so that no look-up walks them. Internal: no public contract cites this.
use Rattle.std.specs.Prelude.{◌≡◌, ℕ, ◌<◌, List, length, Contains, Option, None, IsSome, unwrap_or, slice_index_or}
use Rattle.std.specs.Prelude.{take}
use Rattle.std.specs.BTreeMap.{BTreeMap, get}
use Rattle.std.specs.declared.cmp.Ordering.{Ordering}
use Rattle.cw_types.specs.declared.ids.Item.{Item}
use Rattle.cw_types.specs.contracts.ids.ItemOrd.TheImpl as item_ord
use Rattle.cw_keys.specs.declared.status.StatusValue.{StatusValue}
use Rattle.cw_status.specs.declared.record.StatusRecord.{StatusRecord}
use Rattle.cw_status.specs.declared.record.RecordRef.{RecordRef}
use Rattle.cw_status.specs.Statuses.{latest}

-- the record that is borrowed in parts
abbrev pub record_of : RecordRef → StatusRecord
record_of r = record { offset = r.offset; item = r.item.now; value = r.value.now }

-- the order of the table's keys
abbrev pub item_order : Item → Item → Ordering
item_order = item_ord.cmp-value.it

-- what the table says of an item; a row without a status reads as one that isn't there
abbrev pub status_at : BTreeMap Item (Option StatusValue) → Item → Option StatusValue
status_at table item = unwrap_or (get item_order table item) None

-- an item has a row
abbrev pub HasRow : BTreeMap Item (Option StatusValue) → Item → Type 0
HasRow table item = IsSome (get item_order table item)

-- the first place of a record in a list
pub record IsFirstAt (last : StatusRecord) (list : List StatusRecord) (at : ℕ) : Type 0 where
  pub within : at < length list
  pub there : slice_index_or list at last ≡ last
  pub first : ¬ Contains (take at list) last

-- what all statuses keep: the table is that of the records, and what is reserved has its row
pub record IsStatuses (table : BTreeMap Item (Option StatusValue)) (applied reserved : List StatusRecord) : Type 0 where
  pub kept : (item : Item) → status_at table item ≡ latest item applied
  pub rows : (last : StatusRecord) → Contains reserved last → HasRow table last.item
