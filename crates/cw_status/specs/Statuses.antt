-- The latest status of each connector and task, as Connect's status topic keeps it: of each key the last record counts.
use Rattle.std.specs.Prelude.{Bool, List, Option, None, Some, if◌then◌else◌}
use Rattle.std.specs.List.{fold}
use Rattle.std.specs.Ordering.{is_eq}
use Rattle.cw_types.specs.Order.{item_cmp}
use Rattle.cw_types.specs.declared.ids.Item.{Item}
use Rattle.cw_keys.specs.declared.status.StatusValue.{StatusValue}
use Rattle.cw_status.specs.declared.record.StatusRecord.{StatusRecord}

-- whether these are one connector or one task
abbrev pub is_item : Item → Item → Bool
is_item a b = is_eq (item_cmp a b)

-- an item's status behind one more record
abbrev pub after_record : Item → Option StatusValue → StatusRecord → Option StatusValue
after_record item was last = if is_item last.item item then Some last.value else was

-- the value of the last record of an item
abbrev pub latest : Item → List StatusRecord → Option StatusValue
latest item applied = fold (after_record item) None applied
