use Rattle.std.proofs.Common.{◌≡◌, ◌||◌, take}
use Rattle.std.specs.List.{fold}
use Rattle.std.specs.BTreeSet.{insert_key}
use Rattle.cw_types.specs.declared.ids.Item.{Item}
use Rattle.cw_types.specs.Order.{item_cmp}
use Rattle.cw_assign.specs.Items.{has}
use Rattle.cw_assign.proofs.items.ItemSet.add.Given as goal

abbrev pub invariant-loop-item : goal.invariant-loop-item
invariant-loop-item l = record {
  has : (x : Item) → has l.self x ≡ (has l.initial.self x || has (take l.item-index l.items) x);
  items : l.self ≡ fold (insert_key item_cmp) l.initial.self (take l.item-index l.items);
}
