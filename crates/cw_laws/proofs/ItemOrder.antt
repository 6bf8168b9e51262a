-- Items that are put in order rise.
use Rattle.std.proofs.Common.{List, []}
use Rattle.std.specs.List.Sorted.{IsStrictlySortedBy}
use Rattle.cw_types.specs.declared.ids.Item.{Item}
use Rattle.cw_types.specs.Order.{item_cmp}
use Rattle.cw_types.proofs.ItemOrder.{item_total}
use Rattle.cw_types.proofs.Rising.{rising-none, rising-fold}
use Rattle.cw_assign.specs.Items.{in_order}

pub in_order-rises : (xs : List Item) → IsStrictlySortedBy item_cmp (in_order xs)
in_order-rises xs = rising-fold item_cmp item_total xs [] (rising-none item_cmp item_total)
