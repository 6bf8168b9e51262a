-- Items of a worker: connectors and tasks, which are planned apart from each other (KIP-415). When two are the same is
-- this project's own: by kind, name and index.
use Rattle.std.specs.Prelude.{Bool, true, false, List, []}
use Rattle.std.specs.List.{list_any, filter, fold}
use Rattle.std.specs.BTreeSet.{insert_key}
use Rattle.std.specs.Ordering.{eq_by_cmp}
use Rattle.cw_types.specs.declared.ids.Item.{Item}
use Rattle.cw_types.specs.declared.ids.Item.TheVariants.{Connector, Task}
use Rattle.cw_types.specs.Order.{item_cmp}
use Rattle.cw_assign.specs.declared.items.Kind.{Kind}
use Rattle.cw_assign.specs.declared.items.Kind.TheVariants.{Connectors, Tasks}

-- one item
abbrev pub same_item : Item → Item → Bool
same_item = eq_by_cmp item_cmp

-- whether a list has an item
abbrev pub has : List Item → Item → Bool
has items x = list_any (λ y. same_item x y) items

-- whether an item is of a class
abbrev pub is_of : Kind → Item → Bool
is_of Connectors (Connector _) = true
is_of Connectors (Task _) = false
is_of Tasks (Connector _) = false
is_of Tasks (Task _) = true

-- the items of a class
abbrev pub of_kind : Kind → List Item → List Item
of_kind kind items = filter (is_of kind) items

-- items in their order, each once
abbrev pub in_order : List Item → List Item
in_order items = fold (insert_key item_cmp) [] items
