-- How names and items are ordered: connectors first, by name bytes, then tasks by name bytes and index.
use Rattle.std.specs.Prelude.{ℕ, List}
use Rattle.std.specs.declared.cmp.Ordering.{Ordering}
use Rattle.std.specs.declared.cmp.Ordering.TheVariants.{Less, Greater}
use Rattle.std.specs.Ordering.{nat_cmp, ordering_then}
use Rattle.std.specs.Cmp.Lexicographic.{slice_cmp}
use Rattle.cw_types.specs.declared.ids.TaskId.{TaskId}
use Rattle.cw_types.specs.declared.ids.Item.{Item}
use Rattle.cw_types.specs.declared.ids.Item.TheVariants.{Connector, Task}

-- names by their bytes
abbrev pub name_cmp : List ℕ → List ℕ → Ordering
name_cmp = slice_cmp nat_cmp

-- tasks by the connector's bytes, and then by the index
abbrev pub task_cmp : TaskId → TaskId → Ordering
task_cmp a b = ordering_then (name_cmp a.connector b.connector) (nat_cmp a.index b.index)

-- connectors first
abbrev pub item_cmp : Item → Item → Ordering
item_cmp (Connector a) (Connector b) = name_cmp a b
item_cmp (Connector _) (Task _) = Less
item_cmp (Task _) (Connector _) = Greater
item_cmp (Task a) (Task b) = task_cmp a b
