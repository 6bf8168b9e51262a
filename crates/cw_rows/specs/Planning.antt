-- What is planned: connectors and their tasks.
use Rattle.std.specs.Prelude.{ℕ, List}
use Rattle.cw_types.specs.declared.ids.Item.{Item}
use Rattle.cw_types.specs.declared.ids.Item.TheVariants.{Task}

-- a task of a connector
abbrev pub task_of : List ℕ → ℕ → Item
task_of name index = Task (record { connector = name; index = index })
