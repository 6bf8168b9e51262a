-- A task's id from its parts: Connect numbers the tasks of a connector from 0.
use Rattle.std.specs.Prelude.{ℕ, List, Option, Some, None}
use Rattle.cw_types.specs.declared.ids.TaskId.{TaskId}

-- the task of a connector that has a number
abbrev pub task_id : List ℕ → ℕ → TaskId
task_id connector index = record { connector = connector; index = index }

-- a task, where both its parts are well formed
abbrev pub task_of_parts : Option (List ℕ) → Option ℕ → Option TaskId
task_of_parts None index = None
task_of_parts (Some connector) None = None
task_of_parts (Some connector) (Some index) = Some (task_id connector index)
