-- Tasks within keys. Connect's config and status topics name a task by its connector, a dash and its index; a
-- connector's name may hold dashes itself, so a task is cut at the last one.
use Rattle.std.specs.Prelude.{◌<◌, ◌^◌, ◌-◌, ℕ, ◌==◌, List, [], ◌∷◌, ◌++◌, Option, Some, None, option_and_then, codes}
use Rattle.std.specs.Prelude.{decimal, if◌then◌else◌}
use Rattle.cw_types.specs.Name.{name_of, IsName}
use Rattle.cw_types.specs.Decimal.{number_of}
use Rattle.cw_types.specs.Task.{task_of_parts}
use Rattle.cw_types.specs.declared.ids.TaskId.{TaskId}

-- one more byte before the last dash, or the dash itself
abbrev pub before_cut : ℕ → List ℕ → Option (List ℕ × List ℕ) → Option (List ℕ × List ℕ)
before_cut c cs (Some parts) = Some (c ∷ parts.0, parts.1)
before_cut c cs None = if c == 45 then Some ([], cs) else None

-- what stands before the last dash, and behind it
abbrev pub cut_last : List ℕ → Option (List ℕ × List ℕ)
cut_last [] = None
cut_last (c ∷ cs) = before_cut c cs (cut_last cs)

-- the task that bytes are: a name, a dash, and an index below 2^32 in decimal
abbrev pub task_of : List ℕ → Option TaskId
task_of bytes =
    option_and_then (λ parts. task_of_parts (name_of parts.0) (number_of (2 ^ 32 - 1) parts.1)) (cut_last bytes)

-- the bytes of a task
abbrev pub task_text : TaskId → List ℕ
task_text id = id.connector ++ codes "-" ++ decimal id.index

-- what each task of the program holds
abbrev pub IsTask : TaskId → Type 0
IsTask id = IsName id.connector × (id.index < 2 ^ 32)
