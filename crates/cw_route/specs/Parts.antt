-- The parts of a path that parameters took. Their escapes (RFC 3986, 2.1) are undone once the path is matched; a `%`
-- without two hexadecimal digits stands for itself.
use Rattle.std.specs.Prelude.{◌-◌, ◌^◌, ℕ, List, [], ◌∷◌, Result, Err, IsUtf8, ok_or}
use Rattle.percent_encoding.specs.Percent.{percent_decode}
use Rattle.cw_types.specs.Name.{name_of}
use Rattle.cw_types.specs.Decimal.{number_of}
use Rattle.cw_types.specs.Task.{task_of_parts}
use Rattle.cw_types.specs.declared.ids.TaskId.{TaskId}
use Rattle.cw_route.specs.declared.call.RouteFault.{RouteFault}
use Rattle.cw_route.specs.declared.call.RouteFault.TheVariants.{BadPath}

-- the name that the first parameter is
abbrev pub name_in : List (List ℕ × List ℕ) → Result (List ℕ) RouteFault
name_in [] = Err BadPath
name_in (p ∷ ps) = ok_or (name_of (percent_decode p.1)) BadPath

-- the task that the first two parameters are, its number below 2^32 in decimal
abbrev pub task_in : List (List ℕ × List ℕ) → Result TaskId RouteFault
task_in [] = Err BadPath
task_in (p ∷ []) = Err BadPath
task_in (p ∷ q ∷ ps) =
    ok_or (task_of_parts (name_of (percent_decode p.1)) (number_of (2 ^ 32 - 1) (percent_decode q.1))) BadPath

-- each part is text
abbrev pub EachIsText : List (List ℕ × List ℕ) → Type 0
EachIsText [] = Unit {0}
EachIsText (p ∷ ps) = IsUtf8 p.1 × EachIsText ps
