-- A connector's target state: `{"state":S,"state.v2":S}`. KIP-875 added STOPPED in `state.v2` and leaves PAUSED in
-- `state` for workers that don't know it; without `state.v2` the `state` alone counts.
use Rattle.std.specs.Prelude.{ℕ, List, Option, Some, None, option_and_then, bytes_eq, codes, if◌then◌else◌}
use Rattle.serde_json.specs.Data.{Data, object, member, no_members, string}
use Rattle.serde_json.specs.Find.{get, as_str}
use Rattle.cw_keys.specs.declared.target.Target.{Target}
use Rattle.cw_keys.specs.declared.target.Target.TheVariants.{Started, Paused, Stopped}

-- the target state with a name
abbrev pub target_named : List ℕ → Option Target
target_named name =
    if bytes_eq name (codes "STARTED") then Some Started else
    if bytes_eq name (codes "PAUSED") then Some Paused else
    if bytes_eq name (codes "STOPPED") then Some Stopped else None

-- the member that counts
abbrev pub newer : Option Data → Option Data → Option Data
newer (Some v2) state = Some v2
newer None state = state

-- the target state that a value tells
abbrev pub target_of : Data → Option Target
target_of d =
    option_and_then target_named (option_and_then as_str (newer (get (codes "state.v2") d) (get (codes "state") d)))

-- the name in `state.v2`
abbrev pub target_name : Target → List ℕ
target_name Started = codes "STARTED"
target_name Paused = codes "PAUSED"
target_name Stopped = codes "STOPPED"

-- the name in `state`, for workers that know two states
abbrev pub old_target_name : Target → List ℕ
old_target_name Started = codes "STARTED"
old_target_name Paused = codes "PAUSED"
old_target_name Stopped = codes "PAUSED"

-- a target state as it is written
abbrev pub target_data : Target → Data
target_data target =
    object (member (codes "state") (string (old_target_name target)) (
    member (codes "state.v2") (string (target_name target)) no_members))
