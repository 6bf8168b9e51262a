-- What names the calls of Connect's REST API hold: each one that stands in a path is a name.
use Rattle.std.specs.Prelude.{ℕ, List}
use Rattle.cw_types.specs.Name.{IsName}
use Rattle.cw_route.specs.declared.call.Call.{Call}
use Rattle.cw_route.specs.declared.call.Call.TheVariants.{Refused, Connectors, Create, Info, Delete, Config, PutConfig}
use Rattle.cw_route.specs.declared.call.Call.TheVariants.{Status, Tasks, TaskStatus, Pause, Resume, Stop, Restart}
use Rattle.cw_route.specs.declared.call.Call.TheVariants.{RestartTask, Offsets, Alter, Reset, Plugins}

-- a call of a connector, or of one of its tasks, holds the connector's name
abbrev pub HoldsName : Call → Type 0
HoldsName (Refused fault) = Unit {0}
HoldsName Connectors = Unit {0}
HoldsName (Create body) = Unit {0}
HoldsName (Info name) = IsName name
HoldsName (Delete name) = IsName name
HoldsName (Config name) = IsName name
HoldsName (PutConfig name body) = IsName name
HoldsName (Status name) = IsName name
HoldsName (Tasks name) = IsName name
HoldsName (TaskStatus id) = IsName id.connector
HoldsName (Pause name) = IsName name
HoldsName (Resume name) = IsName name
HoldsName (Stop name) = IsName name
HoldsName (Restart name) = IsName name
HoldsName (RestartTask id) = IsName id.connector
HoldsName (Offsets name) = IsName name
HoldsName (Alter name body) = IsName name
HoldsName (Reset name) = IsName name
HoldsName Plugins = Unit {0}
