-- Which calls of Connect's REST API read, which write and which restart; and which may be answered from a published
-- view of the configs.
use Rattle.std.specs.Prelude.{◌||◌, not, Bool, true, false}
use Rattle.cw_route.specs.declared.call.Call.{Call}
use Rattle.cw_route.specs.declared.call.Call.TheVariants.{Refused, Connectors, Create, Info, Delete, Config, PutConfig}
use Rattle.cw_route.specs.declared.call.Call.TheVariants.{Status, Tasks, TaskStatus, Pause, Resume, Stop, Restart}
use Rattle.cw_route.specs.declared.call.Call.TheVariants.{RestartTask, Offsets, Alter, Reset, Plugins}

-- what a call does besides answering
pub data Deed : Type 0 where
  -- it reads
  reads : Deed
  -- it reads configs alone
  reads_configs : Deed
  -- it writes records of the config log
  writes_configs : Deed
  -- it writes offsets to the transaction list
  writes_offsets : Deed
  -- it restarts what runs
  restarts : Deed

-- the table of calls
abbrev pub deed_of : Call → Deed
deed_of (Refused fault) = reads
deed_of Connectors = reads_configs
deed_of (Create body) = writes_configs
deed_of (Info name) = reads_configs
deed_of (Delete name) = writes_configs
deed_of (Config name) = reads_configs
deed_of (PutConfig name body) = writes_configs
deed_of (Status name) = reads
deed_of (Tasks name) = reads_configs
deed_of (TaskStatus id) = reads
deed_of (Pause name) = writes_configs
deed_of (Resume name) = writes_configs
deed_of (Stop name) = writes_configs
deed_of (Restart name) = restarts
deed_of (RestartTask id) = restarts
deed_of (Offsets name) = reads
deed_of (Alter name body) = writes_offsets
deed_of (Reset name) = writes_offsets
deed_of Plugins = reads

-- whether a call only reads
abbrev pub is_reading : Deed → Bool
is_reading reads = true
is_reading reads_configs = true
is_reading writes_configs = false
is_reading writes_offsets = false
is_reading restarts = false

-- whether it reads nothing but configs, so that a published view answers it
abbrev pub is_of_board : Deed → Bool
is_of_board reads = false
is_of_board reads_configs = true
is_of_board writes_configs = false
is_of_board writes_offsets = false
is_of_board restarts = false
