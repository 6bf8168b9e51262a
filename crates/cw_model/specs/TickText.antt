-- The text of a tick, as a script's answer tells it. The texts are this project's own.
use Rattle.std.specs.Prelude.{ℕ, Bool, true, false, List, [], ◌∷◌, ◌++◌, codes, decimal}
use Rattle.std.specs.List.{join_with_byte}
use Rattle.cw_types.specs.declared.ids.Item.{Item}
use Rattle.cw_types.specs.declared.ids.Item.TheVariants.{Connector, Task}
use Rattle.cw_types.specs.declared.ids.TaskId.{TaskId}
use Rattle.cw_types.specs.declared.logs.LogName.{LogName}
use Rattle.cw_types.specs.declared.logs.LogName.TheVariants as log
use Rattle.cw_types.specs.Text.{tid_text}
use Rattle.cw_keys.specs.Statuses.{state_name}
use Rattle.cw_model.specs.declared.tick.Tick.{Tick}
use Rattle.cw_model.specs.declared.tick.Tick.TheVariants as tick
use Rattle.cw_rest.specs.Messages.{log_text}

-- words, parted by one space
abbrev pub words : List (List ℕ) → List ℕ
words = join_with_byte 32

-- `NAME/INDEX`
abbrev pub task_text : TaskId → List ℕ
task_text id = id.connector ++ codes "/" ++ decimal id.index

-- `c/NAME` or `t/NAME/INDEX`
abbrev pub item_text : Item → List ℕ
item_text (Connector name) = codes "c/" ++ name
item_text (Task id) = codes "t/" ++ task_text id

-- how a transaction ended
abbrev pub end_text : Bool → List ℕ
end_text true = codes "commit"
end_text false = codes "abort"

-- the text of a tick in a group
abbrev pub tick_text : List ℕ → Tick → List ℕ
tick_text group (tick.Read prefix) = words (codes "read" ∷ decimal prefix ∷ [])
tick_text group (tick.Stop item) = words (codes "stop" ∷ item_text item ∷ [])
tick_text group (tick.Join round) = words (codes "join" ∷ decimal round ∷ [])
tick_text group (tick.Close round) = words (codes "close" ∷ decimal round ∷ [])
tick_text group (tick.Planned round) = words (codes "plan" ∷ decimal round ∷ [])
tick_text group (tick.Sync round) = words (codes "sync" ∷ decimal round ∷ [])
tick_text group (tick.Lead epoch) = words (codes "lead" ∷ decimal epoch ∷ [])
tick_text group (tick.Propose name count) = words (codes "propose" ∷ name ∷ decimal count ∷ [])
tick_text group (tick.Commit name offset) = words (codes "commit" ∷ name ∷ decimal offset ∷ [])
tick_text group (tick.Fence id epoch) = words (codes "fence" ∷ task_text id ∷ decimal epoch ∷ [])
tick_text group (tick.FenceRecord name offset) = words (codes "fenced" ∷ name ∷ decimal offset ∷ [])
tick_text group (tick.Mark log tag committed) =
    words (codes "mark" ∷ log_text log ∷ tid_text group tag.tid ∷ decimal tag.epoch.0 ∷ decimal tag.number ∷
    end_text committed ∷ [])
tick_text group (tick.Start item number) = words (codes "start" ∷ item_text item ∷ decimal number ∷ [])
tick_text group (tick.Report item state) = words (codes "report" ∷ item_text item ∷ state_name state ∷ [])
tick_text group tick.Idle = codes "idle"
tick_text group (tick.LostLead own current) = words (codes "lostlead" ∷ decimal own ∷ decimal current ∷ [])
tick_text group tick.Dead = codes "dead"
