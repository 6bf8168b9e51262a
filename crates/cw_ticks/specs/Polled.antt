-- Which topic a sink's poll takes: the first, in its turn, with a committed record that is stable (Kafka Connect's
-- SinkTask).
use Rattle.std.specs.Prelude.{ℕ, Bool, List, Option, is_some}
use Rattle.std.specs.List.{find}
use Rattle.cw_types.specs.declared.ids.PartKey.{PartKey}
use Rattle.cw_types.specs.declared.ids.PartKey.TheVariants.{Raw, File, Seq, Sink}
use Rattle.cw_data.specs.declared.entry.DataEntry.{DataEntry}
use Rattle.cw_data.specs.Log.{taken}
use Rattle.cw_model.specs.declared.instance.Instance.{Instance}
use Rattle.cw_model.specs.EventsSinks.{topic_in}
use Rattle.cw_model.specs.Polls.{turns_of}
use Rattle.cw_model.specs.Tasks.{part_at, position_at}

-- a part of a sink
abbrev pub IsTopic : PartKey → Type 0
IsTopic (Raw n) = ⊥
IsTopic (File connector feed) = ⊥
IsTopic (Seq connector index) = ⊥
IsTopic (Sink connector topic) = Unit {0}

-- whether the topic of a turn has such a record from the task's position on
abbrev pub has_records : Instance → List DataEntry → (turn : ℕ) → Bool
has_records i log turn = is_some (taken (topic_in (part_at turn i)) (position_at turn i) log)

-- the turn that a sink takes
abbrev pub sink_turn : Instance → List DataEntry → Option ℕ
sink_turn i log = find (has_records i log) (turns_of i)
