-- When what a sink's task gathered before may still be told to the world: it stands at that place, and its topic is
-- stable up to the end of what was handed out (Kafka Connect's SinkTask; KIP-98, read_committed).
use Rattle.std.specs.Prelude.{◌≡◌, ◌<◌, ◌≤◌, ℕ, length, List}
use Rattle.std.specs.Bool.{⊤}
use Rattle.cw_data.specs.declared.entry.DataEntry.{DataEntry}
use Rattle.cw_data.specs.Log.{stable}
use Rattle.cw_model.specs.declared.instance.Instance.{Instance}
use Rattle.cw_model.specs.EventsSinks.{topic_in, MayDeliver}
use Rattle.cw_model.specs.Lookups.{instance_of}
use Rattle.cw_model.specs.State.{Cluster}
use Rattle.cw_model.specs.Tasks.{parts_of, part_at, position_at}
use Rattle.cw_sinktask.specs.declared.delivery.Delivery.{Delivery}
use Rattle.cw_types.specs.declared.ids.PartKey.{PartKey}
use Rattle.cw_types.specs.declared.ids.PartKey.TheVariants.{Raw, File, Seq, Sink}

-- it is of one of the task's parts, begins at its position there and goes on behind it, and is stable
pub record IsDue (i : Instance) (log : List DataEntry) (d : Delivery) : Type 0 where
  pub within : d.turn < length (parts_of i)
  pub there : position_at d.turn i ≡ d.from
  pub some : position_at d.turn i < d.to
  pub settled : d.to ≤ stable (topic_in (part_at d.turn i)) log

-- a topic that a sink's task reads
abbrev pub IsTopic : PartKey → Type 0
IsTopic (Raw n) = ⊥
IsTopic (File connector feed) = ⊥
IsTopic (Seq connector index) = ⊥
IsTopic (Sink connector topic) = ⊤

-- when it has to be told: a sink's task polls a topic at just that place, and the topic is stable so far
pub record IsToTell (i : ℕ) (s : Cluster) (d : Delivery) : Type 0 where
  pub may : MayDeliver i d.turn d.to s
  pub there : position_at d.turn (instance_of i s) ≡ d.from
  pub topic : IsTopic (part_at d.turn (instance_of i s))
