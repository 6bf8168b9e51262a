-- The facts of the workers' rows and of each instance, of what it is and what it has in its phase, from which the
-- facts of the group and of producers follow at the next event. They are this project's own.
use Rattle.std.specs.Prelude.{◌≡◌, ◌≢◌, ℕ, ◌<◌, ◌≤◌, ◌^◌, ◌||◌, Bool, true, false, List, length, Any, Option, Some}
use Rattle.std.specs.Prelude.{None, IsSome, slice_get}
use Rattle.std.specs.Bool.{⊤}
use Rattle.std.specs.Option.{IsSomeAnd}
use Rattle.std.specs.List.{AllByRecursion}
use Rattle.cw_types.specs.declared.ids.Item.{Item}
use Rattle.cw_types.specs.declared.ids.Item.TheVariants.{Connector, Task}
use Rattle.cw_types.specs.declared.ids.Tid.TheVariants.{Lead}
use Rattle.cw_types.specs.declared.ids.TaskId.{TaskId}
use Rattle.cw_keys.specs.declared.config_key.ConfigKey.TheVariants.{Commit}
use Rattle.cw_keys.specs.Statuses.{IsItem}
use Rattle.cw_config.specs.declared.records.ConfigRecord.{ConfigRecord}
use Rattle.cw_config.specs.Records.{has_key}
use Rattle.cw_config.specs.View.{Properties, generation_of}
use Rattle.cw_config.specs.Acceptance.{end_of}
use Rattle.cw_plugin.specs.declared.task.TaskSpec.{TaskSpec}
use Rattle.cw_plugin.specs.Parts.{task_of}
use Rattle.cw_model.specs.declared.row.Row.{Row}
use Rattle.cw_model.specs.declared.row.Fencing.{Fencing}
use Rattle.cw_model.specs.declared.instance.Cut.{Cut}
use Rattle.cw_model.specs.declared.instance.Instance.{Instance}
use Rattle.cw_model.specs.declared.instance.InstancePhase.TheVariants as phase
use Rattle.cw_model.specs.State.{Cluster}
use Rattle.cw_model.specs.Lookups.{last_epoch, list_end}
use Rattle.cw_model.specs.Updates.{epoch_in}
use Rattle.cw_model.specs.Tasks.{parts_of, is_source, is_sink}
use Rattle.cw_model.specs.EventsWorkers.{most_workers}
use Rattle.cw_model.specs.Phases.{is_working, has_epoch, is_fetched, has_open_transaction, has_cut}

-- ---- rows

-- a fencing is of a generation that its connector had, which isn't above the newest, and counts tasks that have ids:
-- `fence_one` needs it, whose bump names one of them. It has fenced no more than there are: a tick needs it, which
-- writes the fence once none is left
pub record IsBegunFencing (records : List ConfigRecord) (fencing : Fencing) : Type 0 where
  pub generation : IsSomeAnd (generation_of fencing.connector records) (λ newest. fencing.generation ≤ newest)
  pub count : fencing.count < 2 ^ 32
  pub next : fencing.next ≤ fencing.count

-- what a row has begun to fence, if it has
abbrev pub IsBegun : List ConfigRecord → Option Fencing → Type 0
IsBegun records None = ⊤
IsBegun records (Some fencing) = IsBegunFencing records fencing

-- the facts of a row
pub record IsSoundRow (s : Cluster) (row : Row) : Type 0 where
  -- it has read no more of the config log than there is: `start_item` and `fence_one` need it, which judge by what was
  -- read
  pub prefix : row.prefix ≤ length s.configs
  -- its lead epoch isn't ahead of the last one: `claim_lead` needs it, so that its epoch is no other row's
  pub lead : epoch_in row.lead ≤ last_epoch Lead s
  -- its fencing isn't ahead of the newest generation: `verify` needs it, so that a task which goes on is none of those
  -- that the leader fences
  pub fencing : IsBegun s.configs row.fencing
  -- its round is one that a status can tell: `put_status` needs it
  pub round : row.round < 2 ^ 64

-- ---- instances

-- what some properties ask of a task of this connector: its parts are therefore the connector's own, none twice, and
-- its topic is a name
pub record IsTaskSpecOf (connector : List ℕ) (spec : TaskSpec) : Type 0 where
  pub properties : Properties
  pub asked : task_of connector properties ≡ Some spec

-- a record commits a connector's tasks, and its offset is this generation
pub record IsCommitOf (connector : List ℕ) (generation : ℕ) (r : ConfigRecord) : Type 0 where
  pub commits : has_key (Commit connector) r ≡ true
  pub at : r.offset ≡ generation

-- an instance of a connector: it does no task's work, and has no task
pub record IsConnectorInstance (i : Instance) : Type 0 where
  pub idle : is_working i.phase ≡ false
  pub task : i.task ≡ None
  pub generation : i.generation ≡ 0

-- an instance of a task: it has what a config asks of it, and its generation is that of a commit
pub record IsTaskInstance (records : List ConfigRecord) (id : TaskId) (i : Instance) : Type 0 where
  pub phase : i.phase ≢ phase.Connector
  pub task : IsSomeAnd i.task (IsTaskSpecOf id.connector)
  pub generation : Any (IsCommitOf id.connector i.generation) records

-- an instance is one of its item
abbrev pub IsOfItem : List ConfigRecord → Item → Instance → Type 0
IsOfItem records (Connector name) i = IsConnectorInstance i
IsOfItem records (Task id) i = IsTaskInstance records id i

-- what was handed out begins at the position there, isn't empty, and ends at an offset that a record can tell:
-- `put_sink` needs it, which stores that
pub record HandsOut (i : Instance) (cut : Cut) : Type 0 where
  pub begins : slice_get i.positions cut.turn ≡ Some cut.from
  pub some : cut.from < cut.to
  pub fits : cut.to < 2 ^ 64

-- the facts of an instance
pub record IsSoundInstance (s : Cluster) (i : Instance) : Type 0 where
  -- it is at a worker that is there, and has a name that a status can tell: `put_status` needs both
  pub at_worker : i.worker < length s.rows
  pub named : IsItem i.item
  -- it is a connector's or a task's: what writes is a task's, of parts of its own, which `commit` and `put_sink` need,
  -- since no task writes another's
  pub of_item : IsOfItem s.configs i.item i
  -- its generation is that of a record which is there: `append_config` needs it, so that a new commit's generation is
  -- no instance's
  pub generation : i.generation < end_of s.configs
  -- a source's task produces, and a sink's delivers: `commit` needs it, which is of a source's parts alone, and
  -- `put_sink`, which is of a sink's
  pub source : has_open_transaction i.phase ≡ true → is_source i ≡ true
  pub sink : i.phase ≡ phase.Delivered → is_sink i ≡ true
  -- it has its epoch from `init` on: whatever it writes, it writes as a producer
  pub epoch : has_epoch i.phase ≡ true → IsSome i.epoch
  -- it has a position in each part from `fetch` on
  pub positions : is_fetched i.phase ≡ true → length i.positions ≡ length (parts_of i)
  -- what it took is of one of its parts
  pub cut : has_cut i.phase ≡ true → IsSomeAnd i.cut (λ cut. cut.turn < length (parts_of i))
  -- what a sink handed out goes on from its position: `put_sink` needs it, which stores how far that came
  pub delivered : i.phase ≡ phase.Delivered → IsSomeAnd i.cut (HandsOut i)
  -- it has committed no more transactions than there are entries: `commit` needs it, since a number stays at the
  -- greatest one, and a full log has fewer entries
  pub number : i.number ≤ list_end s.entries

-- the facts of all rows and instances
pub record RowFacts (s : Cluster) : Type 0 where
  -- there are no more workers than there may be: `put_status` needs it, whose statuses tell a worker's number
  pub few : length s.rows ≤ most_workers
  pub rows : AllByRecursion (IsSoundRow s) s.rows
  pub instances : AllByRecursion (IsSoundInstance s) s.instances
