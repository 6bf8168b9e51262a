-- When a cluster is quiet, and when it has done all that its connectors ask for. Both are this project's own: Kafka
-- Connect says neither.
use Rattle.std.specs.Prelude.{◌≡◌, ◌≢◌, ◌⊎◌, ℕ, ◌≤◌, Bool, true, false, List, [], map, drop, Some, None, IsSome, IfSome}
use Rattle.std.specs.Bool.{⊤}
use Rattle.std.specs.List.{zip, AllByRecursion}
use Rattle.cw_types.specs.declared.ids.Item.{Item}
use Rattle.cw_types.specs.declared.ids.PartKey.{PartKey}
use Rattle.cw_types.specs.declared.ids.PartKey.TheVariants.{Raw, File, Seq, Sink}
use Rattle.cw_io.specs.Shelf.{Files}
use Rattle.cw_assign.specs.Items.{has}
use Rattle.cw_keys.specs.declared.target.Target.TheVariants.{Started, Paused, Stopped}
use Rattle.cw_config.specs.View.{config_of, target_of}
use Rattle.cw_data.specs.declared.entry.DataEntry.{DataEntry}
use Rattle.cw_data.specs.Log.{taken}
use Rattle.cw_feed.specs.declared.cut.CutAnswer.TheVariants.{AtEnd}
use Rattle.cw_feed.specs.Feeds.{feed_of}
use Rattle.cw_feed.specs.Cut.{next_cut, line_lengths}
use Rattle.cw_plugin.specs.declared.task.TaskSpec.{TaskSpec}
use Rattle.cw_plugin.specs.Parts.{task_of}
use Rattle.cw_model.specs.declared.instance.Instance.{Instance}
use Rattle.cw_model.specs.declared.instance.InstancePhase.TheVariants as phase
use Rattle.cw_model.specs.State.{Cluster, Setting}
use Rattle.cw_model.specs.Phases.{is_ended, may_pause}
use Rattle.cw_model.specs.Lookups.{seen, is_member, held, connector_of, items_of, end_or_start}
use Rattle.cw_model.specs.EventsItems.{is_active}
use Rattle.cw_model.specs.Proposals.{proposal_of, tasks_of}
use Rattle.cw_model.specs.Tick.{rule_for}

-- ---- quiet

-- a task finds nothing in a part from a position on: a source's feed or sequence has no more whole record, and a
-- sink's topic has no committed record below its last stable offset
abbrev pub HasNoMore : Files → List DataEntry → TaskSpec → PartKey → ℕ → Type 0
HasNoMore feeds log task (Raw n) position = ⊤
HasNoMore feeds log task (File connector feed) position =
    next_cut feeds (File connector feed) task.count position task.batch ≡ AtEnd
HasNoMore feeds log task (Seq connector index) position =
    next_cut feeds (Seq connector index) task.count position task.batch ≡ AtEnd
HasNoMore feeds log task (Sink connector topic) position = taken topic position log ≡ None

-- a task that polls finds nothing in each of its parts
pub record PollsNothing (setting : Setting) (s : Cluster) (i : Instance) : Type 0 where
  pub task : TaskSpec
  pub is_task : i.task ≡ Some task
  pub polls : i.phase ≡ phase.Polling
  pub nothing : AllByRecursion (λ p. HasNoMore setting.feeds s.batches task p.0 p.1) (zip task.parts i.positions)

-- an instance at its end: a connector's has nothing to do
abbrev pub IsAtEnd : Setting → Cluster → Instance → Type 0
IsAtEnd setting s i = (i.phase ≡ phase.Connector) ⊎ PollsNothing setting s i

-- a task is paused where its worker has read so of its connector
pub record IsPaused (s : Cluster) (i : Instance) : Type 0 where
  pub may : may_pause i.phase ≡ true
  pub target : target_of (connector_of i.item) (seen i.worker s) ≡ Paused

-- an instance that does nothing more by itself
abbrev pub IsAtRest : Setting → Cluster → Instance → Type 0
IsAtRest setting s i = (i.phase ≡ phase.Failed) ⊎ (IsAtEnd setting s i ⊎ IsPaused s i)

-- to no worker that takes part a rule applies, so that its tick is idle, and each instance is at rest
pub record IsQuiet (setting : Setting) (s : Cluster) : Type 0 where
  pub idle : (w : ℕ) → is_active s w ≡ true → rule_for w s ≡ None
  pub at_rest : AllByRecursion (λ i. is_ended i.phase ≡ false → IsAtRest setting s i) s.instances

-- ---- done

-- an item runs at just one current member
pub record RunsOnce (s : Cluster) (item : Item) : Type 0 where
  pub worker : ℕ
  pub member : is_member worker s ≡ true
  pub holds : has (held worker s) item ≡ true
  pub only : (other : ℕ) → is_member other s ≡ true → has (held other s) item ≡ true → other ≡ worker

-- behind a position a feed has no whole line, and a sequence no record
abbrev pub IsReadThrough : Files → ℕ → PartKey → ℕ → Type 0
IsReadThrough feeds count (Raw n) end = ⊤
IsReadThrough feeds count (File connector feed) end = line_lengths (drop end (feed_of feed feeds)) ≡ []
IsReadThrough feeds count (Seq connector index) end = count ≤ end
IsReadThrough feeds count (Sink connector topic) end = ⊤

-- what is committed of each source part of a task reaches its source's end
abbrev pub IsThrough : Setting → Cluster → TaskSpec → Type 0
IsThrough setting s task =
    AllByRecursion (λ part. IsReadThrough setting.feeds task.count part (end_or_start part s.entries)) task.parts

-- a connector has the tasks that it asks for, all of it runs, and, where it is started, its sources are read through
pub record IsDoneFor (setting : Setting) (s : Cluster) (name : List ℕ) : Type 0 where
  pub tasks : tasks_of name s.configs ≡ map Some (proposal_of name s.configs)
  pub runs : AllByRecursion (RunsOnce s) (items_of s.configs name)
  pub through : target_of name s.configs ≡ Started → AllByRecursion
      (λ props. IfSome (task_of name props) (IsThrough setting s)) (proposal_of name s.configs)

-- all is done: for each connector that is configured and not stopped
abbrev pub IsDone : Setting → Cluster → Type 0
IsDone setting s = (name : List ℕ) → IsSome (config_of name s.configs) → target_of name s.configs ≢ Stopped →
    IsDoneFor setting s name
