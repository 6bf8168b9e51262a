-- A worker reads the config log, starts and stops what it is assigned, and restarts it when a user asks for that
-- (Connect's herder and REST API). That each start makes an instance with a number of its own is this project's own.
use Rattle.std.specs.Prelude.{◌≡◌, ℕ, ◌&&◌, not, Bool, true, false, List, [], ◌∷◌, ◌++◌, length, Option, None}
use Rattle.std.specs.Prelude.{unwrap_or, option_and_then}
use Rattle.cw_types.specs.declared.ids.TaskId.{TaskId}
use Rattle.cw_types.specs.declared.ids.Item.{Item}
use Rattle.cw_types.specs.declared.ids.Item.TheVariants.{Connector, Task}
use Rattle.cw_assign.specs.Items.{has, same_item}
use Rattle.cw_config.specs.declared.records.ConfigRecord.{ConfigRecord}
use Rattle.cw_config.specs.View.{generation_of, task_of as task_config_of}
use Rattle.cw_plugin.specs.declared.task.TaskSpec.{TaskSpec}
use Rattle.cw_plugin.specs.Parts.{task_of as task_with}
use Rattle.cw_model.specs.declared.instance.Instance.{Instance}
use Rattle.cw_model.specs.declared.instance.InstancePhase.TheVariants as phase
use Rattle.cw_model.specs.State.{Cluster}
use Rattle.cw_model.specs.Phases.{is_ended}
use Rattle.cw_model.specs.Lookups.{row_of, seen, held, is_configured}
use Rattle.cw_model.specs.Answers.{Answer, answered, at_worker, at_instance}
use Rattle.cw_model.specs.Updates.{changes_row, changes_instance, in_phase, ends_instances}

-- a worker has read the config log to its end
abbrev pub read_config : ℕ → Cluster → Answer (Unit {0})
read_config w = at_worker w (λ s. answered tt (changes_row w (λ row. record row { prefix = length s.configs }) s))

-- what a task reads or writes, by its committed config
abbrev pub spec_in : List ConfigRecord → TaskId → Option TaskSpec
spec_in records id = option_and_then (task_with id.connector) (task_config_of id records)

-- a new instance of a connector, or of a task as the worker has read of it
abbrev pub new_instance : ℕ → List ConfigRecord → Item → Instance
new_instance w records (Connector name) = record {
  worker = w;
  item = Connector name;
  phase = phase.Connector;
  generation = 0;
  epoch = None;
  number = 0;
  task = None;
  positions = [];
  last = None;
  cut = None;
  trace = None;
  reported = None;
}
new_instance w records (Task id) = record {
  worker = w;
  item = Task id;
  phase = phase.New;
  generation = unwrap_or (generation_of id.connector records) 0;
  epoch = None;
  number = 0;
  task = spec_in records id;
  positions = [];
  last = None;
  cut = None;
  trace = None;
  reported = None;
}

-- a worker starts an item: the answer is the instance's number
abbrev pub start_item : ℕ → Item → Cluster → Answer ℕ
start_item w item = at_worker w (λ s. answered (length s.instances)
    (record s { instances = s.instances ++ new_instance w (seen w s) item ∷ [] }))

-- it is assigned and configured, and doesn't run there
pub record MayStart (w : ℕ) (item : Item) (s : Cluster) : Type 0 where
  pub assigned : has (row_of w s).assigned item ≡ true
  pub configured : is_configured (seen w s) item ≡ true
  pub stopped : has (held w s) item ≡ false

-- an instance ends
abbrev pub stop_item : ℕ → Cluster → Answer (Unit {0})
stop_item i = at_instance i (λ s. answered tt (changes_instance i (in_phase phase.Ended) s))

-- whether a worker takes part: it wasn't killed and isn't deaf
abbrev pub is_active : Cluster → ℕ → Bool
is_active s w = (row_of w s).live && (row_of w s).hearing

-- whether an instance is of an item and hasn't ended
abbrev pub runs : Item → Instance → Bool
runs item i = same_item i.item item && not (is_ended i.phase)

-- what runs of an item at workers that take part ends, to be started again
abbrev pub restart : ℕ → Item → Cluster → Answer (Unit {0})
restart w item = at_worker w (λ s. answered tt (ends_instances (λ i. runs item i && is_active s i.worker) s))
