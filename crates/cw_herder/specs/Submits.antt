-- What a call of Connect's REST API through a worker does to the world. That a call which writes is one event, and its
-- worker's reading another, is this project's own, and so is what want of memory leaves between them.
use Rattle.std.specs.Prelude.{◌≡◌, ◌⊎◌, ℕ, List, Option, Some, None, Result, Ok, Err, option_map}
use Rattle.cw_types.specs.declared.logs.LogName.{LogName}
use Rattle.cw_types.specs.declared.logs.LogName.TheVariants.{Config, Txn}
use Rattle.cw_keys.specs.declared.target.Target.TheVariants.{Started, Paused, Stopped}
use Rattle.cw_config.specs.View.{Properties}
use Rattle.cw_disk.specs.declared.device.Disk.{Ghosts}
use Rattle.cw_route.specs.declared.call.Call.{Call}
use Rattle.cw_route.specs.declared.call.Call.TheVariants.{Create, PutConfig, Delete, Pause, Resume, Stop}
use Rattle.cw_route.specs.declared.reply.Reply.{Reply}
use Rattle.cw_rest.specs.Bodies.{Asked, asked_in, config_in}
use Rattle.cw_rest.specs.Calls.{deed_of}
use Rattle.cw_model.specs.declared.fault.WorldFault.{WorldFault}
use Rattle.cw_model.specs.declared.fault.WorldFault.TheVariants.{Fenced, StaleGeneration, PendingFence, BadCut, Gone}
use Rattle.cw_model.specs.declared.fault.WorldFault.TheVariants.{Full, StoreFault, Closed, Dead, Group, TooMany, Memory}
use Rattle.cw_model.specs.State.{Setting, Cluster}
use Rattle.cw_model.specs.Answers.{Answer, answered}
use Rattle.cw_model.specs.EventsItems.{read_config}
use Rattle.cw_model.specs.Reopening.{stored_of}
use Rattle.cw_edges.specs.Requests.{HasWritten, answers, behind_write, written}
use Rattle.cw_ops.specs.declared.answering.Answers.{Answers}
use Rattle.cw_world.specs.Logs.{HaveSameOthers, KeepsOn, AddsTo, view_in, list_in, faults_in}
use Rattle.cw_world.specs.World.{WorldState, Acts}
use Rattle.cw_herder.specs.declared.op.Op.{Op}
use Rattle.cw_herder.specs.declared.op.Op.TheVariants as op
use Rattle.cw_herder.specs.Operations.{op_event, MayOp}

-- Memory is wanting where a call has written and its worker is to read that. No other log changes, and of each log a
-- stop at any moment of the call leaves the list before the event or the one behind it.
pub record StopsShort {D : Type 0} (G : Ghosts D) (w : ℕ) (call : Call) (old new : WorldState D)
    (result : Result Reply WorldFault) : Type 0 where
  pub log : LogName
  pub answer : result ≡ Err Memory
  pub state : HasWritten old.setting w call old.state new.state
  pub setting : new.setting ≡ old.setting
  pub name : new.name ≡ old.name
  pub others : HaveSameOthers log old.logs new.logs
  pub leaves : (any : LogName) → (told : List (List ℕ)) → (view_in G any old.logs).bodies ≡ Some told →
      AddsTo G any old.logs new.logs (λ list. (list ≡ list_in any (stored_of old.state)) ⊎
      (list ≡ list_in any (stored_of new.state)))
  pub keeps : (any : LogName) → KeepsOn (view_in G any old.logs) (view_in G any new.logs)
      (faults_in G any old.logs) (faults_in G any new.logs)

-- a call is answered and done as the model has it, or stops short of its end
abbrev pub Submits : {D : Type 0} → Ghosts D → ℕ → Call → (old new : WorldState D) →
    Result Reply WorldFault → Type 0
Submits G w call old new result =
    Acts G (answers old.setting w call) old new result ⊎ StopsShort G w call old new result

-- ---- the operation of a call that writes

-- a connector that a body asks for gets its config
abbrev pub asked_op : Asked → Op
asked_op asked = op.Connector asked.name asked.config

-- a connector gets a config
abbrev pub config_op : List ℕ → Properties → Op
config_op name config = op.Connector name config

-- what a call that writes configs has its leader do, where it succeeds
abbrev pub configs_op : Call → Option Op
configs_op (Create body) = option_map asked_op (asked_in body)
configs_op (PutConfig name body) = option_map (config_op name) (config_in name body)
configs_op (Delete name) = Some (op.Delete name)
configs_op (Pause name) = Some (op.SetTarget name Paused)
configs_op (Resume name) = Some (op.SetTarget name Started)
configs_op (Stop name) = Some (op.SetTarget name Stopped)
configs_op _ = None

-- the log to which an operation of a call writes
abbrev pub log_of : Op → LogName
log_of (op.Offsets name list) = Txn
log_of _ = Config

-- an event writes to one log: if a log is full, it is that one, and nothing changes; where it is done, the workers
-- are as before, and no disk has failed
pub record IsWriteTo {A : Type 0} (log : LogName) (event : Answer A) (s : Cluster) : Type 0 where
  pub full : (other : LogName) → (length frame : ℕ) → event.0 ≡ Err (Full other length frame) →
      (other ≡ log) × (event.1 ≡ s)
  pub rows : (x : A) → event.0 ≡ Ok x → event.1.rows ≡ s.rows
  pub alive : (x : A) → event.0 ≡ Ok x → event.1.closed ≡ s.closed

-- an operation may be made at the leader of a call, and is what the call does there
pub record IsOpOf (setting : Setting) (w : ℕ) (call : Call) (leader : ℕ) (asked : Op) (s : Cluster) : Type 0 where
  pub may : MayOp asked leader s
  pub does : answers setting w call s ≡
      behind_write setting w call s (op_event leader asked s).0 (op_event leader asked s).1
  pub leaves : written setting w call (deed_of call) leader s ≡ (op_event leader asked s).1

-- ---- the steps of a call that writes

-- where its event was refused: a full log and a lost lead have their replies, which were made before
abbrev pub told_refusal : Answers → WorldFault → Result Reply WorldFault
told_refusal answers (Full log length frame) = Ok answers.full
told_refusal answers (Fenced own current) = Ok answers.outrun
told_refusal answers (StaleGeneration own current) = Err (StaleGeneration own current)
told_refusal answers PendingFence = Err PendingFence
told_refusal answers (BadCut from to) = Err (BadCut from to)
told_refusal answers (Gone i) = Err (Gone i)
told_refusal answers (StoreFault disk count) = Err (StoreFault disk count)
told_refusal answers (Closed disk count) = Err (Closed disk count)
told_refusal answers (Dead w) = Err (Dead w)
told_refusal answers (Group fault) = Err (Group fault)
told_refusal answers TooMany = Err TooMany
told_refusal answers Memory = Err Memory

-- behind it the worker reads the configs
abbrev pub reads_back : ℕ → Reply → Cluster → Answer Reply
reads_back w reply s = answered reply (read_config w s).1
