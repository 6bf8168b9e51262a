-- A task fails, and states are reported to the status log (Connect's status topic, KIP-875 for STOPPED). Which states
-- are reported, and the texts of failures, are this project's own.
use Rattle.std.specs.Prelude.{◌≡◌, ℕ, ◌&&◌, Bool, true, false, List, map, Some, unwrap_or, option_map, if◌then◌else◌}
use Rattle.std.specs.List.{find, list_any}
use Rattle.cw_types.specs.declared.ids.Item.{Item}
use Rattle.cw_types.specs.declared.ids.Item.TheVariants.{Connector, Task}
use Rattle.cw_assign.specs.Items.{same_item}
use Rattle.cw_keys.specs.declared.state.State.{State}
use Rattle.cw_keys.specs.declared.state.State.TheVariants as state
use Rattle.cw_keys.specs.declared.status.StatusValue.{StatusValue}
use Rattle.cw_keys.specs.declared.target.Target.{Target}
use Rattle.cw_keys.specs.declared.target.Target.TheVariants.{Started, Paused, Stopped}
use Rattle.cw_keys.specs.Traces.{fenced_trace, long_line_trace}
use Rattle.cw_config.specs.declared.records.ConfigRecord.{ConfigRecord}
use Rattle.cw_config.specs.View.{target_of}
use Rattle.cw_model.specs.declared.instance.Instance.{Instance}
use Rattle.cw_model.specs.declared.instance.InstancePhase.{InstancePhase}
use Rattle.cw_model.specs.declared.instance.InstancePhase.TheVariants as phase
use Rattle.cw_model.specs.declared.instance.Trace.{Trace}
use Rattle.cw_model.specs.declared.instance.Trace.TheVariants.{Fenced, LineTooLong}
use Rattle.cw_model.specs.State.{Cluster, StampedStatus}
use Rattle.cw_model.specs.Phases.{has_failed}
use Rattle.cw_model.specs.Lookups.{row_of, seen, is_at, no_instance, connector_of, instance_of}
use Rattle.cw_model.specs.Answers.{Answer, answered, at_worker, at_instance}
use Rattle.cw_model.specs.Updates.{changes_instance, appends_status, next_status, stamp_of}

-- an instance fails, and keeps why
abbrev pub fail : ℕ → Trace → Cluster → Answer (Unit {0})
fail i trace = at_instance i (λ s. answered tt (changes_instance i
    (λ instance. record instance { phase = phase.Failed; trace = Some trace }) s))

-- an instance fails once
abbrev pub MayFail : ℕ → Cluster → Type 0
MayFail i s = has_failed (instance_of i s).phase ≡ false

-- the state of an item that hasn't failed, by its connector's target state; no task is reported as stopped
abbrev pub aimed_state : Item → Target → State
aimed_state item Started = state.Running
aimed_state item Paused = state.Paused
aimed_state (Connector name) Stopped = state.Stopped
aimed_state (Task id) Stopped = state.Running

-- the state of an instance, as its worker has read the target state
abbrev pub state_of : List ConfigRecord → Instance → State
state_of records i =
    if has_failed i.phase then state.Failed else aimed_state i.item (target_of (connector_of i.item) records)

-- why an instance failed, as its status tells it
abbrev pub trace_text : Trace → List ℕ
trace_text (Fenced own current) = fenced_trace own current
trace_text (LineTooLong at) = long_line_trace at

-- the status of an instance at a worker
abbrev pub status_of : ℕ → Instance → Cluster → StatusValue
status_of w i s = record {
  state = state_of (seen w s) i;
  trace = option_map trace_text i.trace;
  worker = w;
  round = (row_of w s).round;
}

-- whether an instance is of an item, at a worker, and hasn't ended
abbrev pub is_item_at : ℕ → Item → Instance → Bool
is_item_at w item i = is_at w i && same_item i.item item

-- a worker's instance of an item
abbrev pub instance_at : ℕ → Item → Cluster → Instance
instance_at w item s = unwrap_or (find (is_item_at w item) s.instances) no_instance

-- an item's state counts as reported
abbrev pub reports : ℕ → Item → State → Cluster → Cluster
reports w item state s = record s {
  instances = map (λ i. if is_item_at w item i then record i { reported = Some state } else i) s.instances;
}

-- the record of an item's status
abbrev pub status_record : Item → StatusValue → Cluster → StampedStatus
status_record item status s =
    record { stamp = stamp_of s; status = record { offset = next_status s; item = item; value = status } }

-- a worker reports an item's state
abbrev pub put_status : ℕ → Item → Cluster → Answer (Unit {0})
put_status w item = at_worker w (λ s. let status = status_of w (instance_at w item s) s in
    appends_status (status_record item status s) (reports w item status.state) tt s)

-- the item runs at the worker
abbrev pub MayReport : ℕ → Item → Cluster → Type 0
MayReport w item s = list_any (is_item_at w item) s.instances ≡ true
