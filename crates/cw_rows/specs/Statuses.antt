-- What a worker reports of an item (Connect's status topic).
use Rattle.std.specs.Prelude.{ℕ, List, map, Some, option_map, if◌then◌else◌}
use Rattle.cw_types.specs.declared.ids.Item.{Item}
use Rattle.cw_keys.specs.declared.state.State.{State}
use Rattle.cw_keys.specs.declared.status.StatusValue.{StatusValue}
use Rattle.cw_config.specs.declared.records.ConfigRecord.{ConfigRecord}
use Rattle.cw_model.specs.declared.instance.Instance.{Instance}
use Rattle.cw_model.specs.declared.row.Row.{Row}
use Rattle.cw_model.specs.State.{Cluster, StampedStatus}
use Rattle.cw_model.specs.EventsReports.{state_of, status_of, status_record, trace_text, instance_at, is_item_at}
use Rattle.cw_rows.specs.Crew.{CrewState}

-- the status of an instance, by what its worker has read of the config log
abbrev pub status_in : ℕ → Row → List ConfigRecord → Instance → StatusValue
status_in w row read i = record {
  state = state_of read i;
  trace = option_map trace_text i.trace;
  worker = w;
  round = row.round;
}

-- the record of what a worker reports of an item
abbrev pub reported : ℕ → Item → Cluster → StampedStatus
reported w item s = status_record item (status_of w (instance_at w item s) s) s

-- a state counts as reported
abbrev pub reporting : State → Instance → Instance
reporting state i = record i { reported = Some state }

-- a worker's instances of an item count as reported
abbrev pub with_reports : ℕ → Item → State → CrewState → CrewState
with_reports w item state s =
    record s { instances = map (λ i. if is_item_at w item i then reporting state i else i) s.instances }
