-- What is tested before a task, a leader or a script writes: that its epoch is its producer's last (KIP-98, KIP-618).
use Rattle.std.specs.Prelude.{ℕ, ◌==◌, List, map, Option, Some, None, Result, Ok, Err, if◌then◌else◌}
use Rattle.std.specs.List.{find}
use Rattle.cw_types.specs.declared.ids.Epoch.{Epoch}
use Rattle.cw_types.specs.declared.ids.Span.{Span}
use Rattle.cw_types.specs.declared.ids.Tid.TheVariants.{Lead, Raw}
use Rattle.cw_model.specs.declared.fault.WorldFault.{WorldFault}
use Rattle.cw_model.specs.declared.fault.WorldFault.TheVariants.{Dead, Gone, Fenced, BadCut}
use Rattle.cw_model.specs.State.{Cluster}
use Rattle.cw_model.specs.Phases.{is_ended}
use Rattle.cw_model.specs.Lookups.{row_of, instance_of, last_epoch}
use Rattle.cw_model.specs.Updates.{epoch_in, tid_of}
use Rattle.cw_model.specs.EventsRaw.{raw_span, is_bad_span}
use Rattle.cw_rows.specs.Kept.{open_test}

-- whether an epoch is its producer's last
abbrev pub epoch_test : (own current : ℕ) → Result (Unit {0}) WorldFault
epoch_test own current = if own == current then Ok tt else Err (Fenced own current)

-- whether an instance may write as its task's producer
abbrev pub producer_test : ℕ → Cluster → Result (Unit {0}) WorldFault
producer_test i s = open_test s.closed (if is_ended (instance_of i s).phase then Err (Gone i) else
    epoch_test (epoch_in (instance_of i s).epoch) (last_epoch (tid_of (instance_of i s).item) s))

-- whether a worker may write as the leader
abbrev pub leader_test : ℕ → Cluster → Result (Unit {0}) WorldFault
leader_test w s = open_test s.closed (if (row_of w s).live
    then epoch_test (epoch_in (row_of w s).lead) (last_epoch Lead s) else Err (Dead w))

-- whether each span grows its part; this is the first one that doesn't
abbrev pub bad_test : Option Span → Result (Unit {0}) WorldFault
bad_test None = Ok tt
bad_test (Some span) = Err (BadCut span.from span.to)

-- whether a script's producer may commit parts up to new ends
abbrev pub raw_test : ℕ → Epoch → List (ℕ × ℕ) → Cluster → Result (Unit {0}) WorldFault
raw_test n epoch list s = open_test s.closed (if epoch.0 == last_epoch (Raw n) s
    then bad_test (find is_bad_span (map (raw_span s.entries) list)) else Err (Fenced epoch.0 (last_epoch (Raw n) s)))
