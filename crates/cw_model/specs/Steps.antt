-- What a task does at a step: the event of its phase (KIP-618 for sources). A paused connector's tasks wait where they
-- have nothing in hand (Kafka Connect's pause). A step that finds its producer fenced, or a line that is too long,
-- fails the task; that each step is one event, and then the failure, is this project's own.
use Rattle.std.specs.Prelude.{ℕ, ◌&&◌, Bool, true, false, List, Option, Some, None, Result, Ok, Err, if◌then◌else◌}
use Rattle.cw_io.specs.Shelf.{Files}
use Rattle.cw_types.specs.declared.ids.Span.{Span}
use Rattle.cw_keys.specs.declared.target.Target.{Target}
use Rattle.cw_keys.specs.declared.target.Target.TheVariants.{Started, Paused, Stopped}
use Rattle.cw_config.specs.View.{target_of}
use Rattle.cw_feed.specs.declared.cut.CutAnswer.{CutAnswer}
use Rattle.cw_feed.specs.declared.cut.CutAnswer.TheVariants.{Cut, AtEnd, LineTooLong}
use Rattle.cw_model.specs.declared.did.Did.{Did}
use Rattle.cw_model.specs.declared.did.Did.TheVariants as did
use Rattle.cw_model.specs.declared.fault.WorldFault.{WorldFault}
use Rattle.cw_model.specs.declared.fault.WorldFault.TheVariants.{Fenced, StaleGeneration, PendingFence, Gone}
use Rattle.cw_model.specs.declared.instance.Instance.{Instance}
use Rattle.cw_model.specs.declared.instance.InstancePhase.{InstancePhase}
use Rattle.cw_model.specs.declared.instance.InstancePhase.TheVariants as phase
use Rattle.cw_model.specs.declared.instance.Trace.TheVariants as trace
use Rattle.cw_model.specs.State.{Setting, Cluster}
use Rattle.cw_model.specs.Phases.{may_pause}
use Rattle.cw_model.specs.Lookups.{seen, instance_of, connector_of}
use Rattle.cw_model.specs.Answers.{Answer, answered}
use Rattle.cw_model.specs.Tasks.{part_at, position_at, is_sink, cut_of, span_of}
use Rattle.cw_model.specs.EventsSources.{init, verify, fetch, produce, put_offsets, commit}
use Rattle.cw_model.specs.EventsSinks.{sink_cut, deliver, put_sink}
use Rattle.cw_model.specs.EventsReports.{fail}
use Rattle.cw_model.specs.Polls.{Delivery, source_turn, cut_at, gathered}

-- ---- what a step tells

-- of an event; a refusal that is the task's own state is no fault of the step
abbrev pub told : {A : Type 0} → (A → Did) → Result A WorldFault → Result Did WorldFault
told tell (Ok x) = Ok (tell x)
told tell (Err (StaleGeneration own current)) = Ok (did.Stale own current)
told tell (Err PendingFence) = Ok did.Pending
told tell (Err (Fenced own current)) = Ok (did.Fenced own current)
told tell (Err (Gone i)) = Ok did.Gone
told tell (Err fault) = Err fault

-- what a task does besides: it fails where its producer is fenced
abbrev pub fails_if_fenced : ℕ → Result Did WorldFault → Cluster → Cluster
fails_if_fenced i (Ok (did.Fenced own current)) s = (fail i (trace.Fenced own current) s).1
fails_if_fenced i answer s = s

-- an event, and what the step tells of it
abbrev pub tells : {A : Type 0} → ℕ → Answer A → (A → Did) → Answer Did
tells i done tell = (told tell done.0, fails_if_fenced i (told tell done.0) done.1)

-- ---- polling

-- the span of a part from its position on
abbrev pub span_to : (turn to : ℕ) → Instance → Span
span_to turn to i = record { part = part_at turn i; from = position_at turn i; to = to }

-- a source's task writes what was cut of a part, or fails at a line that is too long
abbrev pub takes_cut : Setting → ℕ → Cluster → (turn : ℕ) → CutAnswer → Answer Did
takes_cut setting i s turn AtEnd = answered did.AtEnd s
takes_cut setting i s turn (LineTooLong at) = (Ok (did.LineTooLong at), (fail i (trace.LineTooLong at) s).1)
takes_cut setting i s turn (Cut to) =
    tells i (produce setting i (sink_cut turn to (instance_of i s)) s)
    (λ _. did.Produce (span_to turn to (instance_of i s)))

-- a source's task polls
abbrev pub polls_source : Setting → ℕ → Cluster → Option ℕ → Answer Did
polls_source setting i s None = answered did.AtEnd s
polls_source setting i s (Some turn) = takes_cut setting i s turn (cut_at setting.feeds (instance_of i s) turn)

-- a sink's task polls: it hands out what it gathers
abbrev pub polls_sink : ℕ → Cluster → Option Delivery → Answer Did
polls_sink i s None = answered did.AtEnd s
polls_sink i s (Some d) = tells i (deliver i d.turn d.to s) (λ _. did.Deliver d.topic d.from d.to)

abbrev pub polls : Setting → ℕ → Cluster → Answer Did
polls setting i s =
    if is_sink (instance_of i s) then polls_sink i s (gathered (instance_of i s) s.batches)
    else polls_source setting i s (source_turn setting.feeds (instance_of i s))

-- ---- the table

-- the event of each phase
abbrev pub does : Setting → ℕ → Cluster → InstancePhase → Answer Did
does setting i s phase.Connector = answered did.AtEnd s
does setting i s phase.New = tells i (init i s) (λ epoch. did.Init epoch.0)
does setting i s phase.Inited = tells i (verify i s) (λ generation. did.Verify generation)
does setting i s phase.Verified = tells i (fetch i s) (λ _. did.Fetch)
does setting i s phase.Polling = polls setting i s
does setting i s phase.Produced = tells i (put_offsets i s) (λ _. did.Offsets)
does setting i s phase.Offered = tells i (commit i s) (λ span. did.Commit span)
does setting i s phase.Delivered = tells i (put_sink i (cut_of (instance_of i s)).to s) (λ _. did.Offsets)
does setting i s phase.Failed = answered did.Failed s
does setting i s phase.Ended = answered did.Gone s

-- whether a target state is that of a paused connector
abbrev pub is_paused_target : Target → Bool
is_paused_target Started = false
is_paused_target Paused = true
is_paused_target Stopped = false

-- whether a task waits, since its worker has read that its connector is paused
abbrev pub waits : Instance → Cluster → Bool
waits i s = may_pause i.phase && is_paused_target (target_of (connector_of i.item) (seen i.worker s))

-- a task's step
abbrev pub step : Setting → ℕ → Cluster → Answer Did
step setting i s =
    if waits (instance_of i s) s then answered did.Paused s else does setting i s (instance_of i s).phase
