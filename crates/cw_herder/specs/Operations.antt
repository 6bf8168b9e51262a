-- What a leader is asked to do, as the one event that it makes: it claims its lead and fences older tasks (KIP-618),
-- commits tasks, marks how transactions ended (KIP-98), and writes what a user asks for, offsets too (KIP-875). Which
-- operations there are is this project's own.
use Rattle.std.specs.Prelude.{◌≡◌, ℕ, ◌<◌, Bool, List, [], length, nat_lt, true, IsSome, Some, unwrap_or, Result, Ok}
use Rattle.std.specs.Prelude.{Err, if◌then◌else◌}
use Rattle.std.specs.Bool.{⊤}
use Rattle.cw_types.specs.declared.logs.LogName.{LogName}
use Rattle.cw_types.specs.declared.logs.LogName.TheVariants.{Batches}
use Rattle.cw_keys.specs.declared.target.Target.{Target}
use Rattle.cw_keys.specs.declared.target.Target.TheVariants.{Started, Paused, Stopped}
use Rattle.cw_config.specs.declared.records.ConfigRecord.{ConfigRecord}
use Rattle.cw_config.specs.View.{is_pending}
use Rattle.cw_txn.specs.declared.entry.SetOffset.{SetOffset}
use Rattle.cw_rest.specs.Operations.{config_values, target_values, stop_values, delete_values, commit_values}
use Rattle.cw_rest.specs.Seen.{KeyedValues}
use Rattle.cw_model.specs.declared.fault.WorldFault.{WorldFault}
use Rattle.cw_model.specs.declared.tick.Tick.{Tick}
use Rattle.cw_model.specs.declared.tick.Tick.TheVariants as outcome
use Rattle.cw_model.specs.State.{Cluster}
use Rattle.cw_model.specs.Answers.{Answer}
use Rattle.cw_model.specs.EventsLeading.{claim_lead, append_config, fence_one, append_fence, set_offsets, fencing_of}
use Rattle.cw_model.specs.EventsLeading.{MayAppendConfig, MaySetOffsets}
use Rattle.cw_model.specs.EventsMarking.{mark}
use Rattle.cw_model.specs.Lookups.{row_of, seen}
use Rattle.cw_model.specs.Proposals.{proposal_of, needs_tasks, are_deferred, task_records}
use Rattle.cw_model.specs.Tick.{rule_for}
use Rattle.cw_model.specs.TickRules.{tells, unless_lost, mark_applies}
use Rattle.cw_herder.specs.declared.op.Op.{Op}
use Rattle.cw_herder.specs.declared.op.Op.TheVariants as op
use Rattle.cw_herder.specs.declared.op.OpDone.{OpDone}
use Rattle.cw_herder.specs.declared.op.OpDone.TheVariants as done

-- ---- an event, as an operation tells of it

abbrev pub told_as : {A : Type 0} → Result A WorldFault → (A → OpDone) → Result OpDone WorldFault
told_as (Ok x) tell = Ok (tell x)
told_as (Err fault) tell = Err fault

abbrev pub done_as : {A : Type 0} → Answer A → (A → OpDone) → Answer OpDone
done_as did tell = (told_as did.0 tell, did.1)

-- ---- the lead

-- a leader claims the next lead epoch
abbrev pub claims : ℕ → Cluster → Answer OpDone
claims w s = done_as (claim_lead w s) done.Lead

-- ---- tasks are proposed, and then committed

-- what is written of the tasks that a connector's config asks for: a record for each, or, once these stand, their
-- commit
abbrev pub proposal_records : List ConfigRecord → List ℕ → KeyedValues
proposal_records records name =
    if are_deferred records name
    then commit_values name (length (proposal_of name records))
    else task_records name (proposal_of name records)

-- what is told of it, by the offset of the first record
abbrev pub told_proposal : List ConfigRecord → List ℕ → ℕ → OpDone
told_proposal records name offset =
    if are_deferred records name then done.Committed offset else done.Proposed (length (proposal_of name records))

-- the tasks are written, or their commit
abbrev pub proposes : ℕ → List ℕ → Cluster → Answer OpDone
proposes w name s =
    done_as (append_config w (proposal_records s.configs name) s) (told_proposal s.configs name)

-- a leader's connector isn't stopped, and its tasks aren't those that its config asks for
pub record MayPropose (w : ℕ) (name : List ℕ) (s : Cluster) : Type 0 where
  pub leads : IsSome (row_of w s).lead
  pub needs : needs_tasks s.configs name ≡ true

-- ---- older tasks are fenced

-- whether a producer is still to be fenced
abbrev pub has_left : ℕ → List ℕ → Cluster → Bool
has_left w name s = nat_lt (fencing_of w name s).next (fencing_of w name s).count

-- the next producer is fenced, or, once all are, that is written
abbrev pub fences : ℕ → List ℕ → Cluster → Answer OpDone
fences w name s =
    if has_left w name s
    then done_as (fence_one w name s) (λ did. done.Fenced did.0 did.1)
    else done_as (append_fence w name s) done.Recorded

-- a leader's connector is pending, as it has read
pub record IsToFence (w : ℕ) (name : List ℕ) (s : Cluster) : Type 0 where
  pub leads : IsSome (row_of w s).lead
  pub pending : is_pending name (seen w s) ≡ true

-- ---- transactions are marked

-- the log in which a leader marks a transaction
abbrev pub log_to_mark : ℕ → Cluster → LogName
log_to_mark w s = unwrap_or (mark_applies w s) Batches

-- the first that has ended is marked there
abbrev pub marks : ℕ → Cluster → Answer OpDone
marks w s = done_as (mark (log_to_mark w s) s) (λ did. done.Marked (log_to_mark w s) did.0 did.1)

-- ---- what a user asks for is written

-- a connector gets a target state; one that is stopped has no tasks any more
abbrev pub state_values : List ℕ → Target → KeyedValues
state_values name Started = target_values name Started
state_values name Paused = target_values name Paused
state_values name Stopped = stop_values name

-- the records of an operation
abbrev pub records_of : Op → KeyedValues
records_of (op.Connector name props) = config_values name props
records_of (op.SetTarget name target) = state_values name target
records_of (op.Delete name) = delete_values name
records_of _ = []

-- they are written
abbrev pub writes : ℕ → KeyedValues → Cluster → Answer OpDone
writes w values s = done_as (append_config w values s) (λ _. done.Written)

-- offsets of a stopped connector are set
abbrev pub sets : ℕ → List ℕ → List SetOffset → Cluster → Answer OpDone
sets w name list s = done_as (set_offsets w name list s) (λ _. done.Written)

-- ---- the table

-- the event of an operation at a leader
unfoldable pub op_event : ℕ → Op → Cluster → Answer OpDone
op_event w op.Lead s = claims w s
op_event w (op.Propose name) s = proposes w name s
op_event w (op.Fence name) s = fences w name s
op_event w op.Mark s = marks w s
op_event w (op.Connector name props) s = writes w (config_values name props) s
op_event w (op.SetTarget name target) s = writes w (state_values name target) s
op_event w (op.Delete name) s = writes w (delete_values name) s
op_event w (op.Offsets name list) s = sets w name list s

-- it may be made: a lead may always be claimed; else the worker leads, what it writes is allowed, and what it fences or
-- marks is due
unfoldable pub MayOp : Op → ℕ → Cluster → Type 0
MayOp op.Lead w s = ⊤
MayOp (op.Propose name) w s = MayPropose w name s
MayOp (op.Fence name) w s = IsToFence w name s
MayOp op.Mark w s = IsSome (mark_applies w s)
MayOp (op.Connector name props) w s = MayAppendConfig w (config_values name props) s
MayOp (op.SetTarget name target) w s = MayAppendConfig w (state_values name target) s
MayOp (op.Delete name) w s = MayAppendConfig w (delete_values name) s
MayOp (op.Offsets name list) w s = MaySetOffsets w name list s

-- ---- an operation that a worker's tick makes

-- what the tick tells of a connector's tasks, of its older ones, and of a lead or a marker
abbrev pub proposed_tick : List ℕ → OpDone → Tick
proposed_tick name (done.Proposed count) = outcome.Propose name count
proposed_tick name (done.Committed offset) = outcome.Commit name offset
proposed_tick name _ = outcome.Idle

abbrev pub fenced_tick : List ℕ → OpDone → Tick
fenced_tick name (done.Fenced index epoch) = outcome.Fence (record { connector = name; index = index }) epoch.0
fenced_tick name (done.Recorded offset) = outcome.FenceRecord name offset
fenced_tick name _ = outcome.Idle

abbrev pub led_tick : OpDone → Tick
led_tick (done.Lead epoch) = outcome.Lead epoch.0
led_tick (done.Marked log tag committed) = outcome.Mark log tag committed
led_tick _ = outcome.Idle

-- what it tells of an operation
unfoldable pub tick_of : Op → OpDone → Tick
tick_of (op.Propose name) did = proposed_tick name did
tick_of (op.Fence name) did = fenced_tick name did
tick_of _ did = led_tick did

-- a worker's rule asks a leader for this operation
pub record IsAsked (leader : ℕ) (asked : Op) (w : ℕ) (s : Cluster) : Type 0 where
  pub there : leader < length s.rows
  pub may : MayOp asked leader s
  pub rule : rule_for w s ≡
      Some (λ _. unless_lost (tells (op_event leader asked s) (λ did _. tick_of asked did)))
