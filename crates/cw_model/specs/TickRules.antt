-- What each rule of a worker's tick asks, and what it does: for each rule first where it applies, and then the one
-- event that it makes (Connect's distributed herder; KIP-415 for the group, KIP-618 for fences). Where exactly a rule
-- applies is this project's own.
use Rattle.std.specs.Prelude.{ℕ, ◌==◌, ◌&&◌, ◌||◌, Bool, true, false, not, List, [], ◌∷◌, map, length, filter, nat_lt}
use Rattle.std.specs.Prelude.{position, slice_get, Option, Some, None, is_some, is_none, unwrap_or, option_map, Result}
use Rattle.std.specs.Prelude.{Ok, Err, bytes_eq, if◌then◌else◌}
use Rattle.std.specs.Option.{option_or, option_map_or}
use Rattle.std.specs.List.{find, filter_map}
use Rattle.std.specs.Cmp.Lexicographic.{pointwise}
use Rattle.cw_types.specs.declared.ids.Item.{Item}
use Rattle.cw_types.specs.declared.ids.Item.TheVariants.{Connector, Task}
use Rattle.cw_types.specs.declared.logs.LogName.{LogName}
use Rattle.cw_types.specs.declared.logs.LogName.TheVariants.{Offsets, Batches}
use Rattle.cw_keys.specs.declared.state.State.{State}
use Rattle.cw_keys.specs.Statuses.{state_name}
use Rattle.cw_assign.specs.Items.{has, same_item, in_order}
use Rattle.cw_group.specs.declared.answers.Phase.{Phase}
use Rattle.cw_group.specs.declared.answers.Phase.TheVariants.{Open, Closed, Planned}
use Rattle.cw_group.specs.declared.member.Member.{Member}
use Rattle.cw_group.specs.Phases.{is_open, is_closed}
use Rattle.cw_group.specs.Members.{member_of, lowest_in, lowest_missing_in}
use Rattle.cw_config.specs.declared.records.ConfigRecord.{ConfigRecord}
use Rattle.cw_config.specs.View.{generation_of, is_pending}
use Rattle.cw_model.specs.declared.fault.WorldFault.{WorldFault}
use Rattle.cw_model.specs.declared.fault.WorldFault.TheVariants.{Fenced}
use Rattle.cw_model.specs.declared.instance.Instance.{Instance}
use Rattle.cw_model.specs.declared.tick.Tick.{Tick}
use Rattle.cw_model.specs.declared.tick.Tick.TheVariants as outcome
use Rattle.cw_model.specs.State.{Cluster}
use Rattle.cw_model.specs.Lookups.{row_of, seen, is_at, held, is_member, configured_items, is_configured}
use Rattle.cw_model.specs.Answers.{Answer, answered}
use Rattle.cw_model.specs.EventsGroups.{join, close_round, store_plan, sync}
use Rattle.cw_model.specs.EventsItems.{read_config, start_item, stop_item}
use Rattle.cw_model.specs.EventsLeading.{claim_lead, append_config, fence_one, append_fence, fencing_of, leads}
use Rattle.cw_model.specs.EventsMarking.{mark, unmarked_in}
use Rattle.cw_model.specs.EventsReports.{put_status, state_of, is_item_at}
use Rattle.cw_model.specs.Ready.{is_stable, is_stable_in, ready, connector_in, pending_connectors}
use Rattle.cw_model.specs.Proposals.{proposal_of, needs_tasks, are_deferred, task_records}
use Rattle.cw_rest.specs.Operations.{commit_values}
use Rattle.cw_group.specs.Circle.{is_due}

-- ---- rules and what they tell

-- a rule that applies: what it does
abbrev pub Rule : Type 0
Rule = Option (Unit {0} → Answer Tick)

-- a rule that speaks of something, which it does where there is such
abbrev pub rule : {A : Type 0} → Option A → (A → Answer Tick) → Rule
rule found does = option_map (λ x _. does x) found

-- what is there where a test passes
abbrev pub when : Bool → Option (Unit {0})
when false = None
when true = Some tt

-- what a tick tells of an event that was done
abbrev pub told : {A : Type 0} → Result A WorldFault → (A → Tick) → Result Tick WorldFault
told (Ok x) tell = Ok (tell x)
told (Err fault) tell = Err fault

-- what the tick answers behind an event
abbrev pub tells : {A : Type 0} → Answer A → (A → Cluster → Tick) → Answer Tick
tells did tell = (told did.0 (λ x. tell x did.1), did.1)

-- a leader that finds a later lead epoch has lost its lead; that is no fault of the tick
abbrev pub or_lost : Result Tick WorldFault → Result Tick WorldFault
or_lost (Err (Fenced own current)) = Ok (outcome.LostLead own current)
or_lost answer = answer

-- the same of a whole answer
abbrev pub unless_lost : Answer Tick → Answer Tick
unless_lost did = (or_lost did.0, did.1)

-- ---- read: the config log goes on behind what the worker has read

-- whether the config log goes on behind what a worker has read
abbrev pub read_applies : ℕ → Cluster → Bool
read_applies w s = nat_lt (row_of w s).prefix (length s.configs)

-- it reads up to the end: the tick tells how many records it has read
abbrev pub reads : ℕ → Cluster → Answer Tick
reads w s = tells (read_config w s) (λ _ t. outcome.Read (row_of w t).prefix)

-- ---- stop: the worker runs what it is not to run

-- whether this is the newest generation
abbrev pub is_generation : ℕ → Option ℕ → Bool
is_generation generation None = false
is_generation generation (Some newest) = newest == generation

-- whether a task is of another generation than the newest that was read
abbrev pub is_of_other : List ConfigRecord → ℕ → Item → Bool
is_of_other records generation (Connector name) = false
is_of_other records generation (Task id) = not (is_generation generation (generation_of id.connector records))

-- whether an instance isn't to run at its worker, as that has read: it isn't assigned or isn't configured, or its task
-- set isn't the newest
abbrev pub is_outdated : ℕ → Cluster → Instance → Bool
is_outdated w s i = not (has (row_of w s).assigned i.item) || not (is_configured (seen w s) i.item) ||
    is_of_other (seen w s) i.generation i.item

-- the first of a worker's instances, in the order of items, that passes a test
abbrev pub first_running : (Instance → Bool) → ℕ → Cluster → Option Item
first_running test w s = slice_get (in_order (map (λ i. i.item) (filter (λ i. is_at w i && test i) s.instances))) 0

-- the group doesn't know the worker, or an instance isn't to run
abbrev pub stop_applies : ℕ → Cluster → Option Item
stop_applies w s = first_running (λ i. not (is_member w s) || is_outdated w s i) w s

-- the same of a worker that is deaf, which can't know whether the group knows it
abbrev pub deaf_stop_applies : ℕ → Cluster → Option Item
deaf_stop_applies w s = first_running (is_outdated w s) w s

-- the number of a worker's instance of an item
abbrev pub number_at : ℕ → Item → Cluster → ℕ
number_at w item s = unwrap_or (position (is_item_at w item) s.instances) 0

-- that instance ends
abbrev pub stops : ℕ → Cluster → Item → Answer Tick
stops w s item = tells (stop_item (number_at w item s) s) (λ _ _. outcome.Stop item)

-- ---- join: a round is to begin, or has begun without the worker

-- whether a round is planned
abbrev pub is_planned : Phase → Bool
is_planned Open = false
is_planned Closed = false
is_planned Planned = true

-- whether a member is still to join
abbrev pub has_not_joined : Option Member → Bool
has_not_joined None = false
has_not_joined (Some member) = not member.joined

-- whether two lists have the same items, in one order
abbrev pub same_items : List Item → List Item → Bool
same_items = pointwise same_item

-- whether a worker has its assignment of the planned round
abbrev pub is_settled : ℕ → Cluster → Bool
is_settled w s = is_planned s.group.phase && is_stable_in s.group.round (row_of w s).phase

-- whether a leader has to plan anew: other items are configured than were planned, or lost items were waited for long
-- enough (KIP-415)
abbrev pub is_to_plan : ℕ → Cluster → Bool
is_to_plan w s = leads w (row_of w s).phase && (not (same_items (configured_items (seen w s)) s.group.planned) ||
    is_due s.moment s.delay)

-- the group doesn't know the worker, or waits for it; or something is revoked from it (KIP-415), or it leads and has
-- to plan anew
abbrev pub join_applies : ℕ → Cluster → Bool
join_applies w s =
    not (is_member w s) ||
    (is_open s.group.phase && has_not_joined (member_of w s.group.members)) ||
    (is_settled w s && not (length (row_of w s).revoked == 0)) ||
    (is_settled w s && is_to_plan w s)

-- it joins: the tick tells the round
abbrev pub joins : ℕ → Cluster → Answer Tick
joins w s = tells (join w s) (λ round _. outcome.Join round)

-- ---- close, plan, sync: the lowest member closes a round that all have joined and plans it, and each member is told

-- whether a worker is the lowest member
abbrev pub is_lowest : ℕ → Cluster → Bool
is_lowest w s = option_map_or (λ lowest. lowest == w) (lowest_in s.group.members) false

-- all have joined an open round, and the worker is the lowest
abbrev pub close_applies : ℕ → Cluster → Bool
close_applies w s = is_open s.group.phase && is_lowest w s && is_none (lowest_missing_in s.group.members)

-- it closes the round
abbrev pub closes : ℕ → Cluster → Answer Tick
closes w s = tells (close_round w s) (λ _ t. outcome.Close t.group.round)

-- the round is closed, and the worker is the lowest
abbrev pub plan_applies : ℕ → Cluster → Bool
plan_applies w s = is_closed s.group.phase && is_lowest w s

-- it plans the round
abbrev pub plans : ℕ → Cluster → Answer Tick
plans w s = tells (store_plan w s) (λ _ t. outcome.Planned t.group.round)

-- the round is planned, and the member wasn't told yet
abbrev pub sync_applies : ℕ → Cluster → Bool
sync_applies w s = is_planned s.group.phase && is_member w s && not (is_stable_in s.group.round (row_of w s).phase)

-- it is told its assignment
abbrev pub syncs : ℕ → Cluster → Answer Tick
syncs w s = tells (sync w s) (λ _ t. outcome.Sync t.group.round)

-- ---- lead: the leader of the worker's assignment is itself, and it has no epoch

-- whether a worker leads, and has no lead epoch
abbrev pub lead_applies : ℕ → Cluster → Bool
lead_applies w s = leads w (row_of w s).phase && is_none (row_of w s).lead

-- it claims one: the tick tells it
abbrev pub takes_lead : ℕ → Cluster → Answer Tick
takes_lead w s = tells (claim_lead w s) (λ epoch _. outcome.Lead epoch.0)

-- ---- propose: a connector that the worker runs needs other tasks, and there is a leader to write them

-- what is written, at which leader
pub record Proposing : Type 0 where
  pub leader : ℕ
  pub connector : List ℕ

-- the first connector that a ready worker runs and that needs other tasks
abbrev pub propose_applies : ℕ → Cluster → Option Proposing
propose_applies w s = option_map_or
    (λ leader. option_map (λ name. record { leader = leader; connector = name })
    (find (needs_tasks (seen w s)) (filter_map connector_in (held w s)))) (ready w s) None

-- the tasks are written, or, once they are, their commit
abbrev pub proposes : ℕ → Cluster → Proposing → Answer Tick
proposes w s p = let proposal = proposal_of p.connector (seen w s) in unless_lost (
    if are_deferred (seen w s) p.connector
    then tells (append_config p.leader (commit_values p.connector (length proposal)) s)
    (λ offset _. outcome.Commit p.connector offset)
    else tells (append_config p.leader (task_records p.connector proposal) s)
    (λ _ _. outcome.Propose p.connector (length proposal)))

-- ---- fence: the leader has read of a connector whose older tasks aren't fenced

-- the first connector whose older tasks a leader has to fence
abbrev pub fence_applies : ℕ → Cluster → Option (List ℕ)
fence_applies w s =
    if is_some (row_of w s).lead && is_stable (row_of w s).phase then slice_get (pending_connectors w s) 0 else None

-- one producer is fenced, or, once all are, that is written
abbrev pub fences : ℕ → Cluster → List ℕ → Answer Tick
fences w s name = let fencing = fencing_of w name s in unless_lost (
    if nat_lt fencing.next fencing.count
    then tells (fence_one w name s) (λ did _. outcome.Fence (record { connector = name; index = did.0 }) did.1.0)
    else tells (append_fence w name s) (λ offset _. outcome.FenceRecord name offset))

-- ---- mark: the leader finds a transaction that has ended and isn't marked, in the data log before the offset log

-- the log in which a leader has to mark a transaction
abbrev pub mark_applies : ℕ → Cluster → Option LogName
mark_applies w s =
    if is_none (row_of w s).lead then None else
    if is_some (unmarked_in Batches s) then Some Batches else
    if is_some (unmarked_in Offsets s) then Some Offsets else None

-- it is marked: the tick tells which, and how it ended
abbrev pub marks_ended : Cluster → LogName → Answer Tick
marks_ended s log = tells (mark log s) (λ did _. outcome.Mark log did.0 did.1)

-- ---- start: an assigned item doesn't run; a task waits until its connector's older tasks are fenced

-- whether an item is a task that may not start yet
abbrev pub waits_for_fence : List ConfigRecord → Item → Bool
waits_for_fence records (Connector name) = false
waits_for_fence records (Task id) = is_pending id.connector records

-- whether an item that is assigned to a worker is to be started
abbrev pub may_start : ℕ → Cluster → Item → Bool
may_start w s item = is_configured (seen w s) item && not (has (held w s) item) && not (waits_for_fence (seen w s) item)

-- the first such item
abbrev pub start_applies : ℕ → Cluster → Option Item
start_applies w s = if is_stable (row_of w s).phase then find (may_start w s) (row_of w s).assigned else None

-- it is started: the tick tells the instance's number
abbrev pub starts : ℕ → Cluster → Item → Answer Tick
starts w s item = tells (start_item w item s) (λ number _. outcome.Start item number)

-- ---- report: an instance's state isn't the one that was reported of it

-- whether this is the state that was reported last
abbrev pub is_reported : State → Option State → Bool
is_reported state None = false
is_reported state (Some reported) = bytes_eq (state_name state) (state_name reported)

-- the first instance of a worker whose state isn't reported
abbrev pub report_applies : ℕ → Cluster → Option Instance
report_applies w s = find (λ i. is_at w i && not (is_reported (state_of (seen w s) i) i.reported)) s.instances

-- its state is reported
abbrev pub reports_state : ℕ → Cluster → Instance → Answer Tick
reports_state w s i = tells (put_status w i.item s) (λ _ _. outcome.Report i.item (state_of (seen w s) i))
