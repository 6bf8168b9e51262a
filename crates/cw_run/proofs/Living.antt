-- An event of a cluster in which no disk has failed: none has failed behind it, and its refusal, if it is one, is that
-- of the event itself.
use Rattle.std.proofs.Common.{◌≡◌, ℕ, ◌==◌, ◌-◌, ◌^◌, map, length, nat_lt, unwrap_or, ◌∷◌, [], Bool, true, false, List, Option, Some, None, Result, Ok, Err, if◌then◌else◌, sym, subst}
use Rattle.std.specs.List.{find}
use Rattle.std.specs.Option.{option_or}
use Rattle.cw_types.specs.declared.ids.Item.{Item}
use Rattle.cw_types.specs.declared.ids.Tag.{Tag}
use Rattle.cw_types.specs.declared.ids.Epoch.{Epoch}
use Rattle.cw_types.specs.declared.ids.Span.{Span}
use Rattle.cw_types.specs.declared.ids.Tid.TheVariants.{Lead, Raw as RawTid}
use Rattle.cw_types.specs.declared.logs.DiskName.{DiskName}
use Rattle.cw_types.specs.declared.logs.LogName.{LogName}
use Rattle.cw_types.specs.declared.logs.LogName.TheVariants as log
use Rattle.cw_config.specs.View.{generation_of, task_count_of, fenced_count_of, is_pending}
use Rattle.cw_data.specs.declared.entry.DataEntry.TheVariants.{Mark as DataMark}
use Rattle.cw_offset.specs.declared.body.OffsetEntry.TheVariants.{Mark, Records}
use Rattle.cw_rest.specs.Operations.{offset_entries, commit_values}
use Rattle.cw_txn.specs.Legal.{is_committed}
use Rattle.cw_txn.specs.declared.entry.Entry.TheVariants.{Bump, Commit}
use Rattle.cw_txn.specs.declared.entry.SetOffset.{SetOffset}
use Rattle.cw_assign.specs.declared.delay.Delay.TheVariants.{Idle}
use Rattle.cw_feed.specs.declared.cut.CutAnswer.{CutAnswer}
use Rattle.cw_feed.specs.declared.cut.CutAnswer.TheVariants.{Cut, AtEnd, LineTooLong}
use Rattle.cw_group.specs.declared.answers.GroupFault.{GroupFault}
use Rattle.cw_group.specs.Group.{expire_row, join_row, close_row, store_row, sync_row}
use Rattle.cw_rest.specs.Seen.{KeyedValues}
use Rattle.cw_route.specs.declared.call.Call.{Call}
use Rattle.cw_rest.specs.Calls.{Deed, reads, reads_configs, writes_configs, writes_offsets, restarts, deed_of}
use Rattle.cw_rest.specs.Replies.{values_of, offsets_of, connector_set}
use Rattle.cw_model.specs.declared.did.Did.{Did}
use Rattle.cw_model.specs.declared.did.Did.TheVariants as did
use Rattle.cw_model.specs.declared.tick.Tick.{Tick}
use Rattle.cw_model.specs.declared.tick.Tick.TheVariants as outcome
use Rattle.cw_model.specs.declared.fault.WorldFault.{WorldFault}
use Rattle.cw_model.specs.declared.fault.WorldFault.TheVariants as fault
use Rattle.cw_model.specs.declared.instance.Cut.{Cut as TaskCut}
use Rattle.cw_model.specs.declared.instance.InstancePhase.{InstancePhase}
use Rattle.cw_model.specs.declared.instance.InstancePhase.TheVariants as phase
use Rattle.cw_model.specs.declared.instance.Trace.{Trace}
use Rattle.cw_model.specs.declared.instance.Trace.TheVariants as trace
use Rattle.cw_model.specs.State.{Setting, Cluster}
use Rattle.cw_model.specs.Answers.{Answer, refused, answered, unless_closed, at_group}
use Rattle.cw_model.specs.EventsCompaction.{compact, compacts}
use Rattle.cw_model.specs.EventsGroups.{entered, incarnation_in, plan_for, join, close_round, store_plan, sync, without_due_delay}
use Rattle.cw_model.specs.EventsItems.{read_config, start_item, stop_item, restart}
use Rattle.cw_model.specs.EventsLeading.{claim_lead, append_config, fence_one, append_fence, fencing_of, fenced_tid, fence_record, set_offsets}
use Rattle.cw_model.specs.EventsMarking.{mark, marks, no_tag, unmarked_in}
use Rattle.cw_model.specs.EventsRaw.{raw_init, raw_commit, raw_commit_of, raw_span, is_bad_span, unless_bad}
use Rattle.cw_model.specs.EventsReports.{state_of, fail, put_status, status_of, status_record, instance_at}
use Rattle.cw_model.specs.EventsSinks.{sink_cut, sink_offset, deliver, put_sink}
use Rattle.cw_model.specs.EventsSources.{init, verify, is_stale, fetch, produce, is_bad_cut, batch_of, put_offsets, offset_record, commit}
use Rattle.cw_model.specs.EventsWorkers.{most_workers, spawn, kill, deaf, hear, expire, clock}
use Rattle.cw_model.specs.Journal.{is_success}
use Rattle.cw_model.specs.Lookups.{configured_items, held, row_of, instance_of, last_epoch, seen}
use Rattle.cw_model.specs.Phases.{is_ended}
use Rattle.cw_model.specs.Polls.{Delivery, source_turn, cut_at, gathered}
use Rattle.cw_model.specs.Proposals.{proposal_of, are_deferred, task_records}
use Rattle.cw_model.specs.Ready.{ready}
use Rattle.cw_model.specs.Steps as task
use Rattle.cw_model.specs.Steps.{fails_if_fenced, takes_cut, polls_source, polls_sink, does, waits, step}
use Rattle.cw_model.specs.Tasks.{is_sink, cut_of, span_of, tag_of}
use Rattle.cw_model.specs.Tick.{rules, deaf_rules, first_rule, rule_for, follows, tick}
use Rattle.cw_model.specs.TickRules as ticks
use Rattle.cw_model.specs.TickRules.{Rule, rule, when, Proposing, or_lost}
use Rattle.cw_model.specs.Updates.{as_leader, as_producer, epoch_in, tid_of, task_id_of, stamped, fits_configs, fits_offset, fits_status, fits_entries, fits_data}
use Rattle.cw_edges.specs.Requests.{seen_now, reply_now, would_succeed, behind_write, writes, item_of, restarted, answers_by, answers, written, HasWritten}
use Rattle.cw_group.specs.Circle.{is_due}

-- a refusal of the event itself
abbrev pub IsOwnFault : WorldFault → Type 0
IsOwnFault (fault.Fenced own current) = Unit {0}
IsOwnFault (fault.StaleGeneration own current) = Unit {0}
IsOwnFault fault.PendingFence = Unit {0}
IsOwnFault (fault.BadCut from to) = Unit {0}
IsOwnFault (fault.Gone i) = Unit {0}
IsOwnFault (fault.Full log length frame) = Unit {0}
IsOwnFault (fault.StoreFault disk count) = ⊥
IsOwnFault (fault.Closed disk count) = ⊥
IsOwnFault (fault.Dead w) = Unit {0}
IsOwnFault (fault.Group cause) = Unit {0}
IsOwnFault fault.TooMany = Unit {0}
IsOwnFault fault.Memory = ⊥

abbrev pub IsOwnAnswer : {A : Type 0} → Result A WorldFault → Type 0
IsOwnAnswer (Ok x) = Unit {0}
IsOwnAnswer (Err why) = IsOwnFault why

-- no disk has failed behind it
pub record Lives {A : Type 0} (done : Answer A) : Type 0 where
  pub unclosed : done.1.closed ≡ None
  pub own : IsOwnAnswer done.0

-- ---- what events are made of

pub lives-done : {A : Type 0} (x : A) (t : Cluster) → t.closed ≡ None → Lives (answered x t)
lives-done x t unclosed = record { unclosed = unclosed; own = tt }

lives-refused : {A : Type 0} (why : WorldFault) (t : Cluster) → t.closed ≡ None → IsOwnFault why → Lives {A = A} (refused why t)
lives-refused why t unclosed own = record { unclosed = unclosed; own = own }

lives-if : {A : Type 0} (b : Bool) (x y : Answer A) → Lives x → Lives y → Lives (if b then x else y)
lives-if true x y one other = one
lives-if false x y one other = other

lives-open : {A : Type 0} (s : Cluster) (closed : Option (DiskName × ℕ)) (done : Answer A) → closed ≡ None → Lives done → Lives (unless_closed closed done s)
lives-open s None done unclosed lives = lives
lives-open s (Some why) done unclosed lives = absurd (cc)

lives-group : {A B : Type 0} (s : Cluster) (result : Result B GroupFault) (event : B → Answer A) → s.closed ≡ None → ((x : B) → Lives (event x)) → Lives (at_group result event s)
lives-group s (Ok x) event unclosed each = each x
lives-group s (Err why) event unclosed each = record { unclosed = unclosed; own = tt }

module _ (s : Cluster) (unclosed : s.closed ≡ None) where
  lives-worker : {A : Type 0} (w : ℕ) (done : Answer A) → Lives done →
      Lives (unless_closed s.closed (if (row_of w s).live then done else refused (fault.Dead w) s) s)
  lives-worker w done lives =
      lives-open s s.closed _ unclosed (lives-if (row_of w s).live done (refused (fault.Dead w) s) lives (record { unclosed = unclosed; own = tt }))

  lives-instance : {A : Type 0} (i : ℕ) (done : Answer A) → Lives done →
      Lives (unless_closed s.closed (if is_ended (instance_of i s).phase then refused (fault.Gone i) s else done) s)
  lives-instance i done lives =
      lives-open s s.closed _ unclosed (lives-if (is_ended (instance_of i s).phase) (refused (fault.Gone i) s) done (record { unclosed = unclosed; own = tt }) lives)

  -- what is written where there is room
  lives-room : {A : Type 0} (fits : Bool) (x : A) (t : Cluster) (name : LogName) (size frame : ℕ) → t.closed ≡ None →
      Lives (if fits then answered x t else refused (fault.Full name size frame) s)
  lives-room fits x t name size frame open-then =
      lives-if fits (answered x t) (refused (fault.Full name size frame) s) (record { unclosed = open-then; own = tt }) (record { unclosed = unclosed; own = tt })

  lives-leader : {A : Type 0} (w : ℕ) (done : Answer A) → Lives done → Lives (as_leader w done s)
  lives-leader w done lives = lives-if (epoch_in (row_of w s).lead == last_epoch Lead s) done _ lives (record { unclosed = unclosed; own = tt })

  lives-producer : {A : Type 0} (i : ℕ) (done : Answer A) → Lives done → Lives (as_producer i done s)
  lives-producer i done lives = lives-if (epoch_in (instance_of i s).epoch == last_epoch (tid_of (instance_of i s).item) s) done _ lives (record { unclosed = unclosed; own = tt })

  -- ---- the events

  pub init-lives : (n : ℕ) → Lives (raw_init n s)
  init-lives n = lives-open s s.closed _ unclosed (lives-room (fits_entries (Bump (RawTid n) ∷ []) s) _ _ _ _ _ unclosed)

  bad-lives : {A : Type 0} (o : Option Span) (done : Answer A) → Lives done → Lives (unless_bad o done s)
  bad-lives None done lives = lives
  bad-lives (Some span) done lives = record { unclosed = unclosed; own = tt }

  pub commit-lives : (n : ℕ) (epoch : Epoch) (list : List (ℕ × ℕ)) → Lives (raw_commit n epoch list s)
  commit-lives n epoch list =
      lives-open s s.closed _ unclosed (lives-if (epoch.0 == last_epoch (RawTid n) s) _ _
      (bad-lives (find is_bad_span (map (raw_span s.entries) list)) _ (lives-room (fits_entries (raw_commit_of n epoch (map (raw_span s.entries) list) s.entries ∷ []) s) _ _ _ _ _ unclosed)) (record { unclosed = unclosed; own = tt }))

  pub spawn-lives : Lives (spawn s)
  spawn-lives = lives-open s s.closed _ unclosed (lives-if (nat_lt (length s.rows) most_workers) _ _ (record { unclosed = unclosed; own = tt }) (record { unclosed = unclosed; own = tt }))

  pub kill-lives : (w : ℕ) → Lives (kill w s)
  kill-lives w = lives-worker w _ (record { unclosed = unclosed; own = tt })

  pub deaf-lives : (w : ℕ) → Lives (deaf w s)
  deaf-lives w = lives-worker w _ (record { unclosed = unclosed; own = tt })

  pub hear-lives : (w : ℕ) → Lives (hear w s)
  hear-lives w = lives-worker w _ (record { unclosed = unclosed; own = tt })

  pub expire-lives : (setting : Setting) (w : ℕ) → Lives (expire setting w s)
  expire-lives setting w = lives-open s s.closed _ unclosed (lives-group s (expire_row w s.group) _ unclosed (λ gone. record { unclosed = unclosed; own = tt }))

  pub clock-lives : (to : ℕ) → Lives (clock to s)
  clock-lives to = record { unclosed = unclosed; own = tt }

  compacts-lives : (name : LogName) → Lives (compacts name s)
  compacts-lives log.Config = lives-if (nat_lt s.config.side (2 ^ 64 - 1)) _ _ (record { unclosed = unclosed; own = tt }) (record { unclosed = unclosed; own = tt })
  compacts-lives log.Offsets = lives-if (nat_lt s.offsets.side (2 ^ 64 - 1)) _ _ (record { unclosed = unclosed; own = tt }) (record { unclosed = unclosed; own = tt })
  compacts-lives log.Status = lives-if (nat_lt s.status.side (2 ^ 64 - 1)) _ _ (record { unclosed = unclosed; own = tt }) (record { unclosed = unclosed; own = tt })
  compacts-lives log.Txn = record { unclosed = unclosed; own = tt }
  compacts-lives log.Batches = record { unclosed = unclosed; own = tt }

  pub compact-lives : (name : LogName) → Lives (compact name s)
  compact-lives name = lives-open s s.closed _ unclosed (compacts-lives name)

  join-lives : (w : ℕ) → Lives (join w s)
  join-lives w = lives-worker w _ (lives-group s (join_row w (incarnation_in w (entered w s)) (held w s) (entered w s)) _ unclosed (λ did. record { unclosed = unclosed; own = tt }))

  close-lives : (w : ℕ) → Lives (close_round w s)
  close-lives w = lives-worker w _ (lives-group s (close_row w s.group.round s.group) _ unclosed (λ did. record { unclosed = unclosed; own = tt }))

  plan-lives : (w : ℕ) → Lives (store_plan w s)
  plan-lives w = lives-worker w _ (lives-group s (store_row w s.group.round (plan_for (without_due_delay s)).shares (configured_items s.configs) s.group) _ unclosed (λ group. record { unclosed = delay-open; own = tt })) where
    delay-open : (without_due_delay s).closed ≡ None
    delay-open = at (is_due s.moment s.delay) where
      at : (b : Bool) → (if b then record s { lost = []; delay = Idle } else s).closed ≡ None
      at true = unclosed
      at false = unclosed

  sync-lives : (w : ℕ) → Lives (sync w s)
  sync-lives w = lives-worker w _ (lives-group s (sync_row w s.group.round s.group) _ unclosed (λ told. record { unclosed = unclosed; own = tt }))

  read-lives : (w : ℕ) → Lives (read_config w s)
  read-lives w = lives-worker w _ (record { unclosed = unclosed; own = tt })

  start-lives : (w : ℕ) (item : Item) → Lives (start_item w item s)
  start-lives w item = lives-worker w _ (record { unclosed = unclosed; own = tt })

  stop-lives : (i : ℕ) → Lives (stop_item i s)
  stop-lives i = lives-instance i _ (record { unclosed = unclosed; own = tt })

  restart-lives : (w : ℕ) (item : Item) → Lives (restart w item s)
  restart-lives w item = lives-worker w _ (record { unclosed = unclosed; own = tt })

  claim-lives : (w : ℕ) → Lives (claim_lead w s)
  claim-lives w = lives-worker w _ (lives-room (fits_entries (Bump Lead ∷ []) s) _ _ _ _ _ unclosed)

  configs-lives : (w : ℕ) (records : KeyedValues) → Lives (append_config w records s)
  configs-lives w records = lives-worker w _ (lives-leader w _ (lives-room (fits_configs (stamped records s) s) _ _ _ _ _ unclosed))

  fence-lives : (w : ℕ) (name : List ℕ) → Lives (fence_one w name s)
  fence-lives w name = lives-worker w _ (lives-leader w _ (lives-room (fits_entries (Bump (fenced_tid (fencing_of w name s)) ∷ []) s) _ _ _ _ _ unclosed))

  fenced-lives : (w : ℕ) (name : List ℕ) → Lives (append_fence w name s)
  fenced-lives w name = lives-worker w _ (lives-leader w _ (lives-if ((fencing_of w name s).generation == unwrap_or (generation_of name s.configs) 0) _ _
      (lives-room (fits_configs (stamped (fence_record name (task_count_of name (seen w s))) s) s) _ _ _ _ _ unclosed) (record { unclosed = unclosed; own = tt })))

  offsets-live : (w : ℕ) (name : List ℕ) (list : List SetOffset) → Lives (set_offsets w name list s)
  offsets-live w name list = lives-worker w _ (lives-leader w _ (lives-room (fits_entries (offset_entries name (fenced_count_of name s.configs) (unwrap_or (row_of w s).lead (record { 0 = 0 })) list) s) _ _ _ _ _ unclosed))

  marks-live : (name : LogName) (tag : Tag) (committed : Bool) → Lives (marks name tag committed s)
  marks-live log.Config tag committed = record { unclosed = unclosed; own = tt }
  marks-live log.Offsets tag committed = lives-room (fits_offset (Mark (record { tag = tag; committed = committed })) s) _ _ _ _ _ unclosed
  marks-live log.Status tag committed = record { unclosed = unclosed; own = tt }
  marks-live log.Txn tag committed = record { unclosed = unclosed; own = tt }
  marks-live log.Batches tag committed = lives-room (fits_data (DataMark tag committed) s) _ _ _ _ _ unclosed

  mark-lives : (name : LogName) → Lives (mark name s)
  mark-lives name = lives-open s s.closed _ unclosed (marks-live name (unwrap_or (unmarked_in name s) no_tag) (is_committed (unwrap_or (unmarked_in name s) no_tag) s.entries))

  status-lives : (w : ℕ) (item : Item) → Lives (put_status w item s)
  status-lives w item = lives-worker w _ (lives-room (fits_status (status_record item (status_of w (instance_at w item s) s) s) s) _ _ _ _ _ unclosed)

  fail-lives : (i : ℕ) (why : Trace) → Lives (fail i why s)
  fail-lives i why = lives-instance i _ (record { unclosed = unclosed; own = tt })

  epoch-lives : (i : ℕ) → Lives (init i s)
  epoch-lives i = lives-instance i _ (lives-room (fits_entries (Bump (tid_of (instance_of i s).item) ∷ []) s) _ _ _ _ _ unclosed)

  verify-lives : (i : ℕ) → Lives (verify i s)
  verify-lives i = lives-instance i _ (lives-if (is_stale (instance_of i s) s) _ _ (record { unclosed = unclosed; own = tt })
      (lives-if (is_pending (task_id_of (instance_of i s).item).connector s.configs) _ _ (record { unclosed = unclosed; own = tt }) (record { unclosed = unclosed; own = tt })))

  fetch-lives : (i : ℕ) → Lives (fetch i s)
  fetch-lives i = lives-instance i _ (record { unclosed = unclosed; own = tt })

  produce-lives : (setting : Setting) (i : ℕ) (cut : TaskCut) → Lives (produce setting i cut s)
  produce-lives setting i cut =
      lives-instance i _ (lives-producer i _ (lives-if (is_bad_cut setting.feeds (instance_of i s) cut) _ _ (record { unclosed = unclosed; own = tt }) (lives-room (fits_data (batch_of setting.feeds (instance_of i s) cut) s) _ _ _ _ _ unclosed)))

  put-lives : (i : ℕ) → Lives (put_offsets i s)
  put-lives i = lives-instance i _ (lives-producer i _ (lives-room (fits_offset (Records (tag_of (instance_of i s)) (offset_record (span_of (instance_of i s)) s ∷ [])) s) _ _ _ _ _ unclosed))

  span-lives : (i : ℕ) → Lives (commit i s)
  span-lives i = lives-instance i _ (lives-producer i _ (lives-room (fits_entries (Commit (tag_of (instance_of i s)) (instance_of i s).generation (span_of (instance_of i s) ∷ []) ∷ []) s) _ _ _ _ _ unclosed))

  deliver-lives : (i turn to : ℕ) → Lives (deliver i turn to s)
  deliver-lives i turn to = lives-instance i _ (record { unclosed = unclosed; own = tt })

  sink-lives : (i to : ℕ) → Lives (put_sink i to s)
  sink-lives i to = lives-instance i _ (lives-producer i _ (lives-room (fits_entries (sink_offset (instance_of i s) to ∷ []) s) _ _ _ _ _ unclosed))

-- ---- a tick

told-own : {A : Type 0} (result : Result A WorldFault) (tell : A → Tick) → IsOwnAnswer result → IsOwnAnswer (ticks.told result tell)
told-own (Ok x) tell own = tt
told-own (Err why) tell own = own

lives-tells : {A : Type 0} (done : Answer A) (tell : A → Cluster → Tick) → Lives done → Lives (ticks.tells done tell)
lives-tells done tell lives = record { unclosed = lives.unclosed; own = told-own done.0 (λ x. tell x done.1) lives.own }

lost-own : (result : Result Tick WorldFault) → IsOwnAnswer result → IsOwnAnswer (or_lost result)
lost-own (Ok x) own = tt
lost-own (Err (fault.Fenced mine current)) own = tt
lost-own (Err (fault.StaleGeneration mine current)) own = tt
lost-own (Err fault.PendingFence) own = tt
lost-own (Err (fault.BadCut from to)) own = tt
lost-own (Err (fault.Gone i)) own = tt
lost-own (Err (fault.Full name length frame)) own = tt
lost-own (Err (fault.StoreFault disk count)) own = own
lost-own (Err (fault.Closed disk count)) own = own
lost-own (Err (fault.Dead w)) own = tt
lost-own (Err (fault.Group cause)) own = tt
lost-own (Err fault.TooMany) own = tt
lost-own (Err fault.Memory) own = own

lives-lost : (done : Answer Tick) → Lives done → Lives (ticks.unless_lost done)
lives-lost done lives = record { unclosed = lives.unclosed; own = lost-own done.0 lives.own }

module _ (s : Cluster) (unclosed : s.closed ≡ None) where
  -- what a rule does
  abbrev Follows : Rule → Type 0
  Follows r = Lives (follows r s)

  rule-lives : {A : Type 0} (found : Option A) (does : A → Answer Tick) → ((x : A) → Lives (does x)) → Follows (rule found does)
  rule-lives None does each = record { unclosed = unclosed; own = tt }
  rule-lives (Some x) does each = each x

  either-lives : (first later : Rule) → Follows first → Follows later → Follows (option_or first later)
  either-lives None later here next = next
  either-lives (Some does) later here next = here

  proposes-lives : (w : ℕ) (p : Proposing) → Lives (ticks.proposes w s p)
  proposes-lives w p = lives-lost _ (lives-if (are_deferred (seen w s) p.connector) _ _
      (lives-tells _ (λ offset _. outcome.Commit p.connector offset) (configs-lives s unclosed p.leader (commit_values p.connector (length (proposal_of p.connector (seen w s))))))
      (lives-tells _ (λ _ _. outcome.Propose p.connector (length (proposal_of p.connector (seen w s)))) (configs-lives s unclosed p.leader (task_records p.connector (proposal_of p.connector (seen w s))))))

  fences-live : (w : ℕ) (name : List ℕ) → Lives (ticks.fences w s name)
  fences-live w name = lives-lost _ (lives-if (nat_lt (fencing_of w name s).next (fencing_of w name s).count) _ _
      (lives-tells _ (λ did _. outcome.Fence (record { connector = name; index = did.0 }) did.1.0) (fence-lives s unclosed w name)) (lives-tells _ (λ offset _. outcome.FenceRecord name offset) (fenced-lives s unclosed w name)))

  starts-live : (w : ℕ) → Follows (rule (ticks.start_applies w s) (ticks.starts w s))
  starts-live w = rule-lives (ticks.start_applies w s) (ticks.starts w s) (λ item. lives-tells _ (λ number _. outcome.Start item number) (start-lives s unclosed w item))

  reports-live : (w : ℕ) → Follows (rule (ticks.report_applies w s) (ticks.reports_state w s))
  reports-live w = rule-lives (ticks.report_applies w s) (ticks.reports_state w s) (λ i. lives-tells _ (λ _ _. outcome.Report i.item (state_of (seen w s) i)) (status-lives s unclosed w i.item))

  stops-live : (w : ℕ) (found : Option Item) → Follows (rule found (ticks.stops w s))
  stops-live w found = rule-lives found (ticks.stops w s) (λ item. lives-tells _ (λ _ _. outcome.Stop item) (stop-lives s unclosed (ticks.number_at w item s)))

  idle : Follows None
  idle = record { unclosed = unclosed; own = tt }

  hearing-lives : (w : ℕ) → Follows (first_rule (rules w s))
  hearing-lives w =
      either-lives (rule (when (ticks.read_applies w s)) (λ _. ticks.reads w s)) _ (rule-lives (when (ticks.read_applies w s)) (λ _. ticks.reads w s) (λ _. lives-tells _ (λ _ t. outcome.Read (row_of w t).prefix) (read-lives s unclosed w)))
      (either-lives (rule (ticks.stop_applies w s) (ticks.stops w s)) _ (stops-live w (ticks.stop_applies w s))
      (either-lives (rule (when (ticks.join_applies w s)) (λ _. ticks.joins w s)) _ (rule-lives (when (ticks.join_applies w s)) (λ _. ticks.joins w s) (λ _. lives-tells _ (λ round _. outcome.Join round) (join-lives s unclosed w)))
      (either-lives (rule (when (ticks.close_applies w s)) (λ _. ticks.closes w s)) _ (rule-lives (when (ticks.close_applies w s)) (λ _. ticks.closes w s) (λ _. lives-tells _ (λ _ t. outcome.Close t.group.round) (close-lives s unclosed w)))
      (either-lives (rule (when (ticks.plan_applies w s)) (λ _. ticks.plans w s)) _ (rule-lives (when (ticks.plan_applies w s)) (λ _. ticks.plans w s) (λ _. lives-tells _ (λ _ t. outcome.Planned t.group.round) (plan-lives s unclosed w)))
      (either-lives (rule (when (ticks.sync_applies w s)) (λ _. ticks.syncs w s)) _ (rule-lives (when (ticks.sync_applies w s)) (λ _. ticks.syncs w s) (λ _. lives-tells _ (λ _ t. outcome.Sync t.group.round) (sync-lives s unclosed w)))
      (either-lives (rule (when (ticks.lead_applies w s)) (λ _. ticks.takes_lead w s)) _ (rule-lives (when (ticks.lead_applies w s)) (λ _. ticks.takes_lead w s) (λ _. lives-tells _ (λ epoch _. outcome.Lead epoch.0) (claim-lives s unclosed w)))
      (either-lives (rule (ticks.propose_applies w s) (ticks.proposes w s)) _ (rule-lives (ticks.propose_applies w s) (ticks.proposes w s) (proposes-lives w))
      (either-lives (rule (ticks.fence_applies w s) (ticks.fences w s)) _ (rule-lives (ticks.fence_applies w s) (ticks.fences w s) (fences-live w))
      (either-lives (rule (ticks.mark_applies w s) (ticks.marks_ended s)) _ (rule-lives (ticks.mark_applies w s) (ticks.marks_ended s) (λ name. lives-tells _ (λ did _. outcome.Mark name did.0 did.1) (mark-lives s unclosed name)))
      (either-lives (rule (ticks.start_applies w s) (ticks.starts w s)) _ (starts-live w)
      (either-lives (rule (ticks.report_applies w s) (ticks.reports_state w s)) _ (reports-live w) idle)))))))))))

  deaf-rules-live : (w : ℕ) → Follows (first_rule (deaf_rules w s))
  deaf-rules-live w = either-lives (rule (ticks.deaf_stop_applies w s) (ticks.stops w s)) _ (stops-live w (ticks.deaf_stop_applies w s)) (either-lives (rule (ticks.start_applies w s) (ticks.starts w s)) _ (starts-live w) (either-lives (rule (ticks.report_applies w s) (ticks.reports_state w s)) _ (reports-live w) idle))

  pub tick-lives : (w : ℕ) → Lives (tick w s)
  tick-lives w = lives-if (row_of w s).live (follows (rule_for w s) s) (answered outcome.Dead s) (at (row_of w s).hearing) (record { unclosed = unclosed; own = tt }) where
    at : (b : Bool) → Follows (first_rule (if b then rules w s else deaf_rules w s))
    at true = hearing-lives w
    at false = deaf-rules-live w

-- ---- a step

told-did : {A : Type 0} (tell : A → Did) (result : Result A WorldFault) → IsOwnAnswer result → IsOwnAnswer (task.told tell result)
told-did tell (Ok x) own = tt
told-did tell (Err (fault.Fenced mine current)) own = tt
told-did tell (Err (fault.StaleGeneration mine current)) own = tt
told-did tell (Err fault.PendingFence) own = tt
told-did tell (Err (fault.BadCut from to)) own = tt
told-did tell (Err (fault.Gone i)) own = tt
told-did tell (Err (fault.Full name length frame)) own = tt
told-did tell (Err (fault.StoreFault disk count)) own = own
told-did tell (Err (fault.Closed disk count)) own = own
told-did tell (Err (fault.Dead w)) own = tt
told-did tell (Err (fault.Group cause)) own = tt
told-did tell (Err fault.TooMany) own = tt
told-did tell (Err fault.Memory) own = own

module _ (setting : Setting) (i : ℕ) where
  -- a task that fails where it is fenced
  fails-open : (result : Result Did WorldFault) (t : Cluster) → t.closed ≡ None → (fails_if_fenced i result t).closed ≡ None
  fails-open (Ok (did.Init epoch)) t unclosed = unclosed
  fails-open (Ok (did.Verify generation)) t unclosed = unclosed
  fails-open (Ok did.Fetch) t unclosed = unclosed
  fails-open (Ok (did.Produce span)) t unclosed = unclosed
  fails-open (Ok did.Offsets) t unclosed = unclosed
  fails-open (Ok (did.Commit span)) t unclosed = unclosed
  fails-open (Ok (did.Deliver topic from to)) t unclosed = unclosed
  fails-open (Ok did.AtEnd) t unclosed = unclosed
  fails-open (Ok did.Paused) t unclosed = unclosed
  fails-open (Ok (did.Stale own current)) t unclosed = unclosed
  fails-open (Ok did.Pending) t unclosed = unclosed
  fails-open (Ok (did.Fenced own current)) t unclosed = (fail-lives t unclosed i (trace.Fenced own current)).unclosed
  fails-open (Ok (did.LineTooLong at)) t unclosed = unclosed
  fails-open (Ok did.Gone) t unclosed = unclosed
  fails-open (Ok did.Failed) t unclosed = unclosed
  fails-open (Err why) t unclosed = unclosed

  lives-told : {A : Type 0} (done : Answer A) (tell : A → Did) → Lives done → Lives (task.tells i done tell)
  lives-told done tell lives = record { unclosed = fails-open (task.told tell done.0) done.1 lives.unclosed; own = told-did tell done.0 lives.own }

  module _ (s : Cluster) (unclosed : s.closed ≡ None) where
    cut-lives : (turn : ℕ) (answer : CutAnswer) → Lives (takes_cut setting i s turn answer)
    cut-lives turn AtEnd = record { unclosed = unclosed; own = tt }
    cut-lives turn (LineTooLong at) = record { unclosed = (fail-lives s unclosed i (trace.LineTooLong at)).unclosed; own = tt }
    cut-lives turn (Cut to) = lives-told _ _ (produce-lives s unclosed setting i (sink_cut turn to (instance_of i s)))

    source-lives : (o : Option ℕ) → Lives (polls_source setting i s o)
    source-lives None = record { unclosed = unclosed; own = tt }
    source-lives (Some turn) = cut-lives turn (cut_at setting.feeds (instance_of i s) turn)

    sink-polls-live : (o : Option Delivery) → Lives (polls_sink i s o)
    sink-polls-live None = record { unclosed = unclosed; own = tt }
    sink-polls-live (Some d) = lives-told _ _ (deliver-lives s unclosed i d.turn d.to)

    does-lives : (p : InstancePhase) → Lives (does setting i s p)
    does-lives phase.Connector = record { unclosed = unclosed; own = tt }
    does-lives phase.New = lives-told _ _ (epoch-lives s unclosed i)
    does-lives phase.Inited = lives-told _ _ (verify-lives s unclosed i)
    does-lives phase.Verified = lives-told _ _ (fetch-lives s unclosed i)
    does-lives phase.Polling = lives-if (is_sink (instance_of i s)) _ _ (sink-polls-live (gathered (instance_of i s) s.batches))
        (source-lives (source_turn setting.feeds (instance_of i s)))
    does-lives phase.Produced = lives-told _ _ (put-lives s unclosed i)
    does-lives phase.Offered = lives-told _ _ (span-lives s unclosed i)
    does-lives phase.Delivered = lives-told _ _ (sink-lives s unclosed i (cut_of (instance_of i s)).to)
    does-lives phase.Failed = record { unclosed = unclosed; own = tt }
    does-lives phase.Ended = record { unclosed = unclosed; own = tt }

    pub step-lives : Lives (step setting i s)
    step-lives = lives-if (waits (instance_of i s) s) _ _ (record { unclosed = unclosed; own = tt }) (does-lives (instance_of i s).phase)

-- ---- a request

module _ (setting : Setting) (w : ℕ) (call : Call) (s : Cluster) (unclosed : s.closed ≡ None) where
  behind-lives : {A : Type 0} (result : Result A WorldFault) (t : Cluster) → t.closed ≡ None → IsOwnAnswer result → Lives (behind_write setting w call s result t)
  behind-lives (Ok x) t open-then own = record { unclosed = (read-lives t open-then w).unclosed; own = tt }
  behind-lives (Err (fault.Full name length frame)) t open-then own = record { unclosed = unclosed; own = tt }
  behind-lives (Err (fault.Fenced mine current)) t open-then own = record { unclosed = open-then; own = tt }
  behind-lives (Err (fault.StaleGeneration mine current)) t open-then own = record { unclosed = open-then; own = tt }
  behind-lives (Err fault.PendingFence) t open-then own = record { unclosed = open-then; own = tt }
  behind-lives (Err (fault.BadCut from to)) t open-then own = record { unclosed = open-then; own = tt }
  behind-lives (Err (fault.Gone i)) t open-then own = record { unclosed = open-then; own = tt }
  behind-lives (Err (fault.StoreFault disk count)) t open-then own = absurd own
  behind-lives (Err (fault.Closed disk count)) t open-then own = absurd own
  behind-lives (Err (fault.Dead v)) t open-then own = record { unclosed = open-then; own = tt }
  behind-lives (Err (fault.Group cause)) t open-then own = record { unclosed = open-then; own = tt }
  behind-lives (Err fault.TooMany) t open-then own = record { unclosed = open-then; own = tt }
  behind-lives (Err fault.Memory) t open-then own = absurd own

  writes-lives : {A : Type 0} (event : ℕ → Cluster → Answer A) → ((leader : ℕ) → Lives (event leader s)) → (o : Option ℕ) → Lives (writes setting w call o event s)
  writes-lives event each None = record { unclosed = unclosed; own = tt }
  writes-lives event each (Some leader) =
      lives-if (would_succeed setting w call s) _ _ (behind-lives (event leader s).0 (event leader s).1 (each leader).unclosed (each leader).own) (record { unclosed = unclosed; own = tt })

  restarted-open : (o : Option Item) → (restarted w o s).closed ≡ None
  restarted-open None = unclosed
  restarted-open (Some item) = (restart-lives s unclosed w item).unclosed

  by-lives : (deed : Deed) → Lives (answers_by setting w call deed s)
  by-lives reads = record { unclosed = unclosed; own = tt }
  by-lives reads_configs = record { unclosed = unclosed; own = tt }
  by-lives writes_configs = writes-lives (λ leader. append_config leader (values_of call)) (λ leader. configs-lives s unclosed leader (values_of call)) (ready w s)
  by-lives writes_offsets = writes-lives (λ leader. set_offsets leader (connector_set call) (offsets_of (seen_now setting w call s) call))
      (λ leader. offsets-live s unclosed leader (connector_set call) (offsets_of (seen_now setting w call s) call)) (ready w s)
  by-lives restarts = record { unclosed = at (is_success (reply_now setting w call s)); own = tt } where
    at : (b : Bool) → (if b then restarted w (item_of call) s else s).closed ≡ None
    at true = restarted-open (item_of call)
    at false = unclosed

  pub answers-lives : Lives (answers setting w call s)
  answers-lives = lives-worker s unclosed w _ (by-lives (deed_of call))

  -- behind its event, too
  written-open : (deed : Deed) (leader : ℕ) → (written setting w call deed leader s).closed ≡ None
  written-open reads leader = unclosed
  written-open reads_configs leader = unclosed
  written-open writes_configs leader = (configs-lives s unclosed leader (values_of call)).unclosed
  written-open writes_offsets leader = (offsets-live s unclosed leader (connector_set call) (offsets_of (seen_now setting w call s) call)).unclosed
  written-open restarts leader = unclosed

  pub has-written-open : (t : Cluster) → HasWritten setting w call s t → t.closed ≡ None
  has-written-open t has = subst (λ (u : Cluster). u.closed ≡ None) (sym has.is) (written-open (deed_of call) has.leader)
