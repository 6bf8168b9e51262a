-- No event takes a worker away: behind each there are as many as before, or more.
use Rattle.std.proofs.Common.{ℕ, ◌==◌, ◌-◌, ◌^◌, ◌≤◌, ◌++◌, ◌∷◌, [], Bool, true, false, List, Option, Some, None, length, map, nat_lt, unwrap_or, if◌then◌else◌, ◌≡◌, refl, ap, arith, length-append}
use Rattle.std.proofs.Math.ListN.{length-set}
use Rattle.std.specs.List.{find}
use Rattle.cw_types.specs.declared.ids.Epoch.{Epoch}
use Rattle.cw_types.specs.declared.ids.Item.{Item}
use Rattle.cw_types.specs.declared.ids.Span.{Span}
use Rattle.cw_types.specs.declared.ids.Tag.{Tag}
use Rattle.cw_types.specs.declared.ids.Tid.{Tid}
use Rattle.cw_types.specs.declared.ids.Tid.TheVariants.{Lead, Raw as RawTid}
use Rattle.cw_types.specs.declared.logs.DiskName.{DiskName}
use Rattle.cw_types.specs.declared.logs.LogName.{LogName}
use Rattle.cw_types.specs.declared.logs.LogName.TheVariants.{Config, Offsets, Status, Txn, Batches}
use Rattle.cw_assign.specs.declared.delay.Delay.TheVariants.{Idle}
use Rattle.cw_group.specs.Group.{GroupState}
use Rattle.cw_config.specs.declared.records.ConfigRecord.{ConfigRecord}
use Rattle.cw_config.specs.View.{generation_of, fenced_count_of, task_count_of, is_pending}
use Rattle.cw_data.specs.declared.entry.DataEntry.{DataEntry}
use Rattle.cw_data.specs.declared.entry.DataEntry.TheVariants.{Mark as DataMark}
use Rattle.cw_keys.specs.declared.status.StatusValue.{StatusValue}
use Rattle.cw_offset.specs.declared.body.OffsetEntry.{OffsetEntry}
use Rattle.cw_offset.specs.declared.body.OffsetEntry.TheVariants.{Records, Mark}
use Rattle.cw_rest.specs.Operations.{offset_entries}
use Rattle.cw_rest.specs.Seen.{KeyedValues}
use Rattle.cw_txn.specs.declared.entry.Entry.{Entry}
use Rattle.cw_txn.specs.declared.entry.Entry.TheVariants.{Bump, Commit}
use Rattle.cw_txn.specs.declared.entry.SetOffset.{SetOffset}
use Rattle.cw_model.specs.declared.row.Fencing.{Fencing}
use Rattle.cw_model.specs.declared.row.Row.{Row}
use Rattle.cw_model.specs.declared.instance.Instance.{Instance}
use Rattle.cw_model.specs.declared.instance.InstancePhase.TheVariants as phase
use Rattle.cw_model.specs.declared.instance.Cut.{Cut}
use Rattle.cw_model.specs.declared.instance.Trace.{Trace}
use Rattle.cw_model.specs.State.{Setting, Cluster, StampedStatus}
use Rattle.cw_model.specs.Lookups.{row_of, instance_of, seen, held, new_row, last_epoch}
use Rattle.cw_model.specs.Answers.{Answer}
use Rattle.cw_model.specs.Updates.{changes_row, changes_instance, in_phase, with_configs, with_offset, with_status, with_entries, with_data, appends_configs, appends_offset, appends_status, appends_entries, appends_data, without_lead, stamped, task_id_of, tid_of, next_config, next_epoch}
use Rattle.cw_model.specs.Tasks.{tag_of, span_of, cut_of, taking, polling_from}
use Rattle.cw_model.specs.EventsWorkers.{spawn, kill, killed, deaf, hear, expire, loses, clock}
use Rattle.cw_model.specs.EventsGroups.{join, joining, incarnation_in, close_round, store_plan, sync, stable_with, without_due_delay}
use Rattle.cw_model.specs.EventsItems.{read_config, start_item, stop_item, restart}
use Rattle.cw_model.specs.EventsLeading.{claim_lead, append_config, fence_one, append_fence, set_offsets, leading, fencing_on, fencing_of, fenced_tid, fence_record, without_fencing}
use Rattle.cw_model.specs.EventsSources.{init, with_epoch, verify, fetch, produce, batch_of, put_offsets, offset_record, commit, committed_to, is_stale, is_bad_cut}
use Rattle.cw_model.specs.EventsSinks.{deliver, put_sink, sink_offset}
use Rattle.cw_model.specs.EventsReports.{fail, put_status, status_of, status_record, instance_at, reports}
use Rattle.cw_model.specs.EventsMarking.{mark, marks}
use Rattle.cw_model.specs.EventsCompaction.{compact, compacts}
use Rattle.cw_model.specs.EventsRaw.{raw_init, raw_commit, raw_commit_of, raw_span, is_bad_span, unless_bad}
use Rattle.cw_model.specs.Reopening.{closed_by}
use Rattle.cw_laws.proofs.Wrappers.{closed-keeps, if-keeps, worker-keeps, instance-keeps, group-keeps, entries-keeps, configs-keeps, offset-keeps, status-keeps, data-keeps, leader-keeps, producer-keeps}
use Rattle.cw_model.specs.Journal.{journal}
use Rattle.cw_model.specs.declared.journal.JournalEntry.{JournalEntry}
use Rattle.cw_model.specs.Runs as step
use Rattle.cw_model.specs.Runs.{Step, behind, behind_all}
use Rattle.cw_group.specs.Circle.{is_due}

-- as many workers, or more
pub record Crowd (s t : Cluster) : Type 0 where
  pub workers : length s.rows ≤ length t.rows

crowd-more : (s t : Cluster) → length s.rows ≤ length t.rows → Crowd s t
crowd-more s t more = record { workers = more }

crowd-frame : (s t : Cluster) → t.rows ≡ s.rows → Crowd s t
crowd-frame s t same = record { workers = omega (arith, ap length same) }

crowd-same : (s : Cluster) → Crowd s s
crowd-same s = crowd-frame s s refl

crowd-trans : (s t u : Cluster) → Crowd s t → Crowd t u → Crowd s u
crowd-trans s t u g h = record { workers = omega (arith, g.workers, h.workers) }

crowd-row : (w : ℕ) (change : Row → Row) (s : Cluster) → Crowd s (changes_row w change s)
crowd-row w change s =
    let same : length (changes_row w change s).rows ≡ length s.rows = length-set s.rows w (change (row_of w s)) in
    record { workers = omega (arith, same) }

crowd-instance : (i : ℕ) (change : Instance → Instance) (s : Cluster) → Crowd s (changes_instance i change s)
crowd-instance i change s = crowd-frame s _ refl

-- ---- what an event does once it may

crowd-instances : (instances : List Instance) (s : Cluster) → Crowd s (record s { instances = instances })
crowd-instances instances s = crowd-frame s _ refl

-- a refusal of a leader
crowd-fenced : (w : ℕ) (s : Cluster) → Crowd s (changes_row w without_lead s)
crowd-fenced w s = crowd-row w without_lead s

-- what is written, where there is room, and then changed
bumps-crowd : {A : Type 0} (frame : List Entry) (change : Cluster → Cluster) (answer : A) (s : Cluster) → ((t : Cluster) → Crowd t (change t)) →
    Crowd s (appends_entries frame change answer s).1
bumps-crowd frame change answer s more = entries-keeps (Crowd s) s frame (change (with_entries frame s)) answer (crowd-same s)
    (λ room. crowd-trans s (with_entries frame s) (change (with_entries frame s)) (crowd-frame s (with_entries frame s) refl) (more (with_entries frame s)))

configs-crowd : {A : Type 0} (frame : List ConfigRecord) (change : Cluster → Cluster) (answer : A) (s : Cluster) → ((t : Cluster) → Crowd t (change t)) →
    Crowd s (appends_configs frame change answer s).1
configs-crowd frame change answer s more = configs-keeps (Crowd s) s frame (change (with_configs frame s)) answer (crowd-same s)
    (λ room. crowd-trans s (with_configs frame s) (change (with_configs frame s)) (crowd-frame s (with_configs frame s) refl) (more (with_configs frame s)))

offset-crowd : {A : Type 0} (entry : OffsetEntry) (change : Cluster → Cluster) (answer : A) (s : Cluster) → ((t : Cluster) → Crowd t (change t)) →
    Crowd s (appends_offset entry change answer s).1
offset-crowd entry change answer s more = offset-keeps (Crowd s) s entry (change (with_offset entry s)) answer (crowd-same s)
    (λ room. crowd-trans s (with_offset entry s) (change (with_offset entry s)) (crowd-frame s (with_offset entry s) refl) (more (with_offset entry s)))

status-crowd : {A : Type 0} (r : StampedStatus) (change : Cluster → Cluster) (answer : A) (s : Cluster) → ((t : Cluster) → Crowd t (change t)) →
    Crowd s (appends_status r change answer s).1
status-crowd r change answer s more = status-keeps (Crowd s) s r (change (with_status r s)) answer (crowd-same s)
    (λ room. crowd-trans s (with_status r s) (change (with_status r s)) (crowd-frame s (with_status r s) refl) (more (with_status r s)))

data-crowd : {A : Type 0} (entry : DataEntry) (change : Cluster → Cluster) (answer : A) (s : Cluster) → ((t : Cluster) → Crowd t (change t)) →
    Crowd s (appends_data entry change answer s).1
data-crowd entry change answer s more = data-keeps (Crowd s) s entry (change (with_data entry s)) answer (crowd-same s)
    (λ room. crowd-trans s (with_data entry s) (change (with_data entry s)) (crowd-frame s (with_data entry s) refl) (more (with_data entry s)))

delay-crowd : (s : Cluster) → Crowd s (without_due_delay s)
delay-crowd s = either (is_due s.moment s.delay) where
  either : (b : Bool) → Crowd s (if b then record s { lost = []; delay = Idle } else s)
  either true = crowd-frame s _ refl
  either false = crowd-same s

marks-crowd : (log : LogName) (tag : Tag) (committed : Bool) (s : Cluster) → Crowd s (marks log tag committed s).1
marks-crowd Config tag committed s = crowd-same s
marks-crowd Offsets tag committed s = offset-crowd (Mark (record { tag = tag; committed = committed })) (λ t. t) (tag, committed) s crowd-same
marks-crowd Status tag committed s = crowd-same s
marks-crowd Txn tag committed s = crowd-same s
marks-crowd Batches tag committed s = data-crowd (DataMark tag committed) (λ t. t) (tag, committed) s crowd-same

compacts-crowd : (log : LogName) (s : Cluster) → Crowd s (compacts log s).1
compacts-crowd Config s = if-keeps (Crowd s) (nat_lt s.config.side (2 ^ 64 - 1)) _ _
    (λ fresh. crowd-frame s _ refl) (λ worn. crowd-same s)
compacts-crowd Offsets s = if-keeps (Crowd s) (nat_lt s.offsets.side (2 ^ 64 - 1)) _ _
    (λ fresh. crowd-frame s _ refl) (λ worn. crowd-same s)
compacts-crowd Status s = if-keeps (Crowd s) (nat_lt s.status.side (2 ^ 64 - 1)) _ _
    (λ fresh. crowd-frame s _ refl) (λ worn. crowd-same s)
compacts-crowd Txn s = crowd-same s
compacts-crowd Batches s = crowd-same s

bad-crowd : {A : Type 0} (o : Option Span) (done : Answer A) (s : Cluster) → Crowd s done.1 → Crowd s (unless_bad o done s).1
bad-crowd None done s grows = grows
bad-crowd (Some span) done s grows = crowd-same s

-- ---- runs

step-crowd : (setting : Setting) (s : Cluster) (step : Step) → Crowd s (behind setting s step)
step-crowd setting s (step.clock to) = crowd-frame s _ refl
step-crowd setting s (step.closes disk count) = crowd-frame s _ refl
step-crowd setting s step.spawn = closed-keeps (Crowd s) s s.closed _ (crowd-same s) (if-keeps (Crowd s) (nat_lt (length s.rows) 64) _ _
    (λ fewer. crowd-more s (record s { rows = s.rows ++ new_row ∷ [] }) (omega (arith, length-append s.rows (new_row ∷ []))))
    (λ many. crowd-same s))
step-crowd setting s (step.kill w) = worker-keeps (Crowd s) w s _ (crowd-same s) (λ live. crowd-trans s (changes_row w killed s) _ (crowd-row w killed s) (crowd-instances _ (changes_row w killed s)))
step-crowd setting s (step.deaf w) = worker-keeps (Crowd s) w s _ (crowd-same s) (λ live. crowd-row w (λ row. record row { hearing = false }) s)
step-crowd setting s (step.hear w) = worker-keeps (Crowd s) w s _ (crowd-same s) (λ live. crowd-row w (λ row. record row { hearing = true }) s)
step-crowd setting s (step.expire w) = closed-keeps (Crowd s) s s.closed _ (crowd-same s) (group-keeps (Crowd s) s _ _ (crowd-same s) (λ did so. crowd-frame s (loses setting did s) refl))
step-crowd setting s (step.join w) = worker-keeps (Crowd s) w s _ (crowd-same s) (λ live. group-keeps (Crowd s) s _ _ (crowd-same s) (λ (did : ℕ × GroupState) so.
    let u : Cluster = record s { group = did.1 } in
    crowd-trans s u (changes_row w (joining (incarnation_in w did.1) (held w s)) u) (crowd-frame s _ refl)
    (crowd-row w (joining (incarnation_in w did.1) (held w s)) u)))
step-crowd setting s (step.close_round w) = worker-keeps (Crowd s) w s _ (crowd-same s) (λ live. group-keeps (Crowd s) s _ _ (crowd-same s) (λ group so. crowd-frame s (record s { group = group }) refl))
step-crowd setting s (step.store_plan w) = worker-keeps (Crowd s) w s _ (crowd-same s) (λ live. group-keeps (Crowd s) s _ _ (crowd-same s) (λ group so.
    crowd-trans s (without_due_delay s) _ (delay-crowd s) (crowd-frame (without_due_delay s) (record (without_due_delay s) { group = group }) refl)))
step-crowd setting s (step.sync w) = worker-keeps (Crowd s) w s _ (crowd-same s) (λ live. group-keeps (Crowd s) s _ _ (crowd-same s) (λ told so. crowd-row w (stable_with w told) s))
step-crowd setting s (step.read_config w) = worker-keeps (Crowd s) w s _ (crowd-same s) (λ live. crowd-row w (λ row. record row { prefix = length s.configs }) s)
step-crowd setting s (step.start_item w item) = worker-keeps (Crowd s) w s _ (crowd-same s) (λ live. crowd-instances _ s)
step-crowd setting s (step.stop_item i) = instance-keeps (Crowd s) i s _ (crowd-same s) (λ lives. crowd-instances _ s)
step-crowd setting s (step.restart w item) = worker-keeps (Crowd s) w s _ (crowd-same s) (λ live. crowd-instances _ s)
step-crowd setting s (step.claim_lead w) = worker-keeps (Crowd s) w s _ (crowd-same s) (λ live.
    bumps-crowd (Bump Lead ∷ []) (changes_row w (leading (next_epoch Lead s))) (next_epoch Lead s) s (λ t. crowd-row w (leading (next_epoch Lead s)) t))
step-crowd setting s (step.append_config w values) = worker-keeps (Crowd s) w s _ (crowd-same s) (λ live. leader-keeps (Crowd s) w s _ (crowd-fenced w s) (λ own.
    configs-crowd (stamped values s) (λ t. t) (next_config s) s crowd-same))
step-crowd setting s (step.fence_one w name) = worker-keeps (Crowd s) w s _ (crowd-same s) (λ live. leader-keeps (Crowd s) w s _ (crowd-fenced w s) (λ own.
    let fencing : Fencing = fencing_of w name s in
    bumps-crowd (Bump (fenced_tid fencing) ∷ []) (changes_row w (fencing_on fencing)) (fencing.next, next_epoch (fenced_tid fencing) s) s
    (λ t. crowd-row w (fencing_on fencing) t)))
step-crowd setting s (step.append_fence w name) = worker-keeps (Crowd s) w s _ (crowd-same s) (λ live. leader-keeps (Crowd s) w s _ (crowd-fenced w s) (λ own.
    if-keeps (Crowd s) ((fencing_of w name s).generation == unwrap_or (generation_of name s.configs) 0) _ _
    (λ newest. configs-crowd (stamped (fence_record name (task_count_of name (seen w s))) s) (changes_row w without_fencing) (next_config s) s (λ t. crowd-row w without_fencing t))
    (λ stale. crowd-same s)))
step-crowd setting s (step.set_offsets w name list) = worker-keeps (Crowd s) w s _ (crowd-same s) (λ live. leader-keeps (Crowd s) w s _ (crowd-fenced w s) (λ own.
    bumps-crowd (offset_entries name (fenced_count_of name s.configs) (unwrap_or (row_of w s).lead (record { 0 = 0 })) list) (λ t. t) tt s crowd-same))
step-crowd setting s (step.init i) = instance-keeps (Crowd s) i s _ (crowd-same s) (λ lives.
    let tid : Tid = tid_of (instance_of i s).item in
    bumps-crowd (Bump tid ∷ []) (changes_instance i (with_epoch (next_epoch tid s))) (next_epoch tid s) s (crowd-instance i (with_epoch (next_epoch tid s))))
step-crowd setting s (step.verify i) = instance-keeps (Crowd s) i s _ (crowd-same s) (λ lives. if-keeps (Crowd s) (is_stale (instance_of i s) s) _ _ (λ stale. crowd-same s)
    (λ newest. if-keeps (Crowd s) (is_pending (task_id_of (instance_of i s).item).connector s.configs) _ _ (λ pending. crowd-same s) (λ fenced. crowd-instances _ s)))
step-crowd setting s (step.fetch i) = instance-keeps (Crowd s) i s _ (crowd-same s) (λ lives. crowd-instances _ s)
step-crowd setting s (step.produce i cut) = instance-keeps (Crowd s) i s _ (crowd-same s) (λ lives. producer-keeps (Crowd s) i s _ (crowd-same s) (λ own.
    if-keeps (Crowd s) (is_bad_cut setting.feeds (instance_of i s) cut) _ _ (λ bad. crowd-same s) (λ fits.
    data-crowd (batch_of setting.feeds (instance_of i s) cut) (changes_instance i (taking phase.Produced cut)) tt s (crowd-instance i (taking phase.Produced cut)))))
step-crowd setting s (step.put_offsets i) = instance-keeps (Crowd s) i s _ (crowd-same s) (λ lives. producer-keeps (Crowd s) i s _ (crowd-same s) (λ own.
    let own : Instance = instance_of i s in
    offset-crowd (Records (tag_of own) (offset_record (span_of own) s ∷ [])) (changes_instance i (in_phase phase.Offered)) tt s (crowd-instance i (in_phase phase.Offered))))
step-crowd setting s (step.commit i) = instance-keeps (Crowd s) i s _ (crowd-same s) (λ lives. producer-keeps (Crowd s) i s _ (crowd-same s) (λ own.
    let own : Instance = instance_of i s in
    bumps-crowd (Commit (tag_of own) own.generation (span_of own ∷ []) ∷ []) (changes_instance i (committed_to (cut_of own).to)) (span_of own) s (crowd-instance i (committed_to (cut_of own).to))))
step-crowd setting s (step.deliver i turn to) = instance-keeps (Crowd s) i s _ (crowd-same s) (λ lives. crowd-instances _ s)
step-crowd setting s (step.put_sink i to) = instance-keeps (Crowd s) i s _ (crowd-same s) (λ lives. producer-keeps (Crowd s) i s _ (crowd-same s) (λ own.
    bumps-crowd (sink_offset (instance_of i s) to ∷ []) (changes_instance i (polling_from phase.Polling to)) tt s (crowd-instance i (polling_from phase.Polling to))))
step-crowd setting s (step.fail i trace) = instance-keeps (Crowd s) i s _ (crowd-same s) (λ lives. crowd-instances _ s)
step-crowd setting s (step.put_status w item) = worker-keeps (Crowd s) w s _ (crowd-same s) (λ live.
    let status : StatusValue = status_of w (instance_at w item s) s in
    status-crowd (status_record item status s) (reports w item status.state) tt s (λ t. crowd-instances (reports w item status.state t).instances t))
step-crowd setting s (step.mark log) = closed-keeps (Crowd s) s s.closed _ (crowd-same s) (marks-crowd log _ _ s)
step-crowd setting s (step.compact log) = closed-keeps (Crowd s) s s.closed _ (crowd-same s) (compacts-crowd log s)
step-crowd setting s (step.raw_init n) = closed-keeps (Crowd s) s s.closed _ (crowd-same s) (bumps-crowd (Bump (RawTid n) ∷ []) (λ t. t) (next_epoch (RawTid n) s) s crowd-same)
step-crowd setting s (step.raw_commit n epoch list) = closed-keeps (Crowd s) s s.closed _ (crowd-same s) (if-keeps (Crowd s) (epoch.0 == last_epoch (RawTid n) s) _ _
    (λ own. let spans : List Span = map (raw_span s.entries) list in
    bad-crowd (find is_bad_span spans) _ s (bumps-crowd (raw_commit_of n epoch spans s.entries ∷ []) (λ t. t) spans s crowd-same))
    (λ stale. crowd-same s))
step-crowd setting s (step.journal entry) = crowd-frame s _ refl

pub run-crowd : (setting : Setting) (s : Cluster) (steps : List Step) → Crowd s (behind_all setting s steps)
run-crowd setting s [] = crowd-same s
run-crowd setting s (step ∷ steps) =
    crowd-trans s (behind setting s step) (behind_all setting (behind setting s step) steps) (step-crowd setting s step) (run-crowd setting (behind setting s step) steps)
