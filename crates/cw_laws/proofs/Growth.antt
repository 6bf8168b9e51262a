-- No event takes back what was written, answered or read: behind each the cluster has grown.
use Rattle.std.proofs.Common.{ℕ, ◌==◌, ◌-◌, ◌^◌, ◌≤◌, ◌++◌, ◌∷◌, [], Bool, true, false, List, Option, Some, None, length, map, max, nat_lt, unwrap_or, if◌then◌else◌, refl, arith}
use Rattle.std.specs.List.{find}
use Rattle.cw_types.specs.declared.ids.Epoch.{Epoch}
use Rattle.cw_types.specs.declared.ids.Item.{Item}
use Rattle.cw_types.specs.declared.ids.Span.{Span}
use Rattle.cw_types.specs.declared.ids.Tag.{Tag}
use Rattle.cw_types.specs.declared.ids.Tid.{Tid}
use Rattle.cw_types.specs.declared.ids.Tid.TheVariants.{Lead, Raw as RawTid}
use Rattle.cw_types.specs.declared.logs.DiskName.{DiskName}
use Rattle.cw_types.specs.declared.logs.LogName.{LogName}
use Rattle.cw_types.specs.declared.logs.LogName.TheVariants.{Config, Offsets, Status, Txn, Batches}
use Rattle.cw_assign.specs.declared.delay.Delay.TheVariants.{Idle}
use Rattle.cw_group.specs.Group.{GroupState}
use Rattle.cw_config.specs.declared.records.ConfigRecord.{ConfigRecord}
use Rattle.cw_config.specs.View.{generation_of, fenced_count_of, task_count_of, is_pending}
use Rattle.cw_config.specs.Compaction.{compact_configs}
use Rattle.cw_data.specs.declared.entry.DataEntry.{DataEntry}
use Rattle.cw_data.specs.declared.entry.DataEntry.TheVariants.{Mark as DataMark}
use Rattle.cw_keys.specs.declared.status.StatusValue.{StatusValue}
use Rattle.cw_offset.specs.declared.body.OffsetEntry.{OffsetEntry}
use Rattle.cw_offset.specs.declared.body.OffsetEntry.TheVariants.{Records, Mark}
use Rattle.cw_offset.specs.Compaction.{compact_offsets}
use Rattle.cw_rest.specs.Operations.{offset_entries}
use Rattle.cw_rest.specs.Seen.{KeyedValues}
use Rattle.cw_status.specs.Compaction.{compact_statuses}
use Rattle.cw_txn.specs.declared.entry.Entry.{Entry}
use Rattle.cw_txn.specs.declared.entry.Entry.TheVariants.{Bump, Commit}
use Rattle.cw_txn.specs.declared.entry.SetOffset.{SetOffset}
use Rattle.cw_model.specs.declared.row.Fencing.{Fencing}
use Rattle.cw_model.specs.declared.row.Row.{Row}
use Rattle.cw_model.specs.declared.instance.Instance.{Instance}
use Rattle.cw_model.specs.declared.instance.InstancePhase.TheVariants as phase
use Rattle.cw_model.specs.declared.instance.Cut.{Cut}
use Rattle.cw_model.specs.declared.instance.Trace.{Trace}
use Rattle.cw_model.specs.State.{Setting, Cluster, StampedStatus}
use Rattle.cw_model.specs.Lookups.{row_of, instance_of, seen, held, new_row, no_row, last_epoch}
use Rattle.cw_model.specs.Answers.{Answer}
use Rattle.cw_model.specs.Updates.{changes_row, changes_instance, in_phase, with_configs, with_offset, with_status, with_entries, with_data, appends_configs, appends_offset, appends_status, appends_entries, appends_data, without_lead, stamped, task_id_of, tid_of, next_config, next_epoch}
use Rattle.cw_model.specs.Tasks.{tag_of, span_of, cut_of, taking, polling_from}
use Rattle.cw_model.specs.EventsWorkers.{spawn, kill, killed, deaf, hear, expire, loses, clock}
use Rattle.cw_model.specs.EventsGroups.{join, joining, incarnation_in, close_round, store_plan, sync, stable_with, without_due_delay}
use Rattle.cw_model.specs.EventsItems.{read_config, start_item, stop_item, restart}
use Rattle.cw_model.specs.EventsLeading.{claim_lead, append_config, fence_one, append_fence, set_offsets, leading, fencing_on, fencing_of, fenced_tid, fence_record, without_fencing}
use Rattle.cw_model.specs.EventsSources.{init, with_epoch, verify, fetch, produce, batch_of, put_offsets, offset_record, commit, committed_to, is_stale, is_bad_cut}
use Rattle.cw_model.specs.EventsSinks.{deliver, put_sink, sink_offset}
use Rattle.cw_model.specs.EventsReports.{fail, put_status, status_of, status_record, instance_at, reports}
use Rattle.cw_model.specs.EventsMarking.{mark, marks}
use Rattle.cw_model.specs.EventsCompaction.{compact, compacts, on_other_side}
use Rattle.cw_model.specs.EventsRaw.{raw_init, raw_commit, raw_commit_of, raw_span, is_bad_span, unless_bad}
use Rattle.cw_model.specs.Reopening.{closed_by}
use Rattle.cw_model.specs.Grows.{Grows}
use Rattle.cw_laws.proofs.Lists.{reads-push}
use Rattle.cw_laws.proofs.Grows.{goes_on-same, grows-frame, grows-same, grows-trans, grows-row, grows-instance, grows-entries, grows-configs, grows-status, grows-offset, grows-data}
use Rattle.cw_laws.proofs.Wrappers.{closed-keeps, if-keeps, worker-keeps, instance-keeps, group-keeps, entries-keeps, configs-keeps, offset-keeps, status-keeps, data-keeps, leader-keeps, producer-keeps}
use Rattle.cw_group.specs.Circle.{is_due}

-- ---- what an event does once it may

grows-instances : (instances : List Instance) (s : Cluster) → Grows s (record s { instances = instances })
grows-instances instances s = grows-frame s (record s { instances = instances }) (λ w. omega arith)

-- a refusal of a leader
grows-fenced : (w : ℕ) (s : Cluster) → Grows s (changes_row w without_lead s)
grows-fenced w s = grows-row w without_lead s (omega arith)

-- what is written, where there is room, and then changed
bumps-grow : {A : Type 0} (frame : List Entry) (change : Cluster → Cluster) (answer : A) (s : Cluster) → ((t : Cluster) → Grows t (change t)) →
    Grows s (appends_entries frame change answer s).1
bumps-grow frame change answer s more = entries-keeps (Grows s) s frame (change (with_entries frame s)) answer (grows-same s)
    (λ room. grows-trans s (with_entries frame s) (change (with_entries frame s)) (grows-entries frame s) (more (with_entries frame s)))

configs-grow : {A : Type 0} (frame : List ConfigRecord) (change : Cluster → Cluster) (answer : A) (s : Cluster) → ((t : Cluster) → Grows t (change t)) →
    Grows s (appends_configs frame change answer s).1
configs-grow frame change answer s more = configs-keeps (Grows s) s frame (change (with_configs frame s)) answer (grows-same s)
    (λ room. grows-trans s (with_configs frame s) (change (with_configs frame s)) (grows-configs frame s) (more (with_configs frame s)))

offset-grow : {A : Type 0} (entry : OffsetEntry) (change : Cluster → Cluster) (answer : A) (s : Cluster) → ((t : Cluster) → Grows t (change t)) →
    Grows s (appends_offset entry change answer s).1
offset-grow entry change answer s more = offset-keeps (Grows s) s entry (change (with_offset entry s)) answer (grows-same s)
    (λ room. grows-trans s (with_offset entry s) (change (with_offset entry s)) (grows-offset entry s) (more (with_offset entry s)))

status-grow : {A : Type 0} (r : StampedStatus) (change : Cluster → Cluster) (answer : A) (s : Cluster) → ((t : Cluster) → Grows t (change t)) →
    Grows s (appends_status r change answer s).1
status-grow r change answer s more = status-keeps (Grows s) s r (change (with_status r s)) answer (grows-same s)
    (λ room. grows-trans s (with_status r s) (change (with_status r s)) (grows-status r s) (more (with_status r s)))

data-grow : {A : Type 0} (entry : DataEntry) (change : Cluster → Cluster) (answer : A) (s : Cluster) → ((t : Cluster) → Grows t (change t)) →
    Grows s (appends_data entry change answer s).1
data-grow entry change answer s more = data-keeps (Grows s) s entry (change (with_data entry s)) answer (grows-same s)
    (λ room. grows-trans s (with_data entry s) (change (with_data entry s)) (grows-data entry s) (more (with_data entry s)))

-- ---- workers

pub spawn-grows : (s : Cluster) → Grows s (spawn s).1
spawn-grows s = closed-keeps (Grows s) s s.closed _ (grows-same s) (if-keeps (Grows s) (nat_lt (length s.rows) 64) _ _
    (λ fewer. grows-frame s (record s { rows = s.rows ++ new_row ∷ [] })
    (reads-push (λ (r q : Row). r.prefix ≤ q.prefix) s.rows new_row no_row (λ r. omega arith) (omega arith)))
    (λ many. grows-same s))

pub kill-grows : (w : ℕ) (s : Cluster) → Grows s (kill w s).1
kill-grows w s = worker-keeps (Grows s) w s _ (grows-same s) (λ live. grows-trans s (changes_row w killed s) _ (grows-row w killed s (omega arith)) (grows-instances _ (changes_row w killed s)))

pub deaf-grows : (w : ℕ) (s : Cluster) → Grows s (deaf w s).1
deaf-grows w s = worker-keeps (Grows s) w s _ (grows-same s) (λ live. grows-row w (λ row. record row { hearing = false }) s (omega arith))

pub hear-grows : (w : ℕ) (s : Cluster) → Grows s (hear w s).1
hear-grows w s = worker-keeps (Grows s) w s _ (grows-same s) (λ live. grows-row w (λ row. record row { hearing = true }) s (omega arith))

pub expire-grows : (setting : Setting) (w : ℕ) (s : Cluster) → Grows s (expire setting w s).1
expire-grows setting w s = closed-keeps (Grows s) s s.closed _ (grows-same s) (group-keeps (Grows s) s _ _ (grows-same s) (λ did so. grows-frame s (loses setting did s) (λ v. omega arith)))

pub clock-grows : (to : ℕ) (s : Cluster) → Grows s (clock to s).1
clock-grows to s = grows-frame s (record s { moment = max s.moment to }) (λ w. omega arith)

-- ---- the group

pub join-grows : (w : ℕ) (s : Cluster) → Grows s (join w s).1
join-grows w s = worker-keeps (Grows s) w s _ (grows-same s) (λ live. group-keeps (Grows s) s _ _ (grows-same s) (λ (did : ℕ × GroupState) so.
    let u : Cluster = record s { group = did.1 } in
    grows-trans s u (changes_row w (joining (incarnation_in w did.1) (held w s)) u) (grows-frame s u (λ v. omega arith))
    (grows-row w (joining (incarnation_in w did.1) (held w s)) u (omega arith))))

pub close_round-grows : (w : ℕ) (s : Cluster) → Grows s (close_round w s).1
close_round-grows w s = worker-keeps (Grows s) w s _ (grows-same s) (λ live. group-keeps (Grows s) s _ _ (grows-same s) (λ group so. grows-frame s (record s { group = group }) (λ v. omega arith)))

delay-grows : (s : Cluster) → Grows s (without_due_delay s)
delay-grows s = either (is_due s.moment s.delay) where
  either : (b : Bool) → Grows s (if b then record s { lost = []; delay = Idle } else s)
  either true = grows-frame s (record s { lost = []; delay = Idle }) (λ w. omega arith)
  either false = grows-same s

pub store_plan-grows : (w : ℕ) (s : Cluster) → Grows s (store_plan w s).1
store_plan-grows w s = worker-keeps (Grows s) w s _ (grows-same s) (λ live. group-keeps (Grows s) s _ _ (grows-same s) (λ group so.
    grows-trans s (without_due_delay s) _ (delay-grows s) (grows-frame (without_due_delay s) (record (without_due_delay s) { group = group }) (λ v. omega arith))))

pub sync-grows : (w : ℕ) (s : Cluster) → Grows s (sync w s).1
sync-grows w s = worker-keeps (Grows s) w s _ (grows-same s) (λ live. group-keeps (Grows s) s _ _ (grows-same s) (λ told so. grows-row w (stable_with w told) s (omega arith)))

-- ---- items

-- a worker has read no more than there is, and so reads on
pub read_config-grows : (w : ℕ) (s : Cluster) → (row_of w s).prefix ≤ length s.configs → Grows s (read_config w s).1
read_config-grows w s within = worker-keeps (Grows s) w s _ (grows-same s) (λ live. grows-row w (λ row. record row { prefix = length s.configs }) s within)

pub start_item-grows : (w : ℕ) (item : Item) (s : Cluster) → Grows s (start_item w item s).1
start_item-grows w item s = worker-keeps (Grows s) w s _ (grows-same s) (λ live. grows-instances _ s)

pub stop_item-grows : (i : ℕ) (s : Cluster) → Grows s (stop_item i s).1
stop_item-grows i s = instance-keeps (Grows s) i s _ (grows-same s) (λ lives. grows-instances _ s)

pub restart-grows : (w : ℕ) (item : Item) (s : Cluster) → Grows s (restart w item s).1
restart-grows w item s = worker-keeps (Grows s) w s _ (grows-same s) (λ live. grows-instances _ s)

-- ---- the leader

pub claim_lead-grows : (w : ℕ) (s : Cluster) → Grows s (claim_lead w s).1
claim_lead-grows w s = worker-keeps (Grows s) w s _ (grows-same s) (λ live.
    bumps-grow (Bump Lead ∷ []) (changes_row w (leading (next_epoch Lead s))) (next_epoch Lead s) s (λ t. grows-row w (leading (next_epoch Lead s)) t (omega arith)))

pub append_config-grows : (w : ℕ) (values : KeyedValues) (s : Cluster) → Grows s (append_config w values s).1
append_config-grows w values s = worker-keeps (Grows s) w s _ (grows-same s) (λ live. leader-keeps (Grows s) w s _ (grows-fenced w s) (λ own.
    configs-grow (stamped values s) (λ t. t) (next_config s) s grows-same))

pub fence_one-grows : (w : ℕ) (name : List ℕ) (s : Cluster) → Grows s (fence_one w name s).1
fence_one-grows w name s = worker-keeps (Grows s) w s _ (grows-same s) (λ live. leader-keeps (Grows s) w s _ (grows-fenced w s) (λ own.
    let fencing : Fencing = fencing_of w name s in
    bumps-grow (Bump (fenced_tid fencing) ∷ []) (changes_row w (fencing_on fencing)) (fencing.next, next_epoch (fenced_tid fencing) s) s
    (λ t. grows-row w (fencing_on fencing) t (omega arith))))

pub append_fence-grows : (w : ℕ) (name : List ℕ) (s : Cluster) → Grows s (append_fence w name s).1
append_fence-grows w name s = worker-keeps (Grows s) w s _ (grows-same s) (λ live. leader-keeps (Grows s) w s _ (grows-fenced w s) (λ own.
    if-keeps (Grows s) ((fencing_of w name s).generation == unwrap_or (generation_of name s.configs) 0) _ _
    (λ newest. configs-grow (stamped (fence_record name (task_count_of name (seen w s))) s) (changes_row w without_fencing) (next_config s) s (λ t. grows-row w without_fencing t (omega arith)))
    (λ stale. grows-same s)))

pub set_offsets-grows : (w : ℕ) (name : List ℕ) (list : List SetOffset) (s : Cluster) → Grows s (set_offsets w name list s).1
set_offsets-grows w name list s = worker-keeps (Grows s) w s _ (grows-same s) (λ live. leader-keeps (Grows s) w s _ (grows-fenced w s) (λ own.
    bumps-grow (offset_entries name (fenced_count_of name s.configs) (unwrap_or (row_of w s).lead (record { 0 = 0 })) list) (λ t. t) tt s grows-same))

-- ---- tasks

pub init-grows : (i : ℕ) (s : Cluster) → Grows s (init i s).1
init-grows i s = instance-keeps (Grows s) i s _ (grows-same s) (λ lives.
    let tid : Tid = tid_of (instance_of i s).item in
    bumps-grow (Bump tid ∷ []) (changes_instance i (with_epoch (next_epoch tid s))) (next_epoch tid s) s (grows-instance i (with_epoch (next_epoch tid s))))

pub verify-grows : (i : ℕ) (s : Cluster) → Grows s (verify i s).1
verify-grows i s = instance-keeps (Grows s) i s _ (grows-same s) (λ lives. if-keeps (Grows s) (is_stale (instance_of i s) s) _ _ (λ stale. grows-same s)
    (λ newest. if-keeps (Grows s) (is_pending (task_id_of (instance_of i s).item).connector s.configs) _ _ (λ pending. grows-same s) (λ fenced. grows-instances _ s)))

pub fetch-grows : (i : ℕ) (s : Cluster) → Grows s (fetch i s).1
fetch-grows i s = instance-keeps (Grows s) i s _ (grows-same s) (λ lives. grows-instances _ s)

pub produce-grows : (setting : Setting) (i : ℕ) (cut : Cut) (s : Cluster) → Grows s (produce setting i cut s).1
produce-grows setting i cut s = instance-keeps (Grows s) i s _ (grows-same s) (λ lives. producer-keeps (Grows s) i s _ (grows-same s) (λ own.
    if-keeps (Grows s) (is_bad_cut setting.feeds (instance_of i s) cut) _ _ (λ bad. grows-same s) (λ fits.
    data-grow (batch_of setting.feeds (instance_of i s) cut) (changes_instance i (taking phase.Produced cut)) tt s (grows-instance i (taking phase.Produced cut)))))

pub put_offsets-grows : (i : ℕ) (s : Cluster) → Grows s (put_offsets i s).1
put_offsets-grows i s = instance-keeps (Grows s) i s _ (grows-same s) (λ lives. producer-keeps (Grows s) i s _ (grows-same s) (λ own.
    let own : Instance = instance_of i s in
    offset-grow (Records (tag_of own) (offset_record (span_of own) s ∷ [])) (changes_instance i (in_phase phase.Offered)) tt s (grows-instance i (in_phase phase.Offered))))

pub commit-grows : (i : ℕ) (s : Cluster) → Grows s (commit i s).1
commit-grows i s = instance-keeps (Grows s) i s _ (grows-same s) (λ lives. producer-keeps (Grows s) i s _ (grows-same s) (λ own.
    let own : Instance = instance_of i s in
    bumps-grow (Commit (tag_of own) own.generation (span_of own ∷ []) ∷ []) (changes_instance i (committed_to (cut_of own).to)) (span_of own) s (grows-instance i (committed_to (cut_of own).to))))

pub deliver-grows : (i turn to : ℕ) (s : Cluster) → Grows s (deliver i turn to s).1
deliver-grows i turn to s = instance-keeps (Grows s) i s _ (grows-same s) (λ lives. grows-instances _ s)

pub put_sink-grows : (i to : ℕ) (s : Cluster) → Grows s (put_sink i to s).1
put_sink-grows i to s = instance-keeps (Grows s) i s _ (grows-same s) (λ lives. producer-keeps (Grows s) i s _ (grows-same s) (λ own.
    bumps-grow (sink_offset (instance_of i s) to ∷ []) (changes_instance i (polling_from phase.Polling to)) tt s (grows-instance i (polling_from phase.Polling to))))

-- ---- reports

pub fail-grows : (i : ℕ) (trace : Trace) (s : Cluster) → Grows s (fail i trace s).1
fail-grows i trace s = instance-keeps (Grows s) i s _ (grows-same s) (λ lives. grows-instances _ s)

pub put_status-grows : (w : ℕ) (item : Item) (s : Cluster) → Grows s (put_status w item s).1
put_status-grows w item s = worker-keeps (Grows s) w s _ (grows-same s) (λ live.
    let status : StatusValue = status_of w (instance_at w item s) s in
    status-grow (status_record item status s) (reports w item status.state) tt s (λ t. grows-instances (reports w item status.state t).instances t))

-- ---- logs

marks-grow : (log : LogName) (tag : Tag) (committed : Bool) (s : Cluster) → Grows s (marks log tag committed s).1
marks-grow Config tag committed s = grows-same s
marks-grow Offsets tag committed s = offset-grow (Mark (record { tag = tag; committed = committed })) (λ t. t) (tag, committed) s grows-same
marks-grow Status tag committed s = grows-same s
marks-grow Txn tag committed s = grows-same s
marks-grow Batches tag committed s = data-grow (DataMark tag committed) (λ t. t) (tag, committed) s grows-same

pub mark-grows : (log : LogName) (s : Cluster) → Grows s (mark log s).1
mark-grows log s = closed-keeps (Grows s) s s.closed _ (grows-same s) (marks-grow log _ _ s)

compacts-grow : (log : LogName) (s : Cluster) → Grows s (compacts log s).1
compacts-grow Config s = if-keeps (Grows s) (nat_lt s.config.side (2 ^ 64 - 1)) _ _
    (λ fresh. grows-frame s (record s { config = on_other_side (compact_configs s.config.frames) s.config }) (λ w. omega arith)) (λ worn. grows-same s)
compacts-grow Offsets s = if-keeps (Grows s) (nat_lt s.offsets.side (2 ^ 64 - 1)) _ _
    (λ fresh. grows-frame s (record s { offsets = on_other_side (compact_offsets s.entries s.offsets.frames) s.offsets }) (λ w. omega arith)) (λ worn. grows-same s)
compacts-grow Status s = if-keeps (Grows s) (nat_lt s.status.side (2 ^ 64 - 1)) _ _
    (λ fresh. grows-frame s (record s { status = on_other_side (compact_statuses s.status.frames) s.status }) (λ w. omega arith)) (λ worn. grows-same s)
compacts-grow Txn s = grows-same s
compacts-grow Batches s = grows-same s

pub compact-grows : (log : LogName) (s : Cluster) → Grows s (compact log s).1
compact-grows log s = closed-keeps (Grows s) s s.closed _ (grows-same s) (compacts-grow log s)

pub raw_init-grows : (n : ℕ) (s : Cluster) → Grows s (raw_init n s).1
raw_init-grows n s = closed-keeps (Grows s) s s.closed _ (grows-same s) (bumps-grow (Bump (RawTid n) ∷ []) (λ t. t) (next_epoch (RawTid n) s) s grows-same)

bad-grows : {A : Type 0} (o : Option Span) (done : Answer A) (s : Cluster) → Grows s done.1 → Grows s (unless_bad o done s).1
bad-grows None done s grows = grows
bad-grows (Some span) done s grows = grows-same s

pub raw_commit-grows : (n : ℕ) (epoch : Epoch) (list : List (ℕ × ℕ)) (s : Cluster) → Grows s (raw_commit n epoch list s).1
raw_commit-grows n epoch list s = closed-keeps (Grows s) s s.closed _ (grows-same s) (if-keeps (Grows s) (epoch.0 == last_epoch (RawTid n) s) _ _
    (λ own. let spans : List Span = map (raw_span s.entries) list in
    bad-grows (find is_bad_span spans) _ s (bumps-grow (raw_commit_of n epoch spans s.entries ∷ []) (λ t. t) spans s grows-same))
    (λ stale. grows-same s))

pub closes-grows : (disk : DiskName) (count : ℕ) (s : Cluster) → Grows s (closed_by disk count s)
closes-grows disk count s = record {
  configs = goes_on-same s.configs;
  statuses = goes_on-same s.statuses;
  entries = goes_on-same s.entries;
  journal = goes_on-same s.journal;
  read = λ w. omega arith;
  closed = λ closed. refl;
}
