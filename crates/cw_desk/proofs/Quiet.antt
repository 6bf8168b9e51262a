-- No event but a kept call's keeps an entry in the journal, nor does one of a turn kill a worker.
use Rattle.std.proofs.Common.{◌≡◌, ℕ, ◌==◌, ◌-◌, ◌^◌, ◌∷◌, [], Bool, true, false, List, length, max, nat_lt, unwrap_or, if◌then◌else◌, refl, ◌∙◌}
use Rattle.cw_types.specs.declared.ids.Item.{Item}
use Rattle.cw_types.specs.declared.ids.Tag.{Tag}
use Rattle.cw_types.specs.declared.ids.Tid.{Tid}
use Rattle.cw_types.specs.declared.ids.Tid.TheVariants.{Lead}
use Rattle.cw_types.specs.declared.logs.DiskName.{DiskName}
use Rattle.cw_types.specs.declared.logs.LogName.{LogName}
use Rattle.cw_types.specs.declared.logs.LogName.TheVariants.{Config, Offsets, Status, Txn, Batches}
use Rattle.cw_assign.specs.declared.delay.Delay.TheVariants.{Idle}
use Rattle.cw_group.specs.Group.{GroupState}
use Rattle.cw_config.specs.declared.records.ConfigRecord.{ConfigRecord}
use Rattle.cw_config.specs.View.{generation_of, fenced_count_of, task_count_of, is_pending}
use Rattle.cw_config.specs.Compaction.{compact_configs}
use Rattle.cw_data.specs.declared.entry.DataEntry.{DataEntry}
use Rattle.cw_data.specs.declared.entry.DataEntry.TheVariants.{Mark as DataMark}
use Rattle.cw_keys.specs.declared.status.StatusValue.{StatusValue}
use Rattle.cw_offset.specs.declared.body.OffsetEntry.{OffsetEntry}
use Rattle.cw_offset.specs.declared.body.OffsetEntry.TheVariants.{Records, Mark}
use Rattle.cw_offset.specs.Compaction.{compact_offsets}
use Rattle.cw_rest.specs.Operations.{offset_entries}
use Rattle.cw_rest.specs.Seen.{KeyedValues}
use Rattle.cw_status.specs.Compaction.{compact_statuses}
use Rattle.cw_txn.specs.declared.entry.Entry.{Entry}
use Rattle.cw_txn.specs.declared.entry.Entry.TheVariants.{Bump, Commit}
use Rattle.cw_txn.specs.declared.entry.SetOffset.{SetOffset}
use Rattle.cw_model.specs.declared.row.Fencing.{Fencing}
use Rattle.cw_model.specs.declared.row.Row.{Row}
use Rattle.cw_model.specs.declared.instance.Instance.{Instance}
use Rattle.cw_model.specs.declared.instance.InstancePhase.TheVariants as phase
use Rattle.cw_model.specs.declared.instance.Cut.{Cut}
use Rattle.cw_model.specs.declared.instance.Trace.{Trace}
use Rattle.cw_model.specs.State.{Setting, Cluster, StampedStatus}
use Rattle.cw_model.specs.Lookups.{row_of, instance_of, seen, held, no_row}
use Rattle.cw_model.specs.Updates.{changes_row, changes_instance, in_phase, with_configs, with_offset, with_status, with_entries, with_data, appends_configs, appends_offset, appends_status, appends_entries, appends_data, without_lead, stamped, task_id_of, tid_of, next_config, next_epoch}
use Rattle.cw_model.specs.Tasks.{tag_of, span_of, cut_of, taking, polling_from}
use Rattle.cw_model.specs.EventsWorkers.{expire, loses, clock}
use Rattle.cw_model.specs.EventsGroups.{join, joining, incarnation_in, close_round, store_plan, sync, stable_with, without_due_delay}
use Rattle.cw_model.specs.EventsItems.{read_config, start_item, stop_item}
use Rattle.cw_model.specs.EventsLeading.{claim_lead, append_config, fence_one, append_fence, set_offsets, leading, fencing_on, fencing_of, fenced_tid, fence_record, without_fencing}
use Rattle.cw_model.specs.EventsSources.{init, with_epoch, verify, fetch, produce, batch_of, put_offsets, offset_record, commit, committed_to, is_stale, is_bad_cut}
use Rattle.cw_model.specs.EventsSinks.{deliver, put_sink, sink_offset}
use Rattle.cw_model.specs.EventsReports.{fail, put_status, status_of, status_record, instance_at, reports}
use Rattle.cw_model.specs.EventsMarking.{mark, marks}
use Rattle.cw_model.specs.EventsCompaction.{compact, compacts, on_other_side}
use Rattle.cw_model.specs.Reopening.{closed_by}
use Rattle.cw_desk.specs.Keeping.{KeepsJournal}
use Rattle.cw_laws.proofs.Lists.{reads-set}
use Rattle.cw_laws.proofs.Wrappers.{closed-keeps, if-keeps, worker-keeps, instance-keeps, group-keeps, entries-keeps, configs-keeps, offset-keeps, status-keeps, data-keeps, leader-keeps, producer-keeps}
use Rattle.cw_model.specs.Facts.{AreFacts}
use Rattle.cw_model.specs.Steps.{step as task_step}
use Rattle.cw_model.specs.Tick.{tick}
use Rattle.cw_laws.proofs.Proposed.{proposes-well}
use Rattle.cw_laws.proofs.Runs.{lives-sound}
use Rattle.cw_laws.proofs.TaskSteps.{step-keeps}
use Rattle.cw_laws.proofs.Ticks.{tick-keeps}
use Rattle.cw_laws.proofs.Workers.{sound_at}
use Rattle.cw_group.specs.Circle.{is_due}

-- ---- states that keep it

keeps-frame : (s t : Cluster) → ((w : ℕ) → (row_of w t).live ≡ (row_of w s).live) → KeepsJournal s (record t { journal = s.journal })
keeps-frame s t live = record { journal = refl; live = live }

pub keeps-same : (s : Cluster) → KeepsJournal s s
keeps-same s = keeps-frame s s (λ w. refl)

pub keeps-trans : (s t u : Cluster) → KeepsJournal s t → KeepsJournal t u → KeepsJournal s u
keeps-trans s t u g h = record { journal = h.journal ∙ g.journal; live = λ w. h.live w ∙ g.live w }

pub keeps-row : (w : ℕ) (change : Row → Row) (s : Cluster) → (change (row_of w s)).live ≡ (row_of w s).live → KeepsJournal s (changes_row w change s)
keeps-row w change s same = record {
  journal = refl;
  live = reads-set (λ (r q : Row). q.live ≡ r.live) s.rows w (change (row_of w s)) no_row (λ r. refl) same;
}

keeps-instance : (i : ℕ) (change : Instance → Instance) (s : Cluster) → KeepsJournal s (changes_instance i change s)
keeps-instance i change s = keeps-frame s (changes_instance i change s) (λ w. refl)

pub keeps-entries : (frame : List Entry) (s : Cluster) → KeepsJournal s (with_entries frame s)
keeps-entries frame s = keeps-frame s (with_entries frame s) (λ w. refl)

pub keeps-configs : (records : List ConfigRecord) (s : Cluster) → KeepsJournal s (with_configs records s)
keeps-configs records s = keeps-frame s (with_configs records s) (λ w. refl)

keeps-status : (r : StampedStatus) (s : Cluster) → KeepsJournal s (with_status r s)
keeps-status r s = keeps-frame s (with_status r s) (λ w. refl)

keeps-offset : (entry : OffsetEntry) (s : Cluster) → KeepsJournal s (with_offset entry s)
keeps-offset entry s = keeps-frame s (with_offset entry s) (λ w. refl)

keeps-data : (entry : DataEntry) (s : Cluster) → KeepsJournal s (with_data entry s)
keeps-data entry s = keeps-frame s (with_data entry s) (λ w. refl)

-- ---- what an event does once it may

pub keeps-instances : (instances : List Instance) (s : Cluster) → KeepsJournal s (record s { instances = instances })
keeps-instances instances s = keeps-frame s (record s { instances = instances }) (λ w. refl)

-- a refusal of a leader
keeps-fenced : (w : ℕ) (s : Cluster) → KeepsJournal s (changes_row w without_lead s)
keeps-fenced w s = keeps-row w without_lead s refl

-- what is written, where there is room, and then changed
bumps-quietly : {A : Type 0} (frame : List Entry) (change : Cluster → Cluster) (answer : A) (s : Cluster) → ((t : Cluster) → KeepsJournal t (change t)) →
    KeepsJournal s (appends_entries frame change answer s).1
bumps-quietly frame change answer s more = entries-keeps (KeepsJournal s) s frame (change (with_entries frame s)) answer (keeps-same s)
    (λ room. keeps-trans s (with_entries frame s) (change (with_entries frame s)) (keeps-entries frame s) (more (with_entries frame s)))

configs-quietly : {A : Type 0} (frame : List ConfigRecord) (change : Cluster → Cluster) (answer : A) (s : Cluster) → ((t : Cluster) → KeepsJournal t (change t)) →
    KeepsJournal s (appends_configs frame change answer s).1
configs-quietly frame change answer s more = configs-keeps (KeepsJournal s) s frame (change (with_configs frame s)) answer (keeps-same s)
    (λ room. keeps-trans s (with_configs frame s) (change (with_configs frame s)) (keeps-configs frame s) (more (with_configs frame s)))

offset-quietly : {A : Type 0} (entry : OffsetEntry) (change : Cluster → Cluster) (answer : A) (s : Cluster) → ((t : Cluster) → KeepsJournal t (change t)) →
    KeepsJournal s (appends_offset entry change answer s).1
offset-quietly entry change answer s more = offset-keeps (KeepsJournal s) s entry (change (with_offset entry s)) answer (keeps-same s)
    (λ room. keeps-trans s (with_offset entry s) (change (with_offset entry s)) (keeps-offset entry s) (more (with_offset entry s)))

status-quietly : {A : Type 0} (r : StampedStatus) (change : Cluster → Cluster) (answer : A) (s : Cluster) → ((t : Cluster) → KeepsJournal t (change t)) →
    KeepsJournal s (appends_status r change answer s).1
status-quietly r change answer s more = status-keeps (KeepsJournal s) s r (change (with_status r s)) answer (keeps-same s)
    (λ room. keeps-trans s (with_status r s) (change (with_status r s)) (keeps-status r s) (more (with_status r s)))

data-quietly : {A : Type 0} (entry : DataEntry) (change : Cluster → Cluster) (answer : A) (s : Cluster) → ((t : Cluster) → KeepsJournal t (change t)) →
    KeepsJournal s (appends_data entry change answer s).1
data-quietly entry change answer s more = data-keeps (KeepsJournal s) s entry (change (with_data entry s)) answer (keeps-same s)
    (λ room. keeps-trans s (with_data entry s) (change (with_data entry s)) (keeps-data entry s) (more (with_data entry s)))

-- ---- workers

pub expire-quiet : (setting : Setting) (w : ℕ) (s : Cluster) → KeepsJournal s (expire setting w s).1
expire-quiet setting w s = closed-keeps (KeepsJournal s) s s.closed _ (keeps-same s) (group-keeps (KeepsJournal s) s _ _ (keeps-same s) (λ did so. keeps-frame s (loses setting did s) (λ v. refl)))

pub clock-quiet : (to : ℕ) (s : Cluster) → KeepsJournal s (clock to s).1
clock-quiet to s = keeps-frame s (record s { moment = max s.moment to }) (λ w. refl)

-- ---- the group

pub join-quiet : (w : ℕ) (s : Cluster) → KeepsJournal s (join w s).1
join-quiet w s = worker-keeps (KeepsJournal s) w s _ (keeps-same s) (λ live. group-keeps (KeepsJournal s) s _ _ (keeps-same s) (λ (did : ℕ × GroupState) so.
    let u : Cluster = record s { group = did.1 } in
    keeps-trans s u (changes_row w (joining (incarnation_in w did.1) (held w s)) u) (keeps-frame s u (λ v. refl))
    (keeps-row w (joining (incarnation_in w did.1) (held w s)) u refl)))

pub close_round-quiet : (w : ℕ) (s : Cluster) → KeepsJournal s (close_round w s).1
close_round-quiet w s = worker-keeps (KeepsJournal s) w s _ (keeps-same s) (λ live. group-keeps (KeepsJournal s) s _ _ (keeps-same s) (λ group so. keeps-frame s (record s { group = group }) (λ v. refl)))

delay-quiet : (s : Cluster) → KeepsJournal s (without_due_delay s)
delay-quiet s = either (is_due s.moment s.delay) where
  either : (b : Bool) → KeepsJournal s (if b then record s { lost = []; delay = Idle } else s)
  either true = keeps-frame s (record s { lost = []; delay = Idle }) (λ w. refl)
  either false = keeps-same s

pub store_plan-quiet : (w : ℕ) (s : Cluster) → KeepsJournal s (store_plan w s).1
store_plan-quiet w s = worker-keeps (KeepsJournal s) w s _ (keeps-same s) (λ live. group-keeps (KeepsJournal s) s _ _ (keeps-same s) (λ group so.
    keeps-trans s (without_due_delay s) _ (delay-quiet s) (keeps-frame (without_due_delay s) (record (without_due_delay s) { group = group }) (λ v. refl))))

pub sync-quiet : (w : ℕ) (s : Cluster) → KeepsJournal s (sync w s).1
sync-quiet w s = worker-keeps (KeepsJournal s) w s _ (keeps-same s) (λ live. group-keeps (KeepsJournal s) s _ _ (keeps-same s) (λ told so. keeps-row w (stable_with w told) s refl))

-- ---- items

-- a worker has read no more than there is, and so reads on
pub read_config-quiet : (w : ℕ) (s : Cluster) → KeepsJournal s (read_config w s).1
read_config-quiet w s = worker-keeps (KeepsJournal s) w s _ (keeps-same s) (λ live. keeps-row w (λ row. record row { prefix = length s.configs }) s refl)

pub start_item-quiet : (w : ℕ) (item : Item) (s : Cluster) → KeepsJournal s (start_item w item s).1
start_item-quiet w item s = worker-keeps (KeepsJournal s) w s _ (keeps-same s) (λ live. keeps-instances _ s)

pub stop_item-quiet : (i : ℕ) (s : Cluster) → KeepsJournal s (stop_item i s).1
stop_item-quiet i s = instance-keeps (KeepsJournal s) i s _ (keeps-same s) (λ lives. keeps-instances _ s)

-- ---- the leader

pub claim_lead-quiet : (w : ℕ) (s : Cluster) → KeepsJournal s (claim_lead w s).1
claim_lead-quiet w s = worker-keeps (KeepsJournal s) w s _ (keeps-same s) (λ live.
    bumps-quietly (Bump Lead ∷ []) (changes_row w (leading (next_epoch Lead s))) (next_epoch Lead s) s (λ t. keeps-row w (leading (next_epoch Lead s)) t refl))

pub append_config-quiet : (w : ℕ) (values : KeyedValues) (s : Cluster) → KeepsJournal s (append_config w values s).1
append_config-quiet w values s = worker-keeps (KeepsJournal s) w s _ (keeps-same s) (λ live. leader-keeps (KeepsJournal s) w s _ (keeps-fenced w s) (λ own.
    configs-quietly (stamped values s) (λ t. t) (next_config s) s keeps-same))

pub fence_one-quiet : (w : ℕ) (name : List ℕ) (s : Cluster) → KeepsJournal s (fence_one w name s).1
fence_one-quiet w name s = worker-keeps (KeepsJournal s) w s _ (keeps-same s) (λ live. leader-keeps (KeepsJournal s) w s _ (keeps-fenced w s) (λ own.
    let fencing : Fencing = fencing_of w name s in
    bumps-quietly (Bump (fenced_tid fencing) ∷ []) (changes_row w (fencing_on fencing)) (fencing.next, next_epoch (fenced_tid fencing) s) s
    (λ t. keeps-row w (fencing_on fencing) t refl)))

pub append_fence-quiet : (w : ℕ) (name : List ℕ) (s : Cluster) → KeepsJournal s (append_fence w name s).1
append_fence-quiet w name s = worker-keeps (KeepsJournal s) w s _ (keeps-same s) (λ live. leader-keeps (KeepsJournal s) w s _ (keeps-fenced w s) (λ own.
    if-keeps (KeepsJournal s) ((fencing_of w name s).generation == unwrap_or (generation_of name s.configs) 0) _ _
    (λ newest. configs-quietly (stamped (fence_record name (task_count_of name (seen w s))) s) (changes_row w without_fencing) (next_config s) s (λ t. keeps-row w without_fencing t refl))
    (λ stale. keeps-same s)))

pub set_offsets-quiet : (w : ℕ) (name : List ℕ) (list : List SetOffset) (s : Cluster) → KeepsJournal s (set_offsets w name list s).1
set_offsets-quiet w name list s = worker-keeps (KeepsJournal s) w s _ (keeps-same s) (λ live. leader-keeps (KeepsJournal s) w s _ (keeps-fenced w s) (λ own.
    bumps-quietly (offset_entries name (fenced_count_of name s.configs) (unwrap_or (row_of w s).lead (record { 0 = 0 })) list) (λ t. t) tt s keeps-same))

-- ---- tasks

pub init-quiet : (i : ℕ) (s : Cluster) → KeepsJournal s (init i s).1
init-quiet i s = instance-keeps (KeepsJournal s) i s _ (keeps-same s) (λ lives.
    let tid : Tid = tid_of (instance_of i s).item in
    bumps-quietly (Bump tid ∷ []) (changes_instance i (with_epoch (next_epoch tid s))) (next_epoch tid s) s (keeps-instance i (with_epoch (next_epoch tid s))))

pub verify-quiet : (i : ℕ) (s : Cluster) → KeepsJournal s (verify i s).1
verify-quiet i s = instance-keeps (KeepsJournal s) i s _ (keeps-same s) (λ lives. if-keeps (KeepsJournal s) (is_stale (instance_of i s) s) _ _ (λ stale. keeps-same s)
    (λ newest. if-keeps (KeepsJournal s) (is_pending (task_id_of (instance_of i s).item).connector s.configs) _ _ (λ pending. keeps-same s) (λ fenced. keeps-instances _ s)))

pub fetch-quiet : (i : ℕ) (s : Cluster) → KeepsJournal s (fetch i s).1
fetch-quiet i s = instance-keeps (KeepsJournal s) i s _ (keeps-same s) (λ lives. keeps-instances _ s)

pub produce-quiet : (setting : Setting) (i : ℕ) (cut : Cut) (s : Cluster) → KeepsJournal s (produce setting i cut s).1
produce-quiet setting i cut s = instance-keeps (KeepsJournal s) i s _ (keeps-same s) (λ lives. producer-keeps (KeepsJournal s) i s _ (keeps-same s) (λ own.
    if-keeps (KeepsJournal s) (is_bad_cut setting.feeds (instance_of i s) cut) _ _ (λ bad. keeps-same s) (λ fits.
    data-quietly (batch_of setting.feeds (instance_of i s) cut) (changes_instance i (taking phase.Produced cut)) tt s (keeps-instance i (taking phase.Produced cut)))))

pub put_offsets-quiet : (i : ℕ) (s : Cluster) → KeepsJournal s (put_offsets i s).1
put_offsets-quiet i s = instance-keeps (KeepsJournal s) i s _ (keeps-same s) (λ lives. producer-keeps (KeepsJournal s) i s _ (keeps-same s) (λ own.
    let own : Instance = instance_of i s in
    offset-quietly (Records (tag_of own) (offset_record (span_of own) s ∷ [])) (changes_instance i (in_phase phase.Offered)) tt s (keeps-instance i (in_phase phase.Offered))))

pub commit-quiet : (i : ℕ) (s : Cluster) → KeepsJournal s (commit i s).1
commit-quiet i s = instance-keeps (KeepsJournal s) i s _ (keeps-same s) (λ lives. producer-keeps (KeepsJournal s) i s _ (keeps-same s) (λ own.
    let own : Instance = instance_of i s in
    bumps-quietly (Commit (tag_of own) own.generation (span_of own ∷ []) ∷ []) (changes_instance i (committed_to (cut_of own).to)) (span_of own) s (keeps-instance i (committed_to (cut_of own).to))))

pub deliver-quiet : (i turn to : ℕ) (s : Cluster) → KeepsJournal s (deliver i turn to s).1
deliver-quiet i turn to s = instance-keeps (KeepsJournal s) i s _ (keeps-same s) (λ lives. keeps-instances _ s)

pub put_sink-quiet : (i to : ℕ) (s : Cluster) → KeepsJournal s (put_sink i to s).1
put_sink-quiet i to s = instance-keeps (KeepsJournal s) i s _ (keeps-same s) (λ lives. producer-keeps (KeepsJournal s) i s _ (keeps-same s) (λ own.
    bumps-quietly (sink_offset (instance_of i s) to ∷ []) (changes_instance i (polling_from phase.Polling to)) tt s (keeps-instance i (polling_from phase.Polling to))))

-- ---- reports

pub fail-quiet : (i : ℕ) (trace : Trace) (s : Cluster) → KeepsJournal s (fail i trace s).1
fail-quiet i trace s = instance-keeps (KeepsJournal s) i s _ (keeps-same s) (λ lives. keeps-instances _ s)

pub put_status-quiet : (w : ℕ) (item : Item) (s : Cluster) → KeepsJournal s (put_status w item s).1
put_status-quiet w item s = worker-keeps (KeepsJournal s) w s _ (keeps-same s) (λ live.
    let status : StatusValue = status_of w (instance_at w item s) s in
    status-quietly (status_record item status s) (reports w item status.state) tt s (λ t. keeps-instances (reports w item status.state t).instances t))

-- ---- logs

marks-quietly : (log : LogName) (tag : Tag) (committed : Bool) (s : Cluster) → KeepsJournal s (marks log tag committed s).1
marks-quietly Config tag committed s = keeps-same s
marks-quietly Offsets tag committed s = offset-quietly (Mark (record { tag = tag; committed = committed })) (λ t. t) (tag, committed) s keeps-same
marks-quietly Status tag committed s = keeps-same s
marks-quietly Txn tag committed s = keeps-same s
marks-quietly Batches tag committed s = data-quietly (DataMark tag committed) (λ t. t) (tag, committed) s keeps-same

pub mark-quiet : (log : LogName) (s : Cluster) → KeepsJournal s (mark log s).1
mark-quiet log s = closed-keeps (KeepsJournal s) s s.closed _ (keeps-same s) (marks-quietly log _ _ s)

compacts-quietly : (log : LogName) (s : Cluster) → KeepsJournal s (compacts log s).1
compacts-quietly Config s = if-keeps (KeepsJournal s) (nat_lt s.config.side (2 ^ 64 - 1)) _ _
    (λ fresh. keeps-frame s (record s { config = on_other_side (compact_configs s.config.frames) s.config }) (λ w. refl)) (λ worn. keeps-same s)
compacts-quietly Offsets s = if-keeps (KeepsJournal s) (nat_lt s.offsets.side (2 ^ 64 - 1)) _ _
    (λ fresh. keeps-frame s (record s { offsets = on_other_side (compact_offsets s.entries s.offsets.frames) s.offsets }) (λ w. refl)) (λ worn. keeps-same s)
compacts-quietly Status s = if-keeps (KeepsJournal s) (nat_lt s.status.side (2 ^ 64 - 1)) _ _
    (λ fresh. keeps-frame s (record s { status = on_other_side (compact_statuses s.status.frames) s.status }) (λ w. refl)) (λ worn. keeps-same s)
compacts-quietly Txn s = keeps-same s
compacts-quietly Batches s = keeps-same s

pub compact-quiet : (log : LogName) (s : Cluster) → KeepsJournal s (compact log s).1
compact-quiet log s = closed-keeps (KeepsJournal s) s s.closed _ (keeps-same s) (compacts-quietly log s)

pub closes-quiet : (disk : DiskName) (count : ℕ) (s : Cluster) → KeepsJournal s (closed_by disk count s)
closes-quiet disk count s = keeps-frame s (closed_by disk count s) (λ w. refl)

-- ---- turns

pub tick-quiet : (setting : Setting) (w : ℕ) (s : Cluster) → AreFacts setting s → KeepsJournal s (tick w s).1
tick-quiet setting w s f = tick-keeps (KeepsJournal s) w s
    record {
      same = keeps-same s;
      read = read_config-quiet w s;
      stop = λ i. stop_item-quiet i s;
      join = join-quiet w s;
      close = close_round-quiet w s;
      plan = store_plan-quiet w s;
      sync = sync-quiet w s;
      lead = claim_lead-quiet w s;
      append = λ leader values may. append_config-quiet leader values s;
      fence = λ name may. fence_one-quiet w name s;
      append_fence = λ name may. append_fence-quiet w name s;
      mark = λ log may. mark-quiet log s;
      start = λ item may. start_item-quiet w item s;
      report = λ item may. put_status-quiet w item s;
    }
    (sound_at s f.rows w) (proposes-well w s f.rows f.logs.configs.allowed)

pub task_step-quiet : (setting : Setting) (i : ℕ) (s : Cluster) → AreFacts setting s → KeepsJournal s (task_step setting i s).1
task_step-quiet setting i s f = step-keeps (KeepsJournal s) setting i s
    record {
      same = keeps-same s;
      init = λ may. init-quiet i s;
      verify = λ may. verify-quiet i s;
      fetch = λ may. fetch-quiet i s;
      produce = λ cut may. produce-quiet setting i cut s;
      put_offsets = λ may. put_offsets-quiet i s;
      commit = λ may. commit-quiet i s;
      deliver = λ turn to may. deliver-quiet i turn to s;
      put_sink = λ to may. put_sink-quiet i to s;
      fail = λ trace t g. keeps-trans s t (fail i trace t).1 g (fail-quiet i trace t);
    }
    (lives-sound s f.rows i)
