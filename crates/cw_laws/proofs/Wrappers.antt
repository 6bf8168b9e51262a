-- What an event keeps: whatever holds before it, and behind each of its ways to be done, holds behind it. One lemma
-- for each wrapper of an event; what is done is found by the goal.
use Rattle.std.proofs.Common.{◌≡◌, ℕ, ◌==◌, ◌∷◌, [], Bool, true, false, List, Option, Some, None, Result, Ok, Err, if◌then◌else◌, refl}
use Rattle.cw_types.specs.declared.logs.DiskName.{DiskName}
use Rattle.cw_types.specs.declared.logs.LogName.TheVariants.{Config, Offsets, Status, Txn, Batches}
use Rattle.cw_types.specs.declared.ids.Tid.TheVariants.{Lead}
use Rattle.cw_config.specs.declared.records.ConfigRecord.{ConfigRecord}
use Rattle.cw_data.specs.declared.entry.DataEntry.{DataEntry}
use Rattle.cw_data.specs.Body.{entry_bytes as data_body}
use Rattle.cw_group.specs.declared.answers.GroupFault.{GroupFault}
use Rattle.cw_offset.specs.declared.body.OffsetEntry.{OffsetEntry}
use Rattle.cw_offset.specs.Body.{entry_bytes as offset_body}
use Rattle.cw_txn.specs.declared.entry.Entry.{Entry}
use Rattle.cw_txn.specs.Body.{entries_bytes}
use Rattle.cw_model.specs.declared.fault.WorldFault.TheVariants.{Dead, Gone, Full, Fenced}
use Rattle.cw_model.specs.State.{Cluster, StampedStatus}
use Rattle.cw_model.specs.Phases.{is_ended}
use Rattle.cw_model.specs.Lookups.{row_of, instance_of, last_epoch}
use Rattle.cw_model.specs.Answers.{Answer, refused, answered, unless_closed, at_group}
use Rattle.cw_model.specs.Bodies.{config_body, status_body, config_length, offsets_length, status_length, txn_length, data_length, frame_of}
use Rattle.cw_model.specs.Updates.{as_leader, as_producer, epoch_in, tid_of, changes_row, without_lead, fits_configs, fits_offset, fits_status, fits_entries, fits_data}

pub closed-keeps : {A : Type 0} (P : Cluster → Type 0) (s : Cluster) (closed : Option (DiskName × ℕ)) (done : Answer A) → P s →
    P done.1 → P (unless_closed closed done s).1
closed-keeps P s None done same kept = kept
closed-keeps P s (Some fault) done same kept = same

pub if-keeps : {A : Type 0} (P : Cluster → Type 0) (b : Bool) (x y : Answer A) → (b ≡ true → P x.1) → (b ≡ false → P y.1) →
    P (if b then x else y).1
if-keeps P true x y so else_so = so refl
if-keeps P false x y so else_so = else_so refl

-- an event at a worker
pub worker-keeps : {A : Type 0} (P : Cluster → Type 0) (w : ℕ) (s : Cluster) (done : Answer A) → P s →
    ((row_of w s).live ≡ true → P done.1) → P (unless_closed s.closed (if (row_of w s).live then done else refused (Dead w) s) s).1
worker-keeps P w s done same kept =
    closed-keeps P s s.closed (if (row_of w s).live then done else refused (Dead w) s) same
    (if-keeps P (row_of w s).live done (refused (Dead w) s) kept (λ dead. same))

-- an event of an instance
pub instance-keeps : {A : Type 0} (P : Cluster → Type 0) (i : ℕ) (s : Cluster) (done : Answer A) → P s →
    (is_ended (instance_of i s).phase ≡ false → P done.1) →
    P (unless_closed s.closed (if is_ended (instance_of i s).phase then refused (Gone i) s else done) s).1
instance-keeps P i s done same kept =
    closed-keeps P s s.closed (if is_ended (instance_of i s).phase then refused (Gone i) s else done) same
    (if-keeps P (is_ended (instance_of i s).phase) (refused (Gone i) s) done (λ gone. same) kept)

-- what is done behind a call of the group
pub group-keeps : {A B : Type 0} (P : Cluster → Type 0) (s : Cluster) (result : Result B GroupFault) (event : B → Answer A) → P s →
    ((did : B) → result ≡ Ok did → P (event did).1) → P (at_group result event s).1
group-keeps P s (Ok did) event same kept = kept did refl
group-keeps P s (Err fault) event same kept = same

-- what is done where a log has room
pub entries-keeps : {A : Type 0} (P : Cluster → Type 0) (s : Cluster) (frame : List Entry) (done : Cluster) (answer : A) → P s →
    (fits_entries frame s ≡ true → P done) →
    P (if fits_entries frame s then answered answer done else refused (Full Txn (txn_length s) (frame_of (entries_bytes frame))) s).1
entries-keeps P s frame done answer same kept =
    if-keeps P (fits_entries frame s) (answered answer done) (refused (Full Txn (txn_length s) (frame_of (entries_bytes frame))) s) kept (λ full. same)

pub configs-keeps : {A : Type 0} (P : Cluster → Type 0) (s : Cluster) (frame : List ConfigRecord) (done : Cluster) (answer : A) → P s →
    (fits_configs frame s ≡ true → P done) →
    P (if fits_configs frame s then answered answer done else refused (Full Config (config_length s) (frame_of (config_body frame))) s).1
configs-keeps P s frame done answer same kept =
    if-keeps P (fits_configs frame s) (answered answer done) (refused (Full Config (config_length s) (frame_of (config_body frame))) s) kept (λ full. same)

pub offset-keeps : {A : Type 0} (P : Cluster → Type 0) (s : Cluster) (entry : OffsetEntry) (done : Cluster) (answer : A) → P s →
    (fits_offset entry s ≡ true → P done) →
    P (if fits_offset entry s then answered answer done else refused (Full Offsets (offsets_length s) (frame_of (offset_body entry))) s).1
offset-keeps P s entry done answer same kept =
    if-keeps P (fits_offset entry s) (answered answer done) (refused (Full Offsets (offsets_length s) (frame_of (offset_body entry))) s) kept (λ full. same)

pub status-keeps : {A : Type 0} (P : Cluster → Type 0) (s : Cluster) (r : StampedStatus) (done : Cluster) (answer : A) → P s →
    (fits_status r s ≡ true → P done) →
    P (if fits_status r s then answered answer done else refused (Full Status (status_length s) (frame_of (status_body (r ∷ [])))) s).1
status-keeps P s r done answer same kept =
    if-keeps P (fits_status r s) (answered answer done) (refused (Full Status (status_length s) (frame_of (status_body (r ∷ [])))) s) kept (λ full. same)

pub data-keeps : {A : Type 0} (P : Cluster → Type 0) (s : Cluster) (entry : DataEntry) (done : Cluster) (answer : A) → P s →
    (fits_data entry s ≡ true → P done) →
    P (if fits_data entry s then answered answer done else refused (Full Batches (data_length s) (frame_of (data_body entry))) s).1
data-keeps P s entry done answer same kept =
    if-keeps P (fits_data entry s) (answered answer done) (refused (Full Batches (data_length s) (frame_of (data_body entry))) s) kept (λ full. same)

-- what a leader does
pub leader-keeps : {A : Type 0} (P : Cluster → Type 0) (w : ℕ) (s : Cluster) (done : Answer A) → P (changes_row w without_lead s) →
    ((epoch_in (row_of w s).lead == last_epoch Lead s) ≡ true → P done.1) → P (as_leader w done s).1
leader-keeps P w s done fenced kept =
    if-keeps P (epoch_in (row_of w s).lead == last_epoch Lead s) done
    (refused (Fenced (epoch_in (row_of w s).lead) (last_epoch Lead s)) (changes_row w without_lead s)) kept (λ stale. fenced)

-- what a task does as its producer
pub producer-keeps : {A : Type 0} (P : Cluster → Type 0) (i : ℕ) (s : Cluster) (done : Answer A) → P s →
    ((epoch_in (instance_of i s).epoch == last_epoch (tid_of (instance_of i s).item) s) ≡ true → P done.1) → P (as_producer i done s).1
producer-keeps P i s done same kept =
    if-keeps P (epoch_in (instance_of i s).epoch == last_epoch (tid_of (instance_of i s).item) s) done
    (refused (Fenced (epoch_in (instance_of i s).epoch) (last_epoch (tid_of (instance_of i s).item) s)) s) kept (λ stale. same)
