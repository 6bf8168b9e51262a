-- The halves of each event that writes entries: its memory is taken, or it is refused, or it is put in.
use Rattle.std.proofs.Common.{◌≡◌, ◌≢◌, ℕ, ◌<◌, true, List, [], ◌∷◌, length, map, take, slice_index_or, Ok, Err, unwrap_or, refl, ◌∙◌, ap}
use Rattle.cw_types.specs.declared.ids.Epoch.{Epoch}
use Rattle.cw_types.specs.declared.ids.Span.{Span}
use Rattle.cw_types.specs.declared.logs.LogName.TheVariants.{Txn}
use Rattle.cw_types.specs.declared.ids.Tid.TheVariants.{Lead, Raw}
use Rattle.cw_config.specs.View.{fenced_count_of}
use Rattle.cw_config.specs.declared.records.ConfigRecord.{ConfigRecord}
use Rattle.cw_model.specs.declared.row.Row.{Row}
use Rattle.cw_rest.specs.Operations.{offset_entries}
use Rattle.cw_txn.specs.declared.entry.Entry.{Entry}
use Rattle.cw_txn.specs.declared.entry.Entry.TheVariants.{Bump}
use Rattle.cw_txn.specs.declared.entry.SetOffset.{SetOffset}
use Rattle.cw_txn.specs.Body.{entries_bytes}
use Rattle.cw_model.specs.declared.fault.WorldFault.{WorldFault}
use Rattle.cw_model.specs.declared.fault.WorldFault.TheVariants.{Memory}
use Rattle.cw_model.specs.declared.instance.InstancePhase.TheVariants.{Polling}
use Rattle.cw_model.specs.State.{Cluster}
use Rattle.cw_model.specs.Answers.{Answer, refused}
use Rattle.cw_model.specs.Bodies.{txn_length, frame_of, has_room}
use Rattle.cw_model.specs.EventsLeading.{claim_lead, fence_one, set_offsets, leading, fencing_of, fenced_tid, fencing_on}
use Rattle.cw_model.specs.EventsRaw.{raw_init, raw_commit, raw_span}
use Rattle.cw_model.specs.EventsSinks.{put_sink, sink_offset}
use Rattle.cw_model.specs.EventsSources.{init, commit, with_epoch, committed_to}
use Rattle.cw_model.specs.Lookups.{row_of, instance_of, no_row}
use Rattle.cw_model.specs.Refusals.{behind_refusal}
use Rattle.cw_model.specs.Tasks.{cut_of, span_of, polling_from}
use Rattle.cw_model.specs.Updates.{with_entries, appends_entries, bumps, next_epoch, changes_row, changes_instance, tid_of}
use Rattle.cw_rows.specs.Entries.{commit_of, raw_commit_in, fencing_in}
use Rattle.cw_rows.specs.Crew.{CrewState}
use Rattle.cw_topics.specs.Topics.{TopicsState}
use Rattle.cw_rows.specs.Kept.{Kept, IsCluster, open_test, worker_test, instance_test}
use Rattle.cw_rows.specs.Tests.{producer_test, leader_test, raw_test}
use Rattle.cw_rows.specs.Writes.{Readies, Refuses, Puts}
use Rattle.cw_rows.proofs.Due.{passes, refuses, open-alive, by-open, by-worker, by-instance, by-producer, by-leader, by-raw, raw_done, readies, puts, refuses-same, refuses-behind}

-- a script's producer gets its next epoch
module _ (n : ℕ) (old new : Kept) (setting : new.setting ≡ old.setting) where
  abbrev raw_init_done : Cluster → Answer Epoch
  raw_init_done s = bumps (Raw n) (λ t. t) (next_epoch (Raw n) s) s

  raw_init-row : open_test old.state.closed (Ok tt) ≡ Ok tt →
      raw_init n old.state ≡ appends_entries (Bump (Raw n) ∷ []) (λ t. t) (next_epoch (Raw n) old.state) old.state
  raw_init-row passed = passes (open_test old.state.closed (Ok tt)) (λ fault. refused fault old.state) (raw_init n old.state) (raw_init_done old.state)
      (by-open raw_init_done old.state) passed

  pub raw_init-readies : (frame : List Entry) → open_test old.state.closed (Ok tt) ≡ Ok tt → frame ≡ Bump (Raw n) ∷ [] →
      new.state ≡ old.state → Readies Txn (raw_init n) (entries_bytes frame) old new
  raw_init-readies frame passed same state =
      readies (raw_init n) (Bump (Raw n) ∷ []) (λ t. t) (next_epoch (Raw n) old.state) old new frame (raw_init-row passed) same setting
      (open-alive old.state.closed (Ok tt) passed) refl state

  pub raw_init-refuses : (fault : WorldFault) → open_test old.state.closed (Ok tt) ≡ Err fault → new.state ≡ old.state →
      Refuses (raw_init n) fault old new
  raw_init-refuses fault failed state = refuses-same (raw_init n) fault old new
      (λ e. refuses (open_test old.state.closed (Ok tt)) (λ fault. refused fault old.state) (raw_init n old.state) (raw_init_done old.state) fault
      (by-open raw_init_done old.state) failed) state setting

  pub raw_init-puts : (frame : List Entry) (epoch : Epoch) → open_test old.state.closed (Ok tt) ≡ Ok tt → frame ≡ Bump (Raw n) ∷ [] →
      epoch ≡ next_epoch (Raw n) old.state → has_room (txn_length old.state) (frame_of (entries_bytes frame)) ≡ true →
      new.state ≡ with_entries frame old.state → Puts (raw_init n) epoch old new
  raw_init-puts frame epoch passed same told room state =
      puts (raw_init n) (Bump (Raw n) ∷ []) (λ t. t) (next_epoch (Raw n) old.state) old new frame (raw_init-row passed) same setting
      epoch told room state refl

-- a leader claims the next lead epoch
module _ (w : ℕ) (old new : Kept) (setting : new.setting ≡ old.setting) where
  abbrev claim_done : Cluster → Answer Epoch
  claim_done s = bumps Lead (changes_row w (leading (next_epoch Lead s))) (next_epoch Lead s) s

  claim_lead-row : worker_test w old.state ≡ Ok tt → claim_lead w old.state ≡
      appends_entries (Bump Lead ∷ []) (changes_row w (leading (next_epoch Lead old.state))) (next_epoch Lead old.state) old.state
  claim_lead-row passed = passes (worker_test w old.state) (λ fault. refused fault old.state) (claim_lead w old.state) (claim_done old.state)
      (by-worker claim_done old.state w) passed

  pub claim_lead-readies : (frame : List Entry) → worker_test w old.state ≡ Ok tt → frame ≡ Bump Lead ∷ [] →
      new.state ≡ old.state → Readies Txn (claim_lead w) (entries_bytes frame) old new
  claim_lead-readies frame passed same state =
      readies (claim_lead w) (Bump Lead ∷ []) (changes_row w (leading (next_epoch Lead old.state))) (next_epoch Lead old.state) old new frame
      (claim_lead-row passed) same setting (open-alive old.state.closed _ passed) refl state

  pub claim_lead-refuses : (fault : WorldFault) → worker_test w old.state ≡ Err fault → new.state ≡ old.state →
      Refuses (claim_lead w) fault old new
  claim_lead-refuses fault failed state = refuses-same (claim_lead w) fault old new
      (λ e. refuses (worker_test w old.state) (λ fault. refused fault old.state) (claim_lead w old.state) (claim_done old.state) fault
      (by-worker claim_done old.state w) failed) state setting

  pub claim_lead-puts : (frame : List Entry) (epoch : Epoch) → worker_test w old.state ≡ Ok tt → frame ≡ Bump Lead ∷ [] →
      epoch ≡ next_epoch Lead old.state → has_room (txn_length old.state) (frame_of (entries_bytes frame)) ≡ true →
      new.state ≡ changes_row w (leading epoch) (with_entries frame old.state) → Puts (claim_lead w) epoch old new
  claim_lead-puts frame epoch passed same told room state =
      puts (claim_lead w) (Bump Lead ∷ []) (changes_row w (leading (next_epoch Lead old.state))) (next_epoch Lead old.state) old new frame
      (claim_lead-row passed) same setting epoch told room
      (state ∙ ap (λ (e : Epoch). changes_row w (leading e) (with_entries frame old.state)) told) refl

-- a new task gets its producer's epoch
module _ (i : ℕ) (old new : Kept) (setting : new.setting ≡ old.setting) where
  abbrev init_done : Cluster → Answer Epoch
  init_done s = let tid = tid_of (instance_of i s).item in
      bumps tid (changes_instance i (with_epoch (next_epoch tid s))) (next_epoch tid s) s

  init-row : instance_test i old.state ≡ Ok tt → init i old.state ≡ init_done old.state
  init-row passed = passes (instance_test i old.state) (λ fault. refused fault old.state) (init i old.state) (init_done old.state)
      (by-instance init_done old.state i) passed

  pub init-readies : (frame : List Entry) → instance_test i old.state ≡ Ok tt → frame ≡ Bump (tid_of (instance_of i old.state).item) ∷ [] →
      new.state ≡ old.state → Readies Txn (init i) (entries_bytes frame) old new
  init-readies frame passed same state = let tid = tid_of (instance_of i old.state).item in
      readies (init i) (Bump tid ∷ []) (changes_instance i (with_epoch (next_epoch tid old.state))) (next_epoch tid old.state) old new frame
      (init-row passed) same setting (open-alive old.state.closed _ passed) refl state

  pub init-refuses : (fault : WorldFault) → instance_test i old.state ≡ Err fault → new.state ≡ old.state → Refuses (init i) fault old new
  init-refuses fault failed state = refuses-same (init i) fault old new
      (λ e. refuses (instance_test i old.state) (λ fault. refused fault old.state) (init i old.state) (init_done old.state) fault
      (by-instance init_done old.state i) failed) state setting

  pub init-puts : (frame : List Entry) (epoch : Epoch) → instance_test i old.state ≡ Ok tt →
      frame ≡ Bump (tid_of (instance_of i old.state).item) ∷ [] →
      epoch ≡ next_epoch (tid_of (instance_of i old.state).item) old.state → has_room (txn_length old.state) (frame_of (entries_bytes frame)) ≡ true →
      new.state ≡ changes_instance i (with_epoch epoch) (with_entries frame old.state) → Puts (init i) epoch old new
  init-puts frame epoch passed same told room state = let tid = tid_of (instance_of i old.state).item in
      puts (init i) (Bump tid ∷ []) (changes_instance i (with_epoch (next_epoch tid old.state))) (next_epoch tid old.state) old new frame
      (init-row passed) same setting epoch told room
      (state ∙ ap (λ (e : Epoch). changes_instance i (with_epoch e) (with_entries frame old.state)) told) refl

-- a task commits
module _ (i : ℕ) (old new : Kept) (setting : new.setting ≡ old.setting) where
  abbrev commit_done : Cluster → Answer Span
  commit_done s = let own = instance_of i s in
      appends_entries (commit_of own ∷ []) (changes_instance i (committed_to (cut_of own).to)) (span_of own) s

  commit-row : producer_test i old.state ≡ Ok tt → commit i old.state ≡ commit_done old.state
  commit-row passed = passes (producer_test i old.state) (λ fault. refused fault old.state) (commit i old.state) (commit_done old.state)
      (by-producer commit_done old.state i) passed

  pub commit-readies : (frame : List Entry) → producer_test i old.state ≡ Ok tt → frame ≡ commit_of (instance_of i old.state) ∷ [] →
      new.state ≡ old.state → Readies Txn (commit i) (entries_bytes frame) old new
  commit-readies frame passed same state = let own = instance_of i old.state in
      readies (commit i) (commit_of own ∷ []) (changes_instance i (committed_to (cut_of own).to)) (span_of own) old new frame
      (commit-row passed) same setting (open-alive old.state.closed _ passed) refl state

  pub commit-refuses : (fault : WorldFault) → (fault ≢ Memory → producer_test i old.state ≡ Err fault) → new.state ≡ old.state →
      Refuses (commit i) fault old new
  commit-refuses fault failed state = refuses-same (commit i) fault old new
      (λ e. refuses (producer_test i old.state) (λ fault. refused fault old.state) (commit i old.state) (commit_done old.state) fault
      (by-producer commit_done old.state i) (failed e)) state setting

  pub commit-puts : (frame : List Entry) (span : Span) → producer_test i old.state ≡ Ok tt →
      frame ≡ commit_of (instance_of i old.state) ∷ [] → span ≡ span_of (instance_of i old.state) →
      has_room (txn_length old.state) (frame_of (entries_bytes frame)) ≡ true →
      new.state ≡ changes_instance i (committed_to (cut_of (instance_of i old.state)).to) (with_entries frame old.state) →
      Puts (commit i) span old new
  commit-puts frame span passed same told room state = let own = instance_of i old.state in
      puts (commit i) (commit_of own ∷ []) (changes_instance i (committed_to (cut_of own).to)) (span_of own) old new frame
      (commit-row passed) same setting span told room state refl

-- a sink stores how far it came
module _ (i to : ℕ) (old new : Kept) (setting : new.setting ≡ old.setting) where
  abbrev sink_done : Cluster → Answer (Unit {0})
  sink_done s = appends_entries (sink_offset (instance_of i s) to ∷ []) (changes_instance i (polling_from Polling to)) tt s

  put_sink-row : producer_test i old.state ≡ Ok tt → put_sink i to old.state ≡ sink_done old.state
  put_sink-row passed = passes (producer_test i old.state) (λ fault. refused fault old.state) (put_sink i to old.state) (sink_done old.state)
      (by-producer sink_done old.state i) passed

  pub put_sink-readies : (frame : List Entry) → producer_test i old.state ≡ Ok tt → frame ≡ sink_offset (instance_of i old.state) to ∷ [] →
      new.state ≡ old.state → Readies Txn (put_sink i to) (entries_bytes frame) old new
  put_sink-readies frame passed same state =
      readies (put_sink i to) (sink_offset (instance_of i old.state) to ∷ []) (changes_instance i (polling_from Polling to)) tt old new frame
      (put_sink-row passed) same setting (open-alive old.state.closed _ passed) refl state

  pub put_sink-refuses : (fault : WorldFault) → (fault ≢ Memory → producer_test i old.state ≡ Err fault) → new.state ≡ old.state →
      Refuses (put_sink i to) fault old new
  put_sink-refuses fault failed state = refuses-same (put_sink i to) fault old new
      (λ e. refuses (producer_test i old.state) (λ fault. refused fault old.state) (put_sink i to old.state) (sink_done old.state) fault
      (by-producer sink_done old.state i) (failed e)) state setting

  pub put_sink-puts : (frame : List Entry) → producer_test i old.state ≡ Ok tt → frame ≡ sink_offset (instance_of i old.state) to ∷ [] →
      has_room (txn_length old.state) (frame_of (entries_bytes frame)) ≡ true →
      new.state ≡ changes_instance i (polling_from Polling to) (with_entries frame old.state) → Puts (put_sink i to) tt old new
  put_sink-puts frame passed same room state =
      puts (put_sink i to) (sink_offset (instance_of i old.state) to ∷ []) (changes_instance i (polling_from Polling to)) tt old new frame
      (put_sink-row passed) same setting tt refl room state refl

-- the leader fences one producer
module _ (w : ℕ) (name : List ℕ) (old new : Kept) (setting : new.setting ≡ old.setting) where
  abbrev fence_done : Cluster → Answer (ℕ × Epoch)
  fence_done s = let fencing = fencing_of w name s in
      bumps (fenced_tid fencing) (changes_row w (fencing_on fencing)) (fencing.next, next_epoch (fenced_tid fencing) s) s

  fence_one-row : leader_test w old.state ≡ Ok tt → fence_one w name old.state ≡ fence_done old.state
  fence_one-row passed = passes (leader_test w old.state) (λ fault. refused fault (behind_refusal w fault old.state)) (fence_one w name old.state)
      (fence_done old.state) (by-leader fence_done old.state w) passed

  pub fence_one-readies : (frame : List Entry) → leader_test w old.state ≡ Ok tt → frame ≡ Bump (fenced_tid (fencing_of w name old.state)) ∷ [] →
      new.state ≡ old.state → Readies Txn (fence_one w name) (entries_bytes frame) old new
  fence_one-readies frame passed same state = let fencing = fencing_of w name old.state in
      readies (fence_one w name) (Bump (fenced_tid fencing) ∷ []) (changes_row w (fencing_on fencing))
      (fencing.next, next_epoch (fenced_tid fencing) old.state) old new frame
      (fence_one-row passed) same setting (open-alive old.state.closed _ passed) refl state

  pub fence_one-refuses : (fault : WorldFault) → leader_test w old.state ≡ Err fault → new.state ≡ behind_refusal w fault old.state →
      Refuses (fence_one w name) fault old new
  fence_one-refuses fault failed state = refuses-behind (fence_one w name) w fault old new
      (refuses (leader_test w old.state) (λ fault. refused fault (behind_refusal w fault old.state)) (fence_one w name old.state)
      (fence_done old.state) fault (by-leader fence_done old.state w) failed) state setting

  pub fence_one-puts : (frame : List Entry) (result : ℕ × Epoch) → leader_test w old.state ≡ Ok tt →
      frame ≡ Bump (fenced_tid (fencing_of w name old.state)) ∷ [] →
      result ≡ ((fencing_of w name old.state).next, next_epoch (fenced_tid (fencing_of w name old.state)) old.state) →
      has_room (txn_length old.state) (frame_of (entries_bytes frame)) ≡ true →
      new.state ≡ changes_row w (fencing_on (fencing_of w name old.state)) (with_entries frame old.state) → Puts (fence_one w name) result old new
  fence_one-puts frame result passed same told room state = let fencing = fencing_of w name old.state in
      puts (fence_one w name) (Bump (fenced_tid fencing) ∷ []) (changes_row w (fencing_on fencing))
      (fencing.next, next_epoch (fenced_tid fencing) old.state) old new frame
      (fence_one-row passed) same setting result told room state refl

-- offsets are set
module _ (w : ℕ) (name : List ℕ) (list : List SetOffset) (old new : Kept) (setting : new.setting ≡ old.setting) where
  abbrev entries_of : Cluster → List Entry
  entries_of s = offset_entries name (fenced_count_of name s.configs) (unwrap_or (row_of w s).lead (record { 0 = 0 })) list

  abbrev set_done : Cluster → Answer (Unit {0})
  set_done s = appends_entries (entries_of s) (λ t. t) tt s

  set_offsets-row : leader_test w old.state ≡ Ok tt → set_offsets w name list old.state ≡ set_done old.state
  set_offsets-row passed = passes (leader_test w old.state) (λ fault. refused fault (behind_refusal w fault old.state))
      (set_offsets w name list old.state) (set_done old.state) (by-leader set_done old.state w) passed

  pub set_offsets-readies : (frame : List Entry) → leader_test w old.state ≡ Ok tt → frame ≡ entries_of old.state →
      new.state ≡ old.state → Readies Txn (set_offsets w name list) (entries_bytes frame) old new
  set_offsets-readies frame passed same state =
      readies (set_offsets w name list) (entries_of old.state) (λ t. t) tt old new frame
      (set_offsets-row passed) same setting (open-alive old.state.closed _ passed) refl state

  pub set_offsets-refuses : (fault : WorldFault) → leader_test w old.state ≡ Err fault → new.state ≡ behind_refusal w fault old.state →
      Refuses (set_offsets w name list) fault old new
  set_offsets-refuses fault failed state = refuses-behind (set_offsets w name list) w fault old new
      (refuses (leader_test w old.state) (λ fault. refused fault (behind_refusal w fault old.state)) (set_offsets w name list old.state)
      (set_done old.state) fault (by-leader set_done old.state w) failed) state setting

  pub set_offsets-puts : (frame : List Entry) → leader_test w old.state ≡ Ok tt → frame ≡ entries_of old.state →
      has_room (txn_length old.state) (frame_of (entries_bytes frame)) ≡ true →
      new.state ≡ with_entries frame old.state → Puts (set_offsets w name list) tt old new
  set_offsets-puts frame passed same room state =
      puts (set_offsets w name list) (entries_of old.state) (λ t. t) tt old new frame
      (set_offsets-row passed) same setting tt refl room state refl

-- a script's producer commits
module _ (n : ℕ) (epoch : Epoch) (list : List (ℕ × ℕ)) (old new : Kept) (setting : new.setting ≡ old.setting) where
  abbrev spans : List Span
  spans = map (raw_span old.state.entries) list

  raw_commit-row : raw_test n epoch list old.state ≡ Ok tt →
      raw_commit n epoch list old.state ≡ appends_entries (raw_commit_in n epoch list old.state.entries ∷ []) (λ t. t) spans old.state
  raw_commit-row passed = passes (raw_test n epoch list old.state) (λ fault. refused fault old.state) (raw_commit n epoch list old.state)
      (raw_done n epoch list old.state) (by-raw n epoch list old.state) passed

  pub raw_commit-readies : (frame : List Entry) → raw_test n epoch list old.state ≡ Ok tt →
      frame ≡ raw_commit_in n epoch list old.state.entries ∷ [] → new.state ≡ old.state →
      Readies Txn (raw_commit n epoch list) (entries_bytes frame) old new
  raw_commit-readies frame passed same state =
      readies (raw_commit n epoch list) (raw_commit_in n epoch list old.state.entries ∷ []) (λ t. t) spans old new frame
      (raw_commit-row passed) same setting (open-alive old.state.closed _ passed) refl state

  pub raw_commit-refuses : (fault : WorldFault) → (fault ≢ Memory → raw_test n epoch list old.state ≡ Err fault) → new.state ≡ old.state →
      Refuses (raw_commit n epoch list) fault old new
  raw_commit-refuses fault failed state = refuses-same (raw_commit n epoch list) fault old new
      (λ e. refuses (raw_test n epoch list old.state) (λ fault. refused fault old.state) (raw_commit n epoch list old.state)
      (raw_done n epoch list old.state) fault (by-raw n epoch list old.state) (failed e)) state setting

  pub raw_commit-puts : (frame : List Entry) (result : List Span) → raw_test n epoch list old.state ≡ Ok tt →
      frame ≡ raw_commit_in n epoch list old.state.entries ∷ [] → result ≡ spans →
      has_room (txn_length old.state) (frame_of (entries_bytes frame)) ≡ true →
      new.state ≡ with_entries frame old.state → Puts (raw_commit n epoch list) result old new
  raw_commit-puts frame result passed same told room state =
      puts (raw_commit n epoch list) (raw_commit_in n epoch list old.state.entries ∷ []) (λ t. t) spans old new frame
      (raw_commit-row passed) same setting result told room state refl

-- how far a leader has fenced, as the cluster has it in memory
pub fencing-kept : (topics : TopicsState) (crew : CrewState) → IsCluster topics crew → (w : ℕ) (name : List ℕ) (row : Row) (read : List ConfigRecord) →
    w < length crew.rows → row ≡ slice_index_or crew.rows w no_row → read ≡ slice_index_or crew.reads w [] →
    fencing_in row read topics.configs name ≡
    fencing_in (slice_index_or crew.rows w no_row) (take (slice_index_or crew.rows w no_row).prefix topics.configs) topics.configs name
fencing-kept topics crew known w name row read there is reads =
    ap (λ (r : Row). fencing_in r read topics.configs name) is ∙
    ap (λ (l : List ConfigRecord). fencing_in (slice_index_or crew.rows w no_row) l topics.configs name) (reads ∙ known.reads w there)
