-- What stands in the transaction list behind an event that writes entries may stand there, by the event's law.
use Rattle.std.proofs.Common.{◌≡◌, ℕ, ◌++◌, [], ◌∷◌, true, List, map, Ok, refl, ◌∙◌, ap, subst}
use Rattle.std.specs.Prelude.{unwrap_or}
use Rattle.cw_types.specs.declared.ids.Epoch.{Epoch}
use Rattle.cw_types.specs.declared.ids.PartKey.{PartKey}
use Rattle.cw_types.specs.declared.ids.Span.{Span}
use Rattle.cw_types.specs.declared.logs.LogName.TheVariants.{Txn}
use Rattle.cw_txn.specs.declared.entry.Entry.{Entry}
use Rattle.cw_txn.specs.declared.entry.SetOffset.{SetOffset}
use Rattle.cw_txn.specs.Allowed.{AreAllowed}
use Rattle.cw_txn.specs.Body.{entries_bytes}
use Rattle.cw_txn.specs.Legal.{Chains}
use Rattle.cw_rest.specs.Operations.{offset_entries}
use Rattle.cw_model.specs.declared.instance.InstancePhase.TheVariants.{Polling}
use Rattle.cw_model.specs.State.{Setting, Cluster}
use Rattle.cw_model.specs.Answers.{Answer}
use Rattle.cw_model.specs.Bodies.{txn_length, frame_of, has_room}
use Rattle.cw_config.specs.View.{fenced_count_of}
use Rattle.cw_model.specs.EventsLeading.{set_offsets}
use Rattle.cw_model.specs.EventsRaw.{raw_commit, raw_span}
use Rattle.cw_model.specs.EventsSinks.{put_sink, sink_offset}
use Rattle.cw_model.specs.EventsSources.{commit, committed_to}
use Rattle.cw_model.specs.Facts.{AreFacts}
use Rattle.cw_model.specs.Lookups.{row_of, instance_of}
use Rattle.cw_model.specs.Tasks.{cut_of, span_of, polling_from}
use Rattle.cw_model.specs.Updates.{with_entries, appends_entries, changes_instance}
use Rattle.cw_laws.specs.Laws.{Keeps}
use Rattle.cw_rows.specs.Entries.{commit_of, raw_commit_in}
use Rattle.cw_rows.specs.Kept.{Kept}
use Rattle.cw_rows.specs.Tests.{producer_test, leader_test, raw_test}
use Rattle.cw_rows.specs.Writes.{bytes_in}
use Rattle.cw_rows.proofs.Due.{by-producer, by-leader, by-raw, entries-put, passes, raw_done}

module _ {A : Type 0} (event : Cluster → Answer A) (setting : Setting) (s : Cluster) (frame : List Entry) (law : Keeps setting s (event s))
    (facts : AreFacts setting s) (grown : (event s).1.entries ≡ s.entries ++ frame) where
  pub allowed-behind : AreAllowed (s.entries ++ frame)
  allowed-behind = subst (λ (l : List Entry). AreAllowed l) grown (law facts).logs.entries

  pub chains-behind : (part : PartKey) → Chains part (s.entries ++ frame)
  chains-behind part = subst (λ (l : List Entry). Chains part l) grown ((law facts).safe.exact.chains part)

-- the room that there was for a frame's bytes
pub room-of : (old mid : Kept) (body : List ℕ) (frame entries : List Entry) → mid.state ≡ old.state → body ≡ entries_bytes frame → frame ≡ entries →
    has_room (bytes_in Txn mid.state) (frame_of body) ≡ true → has_room (txn_length old.state) (frame_of (entries_bytes entries)) ≡ true
room-of old mid body frame entries state is same room = rw (← state, ← same, ← is) room

module _ (s : Cluster) where
  grown : {A : Type 0} (event : Cluster → Answer A) (frame : List Entry) (change : Cluster → Cluster) (answer : A) →
      event s ≡ appends_entries frame change answer s → has_room (txn_length s) (frame_of (entries_bytes frame)) ≡ true →
      (change (with_entries frame s)).entries ≡ s.entries ++ frame → (event s).1.entries ≡ s.entries ++ frame
  grown {A} event frame change answer row room keeps = ap (λ (a : Answer A). a.1.entries) (entries-put event frame change answer s row room) ∙ keeps

  pub commit-grown : (i : ℕ) → producer_test i s ≡ Ok tt → has_room (txn_length s) (frame_of (entries_bytes (commit_of (instance_of i s) ∷ []))) ≡ true →
      (commit i s).1.entries ≡ s.entries ++ commit_of (instance_of i s) ∷ []
  commit-grown i passed room =
      let done : Cluster → Answer Span = λ s. appends_entries (commit_of (instance_of i s) ∷ []) (changes_instance i (committed_to (cut_of (instance_of i s)).to)) (span_of (instance_of i s)) s in
      grown (commit i) (commit_of (instance_of i s) ∷ []) (changes_instance i (committed_to (cut_of (instance_of i s)).to)) (span_of (instance_of i s))
      (passes (producer_test i s) _ (commit i s) (done s) (by-producer done s i) passed) room refl

  pub sink-grown : (i to : ℕ) → producer_test i s ≡ Ok tt → has_room (txn_length s) (frame_of (entries_bytes (sink_offset (instance_of i s) to ∷ []))) ≡ true →
      (put_sink i to s).1.entries ≡ s.entries ++ sink_offset (instance_of i s) to ∷ []
  sink-grown i to passed room =
      let done : Cluster → Answer (Unit {0}) = λ s. appends_entries (sink_offset (instance_of i s) to ∷ []) (changes_instance i (polling_from Polling to)) tt s in
      grown (put_sink i to) (sink_offset (instance_of i s) to ∷ []) (changes_instance i (polling_from Polling to)) tt
      (passes (producer_test i s) _ (put_sink i to s) (done s) (by-producer done s i) passed) room refl

  pub set-grown : (w : ℕ) (name : List ℕ) (list : List SetOffset) → leader_test w s ≡ Ok tt →
      let frame = offset_entries name (fenced_count_of name s.configs) (unwrap_or (row_of w s).lead (record { 0 = 0 })) list in
      has_room (txn_length s) (frame_of (entries_bytes frame)) ≡ true → (set_offsets w name list s).1.entries ≡ s.entries ++ frame
  set-grown w name list passed room =
      let entries : Cluster → List Entry = λ s. offset_entries name (fenced_count_of name s.configs) (unwrap_or (row_of w s).lead (record { 0 = 0 })) list in
      let done : Cluster → Answer (Unit {0}) = λ s. appends_entries (entries s) (λ t. t) tt s in
      grown (set_offsets w name list) (entries s) (λ t. t) tt
      (passes (leader_test w s) _ (set_offsets w name list s) (done s) (by-leader done s w) passed) room refl

  pub raw-grown : (n : ℕ) (epoch : Epoch) (list : List (ℕ × ℕ)) → raw_test n epoch list s ≡ Ok tt →
      has_room (txn_length s) (frame_of (entries_bytes (raw_commit_in n epoch list s.entries ∷ []))) ≡ true →
      (raw_commit n epoch list s).1.entries ≡ s.entries ++ raw_commit_in n epoch list s.entries ∷ []
  raw-grown n epoch list passed room =
      grown (raw_commit n epoch list) (raw_commit_in n epoch list s.entries ∷ []) (λ t. t) (map (raw_span s.entries) list)
      (passes (raw_test n epoch list s) _ (raw_commit n epoch list s) (raw_done n epoch list s) (by-raw n epoch list s) passed) room refl
