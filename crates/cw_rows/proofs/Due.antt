-- What the tests of an event say of its row, and what the row of an event is that writes entries.
use Rattle.std.proofs.Common.{◌≡◌, ◌≢◌, ℕ, ◌==◌, Bool, true, false, List, [], ◌∷◌, map, Option, Some, None, Result, Ok, Err, if◌then◌else◌, refl, sym, ◌∙◌, ap, subst}
use Rattle.std.specs.List.{find}
use Rattle.cw_types.specs.declared.ids.Epoch.{Epoch}
use Rattle.cw_types.specs.declared.ids.Span.{Span}
use Rattle.cw_types.specs.declared.logs.DiskName.{DiskName}
use Rattle.cw_types.specs.declared.logs.LogName.TheVariants.{Txn}
use Rattle.cw_types.specs.declared.ids.Tid.TheVariants.{Lead, Raw}
use Rattle.cw_txn.specs.declared.entry.Entry.{Entry}
use Rattle.cw_txn.specs.Body.{entries_bytes}
use Rattle.cw_model.specs.declared.fault.WorldFault.{WorldFault}
use Rattle.cw_model.specs.declared.fault.WorldFault.TheVariants.{Closed, Dead, Gone, Fenced, Memory}
use Rattle.cw_model.specs.State.{Cluster}
use Rattle.cw_model.specs.Answers.{Answer, refused, unless_closed, at_open, at_worker, at_instance}
use Rattle.cw_model.specs.Bodies.{txn_length, frame_of, has_room}
use Rattle.cw_model.specs.Phases.{is_ended}
use Rattle.cw_model.specs.Lookups.{row_of, instance_of, last_epoch}
use Rattle.cw_model.specs.Reopening.{stored_of}
use Rattle.cw_model.specs.EventsRaw.{raw_commit, raw_commit_of, raw_span, is_bad_span, unless_bad}
use Rattle.cw_model.specs.Refusals.{behind_refusal}
use Rattle.cw_model.specs.Updates.{with_entries, fits_entries, appends_entries, as_leader, as_producer, epoch_in, tid_of}
use Rattle.cw_rows.specs.Kept.{Kept, open_test, worker_test, instance_test, HasSameLogs}
use Rattle.cw_rows.specs.Tests.{epoch_test, producer_test, leader_test, bad_test, raw_test}
use Rattle.cw_rows.specs.Writes.{IsDue, Readies, Refuses, Puts}
use Rattle.cw_topics.proofs.Written.{has-bytes}
use Rattle.cw_rows.proofs.Lists.{if-true, map-push}

-- ---- an event by its test

-- what is done where a test passes, and else its refusal
abbrev pub by_test : {A : Type 0} → Result (Unit {0}) WorldFault → (WorldFault → Answer A) → Answer A → Answer A
by_test (Ok u) refuse done = done
by_test (Err fault) refuse done = refuse fault

-- what passes is done, what doesn't is refused
pub passes : {A : Type 0} (test : Result (Unit {0}) WorldFault) (refuse : WorldFault → Answer A) (whole done : Answer A) →
    whole ≡ by_test test refuse done → test ≡ Ok tt → whole ≡ done
passes {A} test refuse whole done by passed = by ∙ ap (λ (t : Result (Unit {0}) WorldFault). by_test t refuse done) passed

pub refuses : {A : Type 0} (test : Result (Unit {0}) WorldFault) (refuse : WorldFault → Answer A) (whole done : Answer A) (fault : WorldFault) →
    whole ≡ by_test test refuse done → test ≡ Err fault → whole ≡ refuse fault
refuses {A} test refuse whole done fault by failed = by ∙ ap (λ (t : Result (Unit {0}) WorldFault). by_test t refuse done) failed

-- where a test passes writing hasn't ended
pub open-alive : (closed : Option (DiskName × ℕ)) (test : Result (Unit {0}) WorldFault) → open_test closed test ≡ Ok tt → closed ≡ None
open-alive None test passed = refl
open-alive (Some fault) test passed = absurd (cc)

open-passed : (closed : Option (DiskName × ℕ)) (test : Result (Unit {0}) WorldFault) → open_test closed test ≡ Ok tt → test ≡ Ok tt
open-passed None test passed = passed
open-passed (Some fault) test passed = absurd (cc)

not-first : (b : Bool) (fault : WorldFault) (test : Result (Unit {0}) WorldFault) → (if b then Err fault else test) ≡ Ok tt → b ≡ false
not-first true fault test passed = absurd (cc)
not-first false fault test passed = refl

-- an instance that passes its test hasn't ended
pub instance-runs : (i : ℕ) (s : Cluster) → instance_test i s ≡ Ok tt → is_ended (instance_of i s).phase ≡ false
instance-runs i s passed = not-first (is_ended (instance_of i s).phase) (Gone i) (Ok tt) (open-passed s.closed _ passed)

pub producer-runs : (i : ℕ) (s : Cluster) → producer_test i s ≡ Ok tt → is_ended (instance_of i s).phase ≡ false
producer-runs i s passed = not-first (is_ended (instance_of i s).phase) (Gone i) _ (open-passed s.closed _ passed)

module _ {A : Type 0} (refuse : WorldFault → Answer A) (s : Cluster) (x : Answer A) where
  by-closed : (closed : Option (DiskName × ℕ)) (test : Result (Unit {0}) WorldFault) (done : Answer A) →
      ((disk : DiskName) (count : ℕ) → refuse (Closed disk count) ≡ refused (Closed disk count) s) → done ≡ by_test test refuse x →
      unless_closed closed done s ≡ by_test (open_test closed test) refuse x
  by-closed None test done told by = by
  by-closed (Some fault) test done told by = sym (told fault.0 fault.1)

  by-not : (b : Bool) (fault : WorldFault) (test : Result (Unit {0}) WorldFault) (done : Answer A) → done ≡ by_test test refuse x →
      (if b then refuse fault else done) ≡ by_test (if b then Err fault else test) refuse x
  by-not true fault test done by = refl
  by-not false fault test done by = by

  by-only : (b : Bool) (fault : WorldFault) (test : Result (Unit {0}) WorldFault) (done : Answer A) → done ≡ by_test test refuse x →
      (if b then done else refuse fault) ≡ by_test (if b then test else Err fault) refuse x
  by-only true fault test done by = by
  by-only false fault test done by = refl

module _ {A : Type 0} (event : Cluster → Answer A) (s : Cluster) where
  pub by-open : at_open event s ≡ by_test (open_test s.closed (Ok tt)) (λ fault. refused fault s) (event s)
  by-open = by-closed (λ fault. refused fault s) s (event s) s.closed (Ok tt) (event s) (λ d n. refl) refl

  pub by-worker : (w : ℕ) → at_worker w event s ≡ by_test (worker_test w s) (λ fault. refused fault s) (event s)
  by-worker w = by-closed (λ fault. refused fault s) s (event s) s.closed _ _ (λ d n. refl)
      (by-only (λ fault. refused fault s) s (event s) (row_of w s).live (Dead w) (Ok tt) (event s) refl)

  pub by-instance : (i : ℕ) → at_instance i event s ≡ by_test (instance_test i s) (λ fault. refused fault s) (event s)
  by-instance i = by-closed (λ fault. refused fault s) s (event s) s.closed _ _ (λ d n. refl)
      (by-not (λ fault. refused fault s) s (event s) (is_ended (instance_of i s).phase) (Gone i) (Ok tt) (event s) refl)

module _ {A : Type 0} (done : Cluster → Answer A) (s : Cluster) where
  pub by-producer : (i : ℕ) → at_instance i (λ s. as_producer i (done s) s) s ≡ by_test (producer_test i s) (λ fault. refused fault s) (done s)
  by-producer i = by-closed (λ fault. refused fault s) s (done s) s.closed _ _ (λ d n. refl)
      (by-not (λ fault. refused fault s) s (done s) (is_ended (instance_of i s).phase) (Gone i) _ _
      (by-only (λ fault. refused fault s) s (done s) (epoch_in (instance_of i s).epoch == last_epoch (tid_of (instance_of i s).item) s)
      (Fenced (epoch_in (instance_of i s).epoch) (last_epoch (tid_of (instance_of i s).item) s)) (Ok tt) (done s) refl))

  pub by-leader : (w : ℕ) → at_worker w (λ s. as_leader w (done s) s) s ≡
      by_test (leader_test w s) (λ fault. refused fault (behind_refusal w fault s)) (done s)
  by-leader w = by-closed (λ fault. refused fault (behind_refusal w fault s)) s (done s) s.closed _ _ (λ d n. refl)
      (by-only (λ fault. refused fault (behind_refusal w fault s)) s (done s) (row_of w s).live (Dead w) _ _
      (by-only (λ fault. refused fault (behind_refusal w fault s)) s (done s) (epoch_in (row_of w s).lead == last_epoch Lead s)
      (Fenced (epoch_in (row_of w s).lead) (last_epoch Lead s)) (Ok tt) (done s) refl))

-- a script's producer's commit
module _ (n : ℕ) (epoch : Epoch) (list : List (ℕ × ℕ)) (s : Cluster) where
  -- what is done where the test passes
  abbrev pub raw_done : Answer (List Span)
  raw_done = let spans = map (raw_span s.entries) list in appends_entries (raw_commit_of n epoch spans s.entries ∷ []) (λ t. t) spans s

  by-bad : (bad : Option Span) → unless_bad bad raw_done s ≡ by_test (bad_test bad) (λ fault. refused fault s) raw_done
  by-bad None = refl
  by-bad (Some span) = refl

  pub by-raw : raw_commit n epoch list s ≡ by_test (raw_test n epoch list s) (λ fault. refused fault s) raw_done
  by-raw = by-closed (λ fault. refused fault s) s raw_done s.closed _ _ (λ d n. refl)
      (by-only (λ fault. refused fault s) s raw_done (epoch.0 == last_epoch (Raw n) s) (Fenced epoch.0 (last_epoch (Raw n) s))
      (bad_test (find is_bad_span (map (raw_span s.entries) list))) _ (by-bad (find is_bad_span (map (raw_span s.entries) list))))

-- ---- what writes entries

if-false : {A : Type 0} (b : Bool) (x y : A) → b ≡ false → (if b then x else y) ≡ y
if-false true x y is = absurd (cc)
if-false false x y is = refl

module _ {A : Type 0} (event : Cluster → Answer A) (frame : List Entry) (change : Cluster → Cluster) (answer : A) (s : Cluster) where
  -- where there is room, it is done
  pub entries-put : event s ≡ appends_entries frame change answer s → has_room (txn_length s) (frame_of (entries_bytes frame)) ≡ true →
      event s ≡ (Ok answer, change (with_entries frame s))
  entries-put row room = row ∙ if-true (fits_entries frame s) _ _ room

  -- it is to write the frame, where the change touches no log
  pub entries-due : event s ≡ appends_entries frame change answer s → s.closed ≡ None →
      stored_of (change (with_entries frame s)) ≡ stored_of (with_entries frame s) → IsDue Txn event (entries_bytes frame) s
  entries-due row alive logs = record {
    some = has-bytes frame;
    alive = alive;
    full = λ none. row ∙ if-false (fits_entries frame s) _ _ none;
    room = λ room. record {
      answer = answer;
      done = ap (λ (a : Answer A). a.0) (entries-put row room);
      stored = ap (λ (a : Answer A). stored_of a.1) (entries-put row room) ∙ logs ∙
          ap (λ (l : List (List ℕ)). record (stored_of s) { txn = l }) (map-push entries_bytes s.txn frame);
    };
  }

-- ---- refusals

same-logs : (s t : Cluster) → t ≡ s → HasSameLogs s t
same-logs s t same = subst (λ (t : Cluster). HasSameLogs s t) (sym same)
    (record { config = refl; offsets = refl; status = refl; txn = refl; batches = refl; closed = refl })

-- it is refused, or memory is wanting, and nothing has changed
pub refuses-same : {A : Type 0} (event : Cluster → Answer A) (fault : WorldFault) (old new : Kept) →
    (fault ≢ Memory → event old.state ≡ refused fault old.state) → new.state ≡ old.state → new.setting ≡ old.setting →
    Refuses event fault old new
refuses-same event fault old new row same setting = record {
  row = λ other. row other ∙ ap (λ (t : Cluster). refused fault t) (sym same);
  wants = λ e. same;
  setting = setting;
  logs = same-logs old.state new.state same;
}

-- memory is wanting
pub wants-memory : {A : Type 0} (event : Cluster → Answer A) (old new : Kept) → new.state ≡ old.state → new.setting ≡ old.setting →
    Refuses event Memory old new
wants-memory event old new same setting = refuses-same event Memory old new (λ other. absurd (other refl)) same setting

behind-logs : (w : ℕ) (fault : WorldFault) (s : Cluster) → HasSameLogs s (behind_refusal w fault s)
behind-logs w (Fenced own current) s = record { config = refl; offsets = refl; status = refl; txn = refl; batches = refl; closed = refl }
behind-logs w _ s = record { config = refl; offsets = refl; status = refl; txn = refl; batches = refl; closed = refl }

-- a leader's event is refused
pub refuses-behind : {A : Type 0} (event : Cluster → Answer A) (w : ℕ) (fault : WorldFault) (old new : Kept) →
    event old.state ≡ refused fault (behind_refusal w fault old.state) → new.state ≡ behind_refusal w fault old.state →
    new.setting ≡ old.setting → Refuses event fault old new
refuses-behind event w fault old new row state setting = record {
  row = λ other. row ∙ ap (λ (t : Cluster). refused fault t) (sym state);
  wants = λ e. state ∙ ap (λ (f : WorldFault). behind_refusal w f old.state) e;
  setting = setting;
  logs = subst (λ (t : Cluster). HasSameLogs old.state t) (sym state) (behind-logs w fault old.state);
}

-- ---- the halves of an event that writes entries

module _ {A : Type 0} (event : Cluster → Answer A) (own : List Entry) (change : Cluster → Cluster) (answer : A) (old new : Kept) (frame : List Entry)
    (row : event old.state ≡ appends_entries own change answer old.state) (same : frame ≡ own) (setting : new.setting ≡ old.setting) where
  due-row : event old.state ≡ appends_entries frame change answer old.state
  due-row = subst (λ (f : List Entry). event old.state ≡ appends_entries f change answer old.state) (sym same) row

  pub readies : old.state.closed ≡ None → stored_of (change (with_entries frame old.state)) ≡ stored_of (with_entries frame old.state) →
      new.state ≡ old.state → Readies Txn event (entries_bytes frame) old new
  readies alive logs state = record {
    due = entries-due event frame change answer old.state due-row alive logs;
    state = state;
    setting = setting;
  }

  pub puts : (result : A) → result ≡ answer → has_room (txn_length old.state) (frame_of (entries_bytes frame)) ≡ true →
      new.state ≡ change (with_entries frame old.state) → (change (with_entries frame old.state)).closed ≡ old.state.closed →
      Puts event result old new
  puts result told room state closed = record {
    row = entries-put event frame change answer old.state due-row room ∙
        ap (λ (t : Cluster). (Ok answer, t)) (sym state) ∙ ap (λ (a : A). (Ok a, new.state)) (sym told);
    setting = setting;
    closed = ap (λ (t : Cluster). t.closed) state ∙ closed;
  }

-- ---- one test behind another

module _ (test : Result (Unit {0}) WorldFault) (fault : WorldFault) where
  on-next : (closed : Option (DiskName × ℕ)) (b : Bool) → open_test closed (if b then Ok tt else Err fault) ≡ Ok tt →
      open_test closed (if b then test else Err fault) ≡ test
  on-next None true passed = refl
  on-next None false passed = absurd (cc)
  on-next (Some f) b passed = absurd (cc)

  on-fails : (closed : Option (DiskName × ℕ)) (b : Bool) (why : WorldFault) → open_test closed (if b then Ok tt else Err fault) ≡ Err why →
      open_test closed (if b then test else Err fault) ≡ Err why
  on-fails None true why failed = absurd (cc)
  on-fails None false why failed = failed
  on-fails (Some f) b why failed = failed

  off-next : (closed : Option (DiskName × ℕ)) (b : Bool) → open_test closed (if b then Err fault else Ok tt) ≡ Ok tt →
      open_test closed (if b then Err fault else test) ≡ test
  off-next None true passed = absurd (cc)
  off-next None false passed = refl
  off-next (Some f) b passed = absurd (cc)

  off-fails : (closed : Option (DiskName × ℕ)) (b : Bool) (why : WorldFault) → open_test closed (if b then Err fault else Ok tt) ≡ Err why →
      open_test closed (if b then Err fault else test) ≡ Err why
  off-fails None true why failed = failed
  off-fails None false why failed = absurd (cc)
  off-fails (Some f) b why failed = failed

abbrev failing : WorldFault → Result (Unit {0}) WorldFault
failing fault = Err fault

same-fault : (a b : WorldFault) → failing a ≡ failing b → a ≡ b
same-fault a b same = cc

module _ (w : ℕ) (s : Cluster) where
  -- a worker that passes its test leads by its epoch
  pub leader-next : worker_test w s ≡ Ok tt → leader_test w s ≡ epoch_test (epoch_in (row_of w s).lead) (last_epoch Lead s)
  leader-next passed = on-next _ (Dead w) s.closed (row_of w s).live passed

  pub leader-fails : (why : WorldFault) → worker_test w s ≡ Err why → leader_test w s ≡ Err why
  leader-fails why failed = on-fails _ (Dead w) s.closed (row_of w s).live why failed

  behind-worker : (closed : Option (DiskName × ℕ)) (live : Bool) (why : WorldFault) →
      open_test closed (if live then Ok tt else Err (Dead w)) ≡ Err why → behind_refusal w why s ≡ s
  behind-worker None true why failed = absurd (cc)
  behind-worker None false why failed = subst (λ (f : WorldFault). behind_refusal w f s ≡ s) (same-fault (Dead w) why failed) refl
  behind-worker (Some fault) live why failed =
      subst (λ (f : WorldFault). behind_refusal w f s ≡ s) (same-fault (Closed fault.0 fault.1) why failed) refl

  -- a worker that doesn't pass it keeps what it has
  pub worker-behind : (why : WorldFault) → worker_test w s ≡ Err why → behind_refusal w why s ≡ s
  worker-behind why failed = behind-worker s.closed (row_of w s).live why failed

module _ (i : ℕ) (s : Cluster) where
  -- an instance that passes its test writes by its epoch
  pub producer-next : instance_test i s ≡ Ok tt →
      producer_test i s ≡ epoch_test (epoch_in (instance_of i s).epoch) (last_epoch (tid_of (instance_of i s).item) s)
  producer-next passed = off-next _ (Gone i) s.closed (is_ended (instance_of i s).phase) passed

  pub producer-fails : (why : WorldFault) → instance_test i s ≡ Err why → producer_test i s ≡ Err why
  producer-fails why failed = off-fails _ (Gone i) s.closed (is_ended (instance_of i s).phase) why failed
