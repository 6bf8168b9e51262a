-- A call that writes, as its event and its worker's reading do it.
use Rattle.std.proofs.Common.{◌≡◌, ◌≢◌, ◌⊎◌, inl, inr, ⊎_elim, ℕ, ◌==◌, Bool, true, false, List, length, Option, Some, None, unwrap_or, Result, Ok, Err, refl, sym, ◌∙◌, ap, subst, if◌then◌else◌}
use Rattle.cw_types.specs.declared.logs.DiskName.{DiskName}
use Rattle.cw_types.specs.declared.logs.LogName.{LogName}
use Rattle.cw_types.specs.declared.logs.LogName.TheVariants.{Config, Txn}
use Rattle.cw_types.specs.declared.ids.Tid.TheVariants.{Lead}
use Rattle.cw_config.specs.View.{fenced_count_of}
use Rattle.cw_disk.specs.declared.device.Disk.{Ghosts}
use Rattle.cw_route.specs.declared.call.Call.{Call}
use Rattle.cw_route.specs.declared.reply.Reply.{Reply}
use Rattle.cw_rest.specs.Calls.{deed_of}
use Rattle.cw_rest.specs.Messages.{full_reply}
use Rattle.cw_rest.specs.Operations.{offset_entries}
use Rattle.cw_rest.specs.Seen.{KeyedValues}
use Rattle.cw_txn.specs.declared.entry.Entry.{Entry}
use Rattle.cw_txn.specs.declared.entry.SetOffset.{SetOffset}
use Rattle.cw_txn.specs.Body.{entries_bytes}
use Rattle.cw_model.specs.declared.fault.WorldFault.{WorldFault}
use Rattle.cw_model.specs.declared.fault.WorldFault.TheVariants.{Fenced, StaleGeneration, PendingFence, BadCut, Gone, Full, StoreFault, Closed, Dead, Group, TooMany, Memory}
use Rattle.cw_model.specs.State.{Setting, Cluster}
use Rattle.cw_model.specs.StandsFor.{Stored}
use Rattle.cw_model.specs.Answers.{Answer, answered, refused, unless_closed}
use Rattle.cw_model.specs.Bodies.{config_body, config_length, txn_length, frame_of}
use Rattle.cw_model.specs.EventsItems.{read_config}
use Rattle.cw_model.specs.EventsLeading.{append_config, set_offsets}
use Rattle.cw_model.specs.Lookups.{row_of, last_epoch}
use Rattle.cw_model.specs.Ready.{ready}
use Rattle.cw_model.specs.Reopening.{stored_of}
use Rattle.cw_model.specs.Updates.{epoch_in, changes_row, without_lead, with_configs, with_entries, fits_configs, fits_entries, as_leader, stamped, next_config, appends_configs, appends_entries}
use Rattle.cw_edges.specs.Requests.{answers, behind_write, reply_now, written}
use Rattle.cw_ops.specs.declared.answering.Answers.{Answers}
use Rattle.cw_ops.specs.Answering.{AreAnswers}
use Rattle.cw_world.specs.Logs.{LogsState, HaveSameOthers, KeepsOn, AddsTo, LeavesNow, IsApart, view_in, list_in, faults_in}
use Rattle.cw_world.specs.World.{WorldState, DoesOrWants, RunsOut, Breaks, Acts}
use Rattle.cw_world.proofs.Writing.{is-memory}
use Rattle.cw_herder.specs.declared.op.OpDone.{OpDone}
use Rattle.cw_herder.specs.Operations.{told_as, done_as}
use Rattle.cw_herder.specs.Submits.{IsWriteTo, Submits, StopsShort, told_refusal, reads_back}

-- ---- an event that writes to one log

module _ {A : Type 0} (log : LogName) (s : Cluster) where
  closed-write : (o : Option (DiskName × ℕ)) (done : Answer A) → IsWriteTo log done s → IsWriteTo log (unless_closed o done s) s
  closed-write None done is = is
  closed-write (Some fault) done is = record { full = λ other length frame e. absurd (cc); rows = λ x e. absurd (cc); alive = λ x e. absurd (cc) }

  if-write : (b : Bool) (done other : Answer A) → IsWriteTo log done s → IsWriteTo log other s → IsWriteTo log (if b then done else other) s
  if-write true done other is else_is = is
  if-write false done other is else_is = else_is

  dead-write : (w : ℕ) → IsWriteTo {A = A} log (refused (Dead w) s) s
  dead-write w = record { full = λ other length frame e. absurd (cc); rows = λ x e. absurd (cc); alive = λ x e. absurd (cc) }

  fenced-write : (own current : ℕ) (t : Cluster) → IsWriteTo {A = A} log (refused (Fenced own current) t) s
  fenced-write own current t = record { full = λ other length frame e. absurd (cc); rows = λ x e. absurd (cc); alive = λ x e. absurd (cc) }

  full-write : (length frame : ℕ) → IsWriteTo {A = A} log (refused (Full log length frame) s) s
  full-write length frame = record { full = λ other size bytes e. (cc, refl); rows = λ x e. absurd (cc); alive = λ x e. absurd (cc) }

  done-write : (x : A) (t : Cluster) → t.rows ≡ s.rows → t.closed ≡ s.closed → IsWriteTo log (answered x t) s
  done-write x t rows alive = record { full = λ other length frame e. absurd (cc); rows = λ y e. rows; alive = λ y e. alive }

  -- an event of a leader
  leader-write : (leader : ℕ) (done : Answer A) → IsWriteTo log done s →
      IsWriteTo log (unless_closed s.closed (if (row_of leader s).live then as_leader leader done s else refused (Dead leader) s) s) s
  leader-write leader done is =
      closed-write s.closed (if (row_of leader s).live then as_leader leader done s else refused (Dead leader) s)
      (if-write (row_of leader s).live (as_leader leader done s) (refused (Dead leader) s)
      (if-write (epoch_in (row_of leader s).lead == last_epoch Lead s) done
      (refused (Fenced (epoch_in (row_of leader s).lead) (last_epoch Lead s)) (changes_row leader without_lead s)) is
      (fenced-write (epoch_in (row_of leader s).lead) (last_epoch Lead s) (changes_row leader without_lead s)))
      (dead-write leader))

pub configs-write : (leader : ℕ) (values : KeyedValues) (s : Cluster) → IsWriteTo Config (append_config leader values s) s
configs-write leader values s =
    let frame = stamped values s in
    leader-write Config s leader (appends_configs frame (λ t. t) (next_config s) s)
    (if-write Config s (fits_configs frame s) (answered (next_config s) (with_configs frame s))
    (refused (Full Config (config_length s) (frame_of (config_body frame))) s)
    (done-write Config s (next_config s) (with_configs frame s) refl refl)
    (full-write Config s (config_length s) (frame_of (config_body frame))))

pub offsets-write : (leader : ℕ) (name : List ℕ) (list : List SetOffset) (s : Cluster) → IsWriteTo Txn (set_offsets leader name list s) s
offsets-write leader name list s =
    let frame : List Entry = offset_entries name (fenced_count_of name s.configs) (unwrap_or (row_of leader s).lead (record { 0 = 0 })) list in
    leader-write Txn s leader (appends_entries frame (λ t. t) tt s)
    (if-write Txn s (fits_entries frame s) (answered tt (with_entries frame s))
    (refused (Full Txn (txn_length s) (frame_of (entries_bytes frame))) s)
    (done-write Txn s tt (with_entries frame s) refl refl)
    (full-write Txn s (txn_length s) (frame_of (entries_bytes frame))))

-- ---- an operation's event

abbrev answer_of : {A : Type 0} → Result A WorldFault → Cluster → Answer A
answer_of r t = (r, t)

told-write : {A : Type 0} (log : LogName) (r : Result A WorldFault) (t s : Cluster) (tell : A → OpDone) → IsWriteTo log (answer_of r t) s →
    IsWriteTo log (done_as (answer_of r t) tell) s
told-write log (Ok x) t s tell is = record {
  full = λ other length frame e. absurd (cc);
  rows = λ y e. is.rows x refl;
  alive = λ y e. is.alive x refl;
}
told-write log (Err fault) t s tell is = record {
  full = λ other length frame e. let same : fault ≡ Full other length frame = cc in is.full other length frame (ap (λ (f : WorldFault). Err f) same);
  rows = λ y e. absurd (cc);
  alive = λ y e. absurd (cc);
}

pub op-write : {A : Type 0} (log : LogName) (did : Answer A) (s : Cluster) (tell : A → OpDone) → IsWriteTo log did s → IsWriteTo log (done_as did tell) s
op-write log did s tell is = told-write log did.0 did.1 s tell is

-- a call is answered by an operation as by its event
pub behind-op : {A : Type 0} (setting : Setting) (w : ℕ) (call : Call) (s : Cluster) (r : Result A WorldFault) (t : Cluster) (tell : A → OpDone) →
    behind_write setting w call s r t ≡ behind_write setting w call s (told_as r tell) t
behind-op setting w call s (Ok x) t tell = refl
behind-op setting w call s (Err (Full log length frame)) t tell = refl
behind-op setting w call s (Err (Fenced own current)) t tell = refl
behind-op setting w call s (Err (StaleGeneration own current)) t tell = refl
behind-op setting w call s (Err PendingFence) t tell = refl
behind-op setting w call s (Err (BadCut from to)) t tell = refl
behind-op setting w call s (Err (Gone i)) t tell = refl
behind-op setting w call s (Err (StoreFault disk count)) t tell = refl
behind-op setting w call s (Err (Closed disk count)) t tell = refl
behind-op setting w call s (Err (Dead v)) t tell = refl
behind-op setting w call s (Err (Group cause)) t tell = refl
behind-op setting w call s (Err TooMany) t tell = refl
behind-op setting w call s (Err Memory) t tell = refl

-- ---- what a worker's reading leaves stored

read-stored : (w : ℕ) (s : Cluster) → stored_of (read_config w s).1 ≡ stored_of s
read-stored w s = at s.closed (row_of w s).live where
  done : Answer (Unit {0})
  done = answered tt (changes_row w (λ row. record row { prefix = length s.configs }) s)

  at : (o : Option (DiskName × ℕ)) (b : Bool) → stored_of (unless_closed o (if b then done else refused (Dead w) s) s).1 ≡ stored_of s
  at None true = refl
  at None false = refl
  at (Some fault) b = refl

-- ---- a call that writes

module _ {D A : Type 0} (G : Ghosts D) (event : Cluster → Answer A) (log : LogName) (w : ℕ) (call : Call) (old : WorldState D) (made : Answers)
    (is : answers old.setting w call old.state ≡ behind_write old.setting w call old.state (event old.state).0 (event old.state).1)
    (are : AreAnswers old.setting w call log old.state made) (write : IsWriteTo log (event old.state) old.state) where
  abbrev behind : Result A WorldFault → Cluster → Answer Reply
  behind r t = behind_write old.setting w call old.state r t

  abbrev answering : Result Reply WorldFault → Cluster → Answer Reply
  answering r t = (r, t)

  -- what is stored behind it is what its event stores
  behind-stored : (r : Result A WorldFault) (t : Cluster) → ((other : LogName) (length frame : ℕ) → r ≡ Err (Full other length frame) → t ≡ old.state) →
      stored_of (behind r t).1 ≡ stored_of t
  behind-stored (Ok x) t full = read-stored w t
  behind-stored (Err (Full other length frame)) t full = ap stored_of (sym (full other length frame refl))
  behind-stored (Err (Fenced own current)) t full = refl
  behind-stored (Err (StaleGeneration own current)) t full = refl
  behind-stored (Err PendingFence) t full = refl
  behind-stored (Err (BadCut from to)) t full = refl
  behind-stored (Err (Gone i)) t full = refl
  behind-stored (Err (StoreFault disk count)) t full = refl
  behind-stored (Err (Closed disk count)) t full = refl
  behind-stored (Err (Dead v)) t full = refl
  behind-stored (Err (Group cause)) t full = refl
  behind-stored (Err TooMany) t full = refl
  behind-stored (Err Memory) t full = refl

  stored : stored_of (answers old.setting w call old.state).1 ≡ stored_of (event old.state).1
  stored = ap (λ (a : Answer Reply). stored_of a.1) is ∙
      behind-stored (event old.state).0 (event old.state).1 (λ other length frame e. (write.full other length frame e).1)

  -- ---- its event was refused

  refused-row : (fault : WorldFault) (t : Cluster) → ((other : LogName) (length frame : ℕ) → fault ≡ Full other length frame → (other ≡ log) × (t ≡ old.state)) →
      behind (Err fault) t ≡ (told_refusal made fault, t)
  refused-row (Full other length frame) t full =
      let both = full other length frame refl in
      ap (λ (l : LogName). answering (Ok (full_reply l)) old.state) both.0 ∙ ap (λ (r : Reply). answering (Ok r) old.state) (sym are.full) ∙
      ap (answering (Ok made.full)) (sym both.1)
  refused-row (Fenced own current) t full = ap (λ (r : Reply). answering (Ok r) t) (sym are.outrun)
  refused-row (StaleGeneration own current) t full = refl
  refused-row PendingFence t full = refl
  refused-row (BadCut from to) t full = refl
  refused-row (Gone i) t full = refl
  refused-row (StoreFault disk count) t full = refl
  refused-row (Closed disk count) t full = refl
  refused-row (Dead v) t full = refl
  refused-row (Group cause) t full = refl
  refused-row TooMany t full = refl
  refused-row Memory t full = refl

  refused-as : (fault : WorldFault) (t : Cluster) → event old.state ≡ (Err fault, t) → answers old.setting w call old.state ≡ (told_refusal made fault, t)
  refused-as fault t row =
      let first : (event old.state).0 ≡ Err fault = ap (λ (a : Answer A). a.0) row in
      let second : (event old.state).1 ≡ t = ap (λ (a : Answer A). a.1) row in
      is ∙ ap (λ (a : Answer A). behind a.0 a.1) row ∙ refused-row fault t (λ other length frame e.
      let both = write.full other length frame (first ∙ ap (λ (f : WorldFault). Err f) e) in (both.0, sym second ∙ both.1))

  abbrev failing : WorldFault → Result A WorldFault
  failing fault = Err fault

  out-as : (fault : WorldFault) → failing fault ≡ Err Memory → told_refusal made fault ≡ Err Memory
  out-as fault e = let same : fault ≡ Memory = cc in ap (told_refusal made) same

  broken-as : (fault : WorldFault) (disk : DiskName) (count : ℕ) → failing fault ≡ Err (StoreFault disk count) →
      told_refusal made fault ≡ Err (StoreFault disk count)
  broken-as fault disk count e = let same : fault ≡ StoreFault disk count = cc in ap (told_refusal made) same

  pub refused-acts : (new : WorldState D) (fault : WorldFault) → Acts G event old new (Err fault) →
      Acts G (answers old.setting w call) old new (told_refusal made fault)
  refused-acts new fault acts = record {
    log = acts.log;
    answers = ⊎_elim
        (λ (row : event old.state ≡ (Err fault, new.state)). inl (refused-as fault new.state row))
        (λ (faults : RunsOut G acts.log old new (failing fault) ⊎ Breaks G acts.log event old new (Err fault)). inr (⊎_elim
        (λ (out : RunsOut G acts.log old new (failing fault)). inl (record { answer = out-as fault out.answer; state = out.state; same = out.same }))
        (λ (b : Breaks G acts.log event old new (Err fault)). inr (record {
          disk = b.disk;
          count = b.count;
          answer = broken-as fault b.disk b.count b.answer;
          meant = reply_now old.setting w call old.state;
          due = ap (λ (a : Answer Reply). a.0) is ∙ ap (λ (r : Result A WorldFault). (behind r (event old.state).1).0) b.due;
          state = b.state;
          fails = b.fails;
          same = b.same;
          left = subst (λ (those : Stored). (told : List (List ℕ)) → (view_in G acts.log old.logs).bodies ≡ Some told →
              LeavesNow G acts.log new.logs (λ list. (list ≡ list_in acts.log (stored_of old.state)) ⊎ (list ≡ list_in acts.log those)))
              (sym stored) b.left;
          apart = subst (λ (those : Stored). IsApart acts.log (stored_of old.state) those) (sym stored) b.apart;
        }))
        faults))
        acts.answers;
    setting = acts.setting;
    name = acts.name;
    others = acts.others;
    leaves = λ any. subst (λ (those : Stored). (told : List (List ℕ)) → (view_in G any old.logs).bodies ≡ Some told →
        AddsTo G any old.logs new.logs (λ list. (list ≡ list_in any (stored_of old.state)) ⊎ (list ≡ list_in any those)))
        (sym stored) (acts.leaves any);
    keeps = acts.keeps;
  }

  -- ---- its event was done, and its worker reads

  module _ (mid new : WorldState D) (x : A) (result : Result Reply WorldFault) (acts : Acts G event old mid (Ok x))
      (reads : DoesOrWants (reads_back w made.done) mid new result) where
    event-row : event old.state ≡ (Ok x, mid.state)
    event-row = ⊎_elim (λ (row : event old.state ≡ (Ok x, mid.state)). row)
        (λ (faults : RunsOut G acts.log old mid (Ok x) ⊎ Breaks G acts.log event old mid (Ok x)). ⊎_elim
        (λ (out : RunsOut G acts.log old mid (Ok x)). absurd (let no : Ok x ≡ Err Memory = out.answer in cc))
        (λ (b : Breaks G acts.log event old mid (Ok x)). absurd (let no : Ok x ≡ Err (StoreFault b.disk b.count) = b.answer in cc))
        faults)
        acts.answers

    pub mid-rows : mid.state.rows ≡ old.state.rows
    mid-rows = ap (λ (a : Answer A). a.1.rows) (sym event-row) ∙ write.rows x (ap (λ (a : Answer A). a.0) event-row)

    pub mid-alive : mid.state.closed ≡ old.state.closed
    mid-alive = ap (λ (a : Answer A). a.1.closed) (sym event-row) ∙ write.alive x (ap (λ (a : Answer A). a.0) event-row)

    mid-is : (event old.state).1 ≡ mid.state
    mid-is = ap (λ (a : Answer A). a.1) event-row

    leaves-to : (t : Cluster) → stored_of (event old.state).1 ≡ stored_of t → (any : LogName) (told : List (List ℕ)) →
        (view_in G any old.logs).bodies ≡ Some told →
        AddsTo G any old.logs new.logs (λ list. (list ≡ list_in any (stored_of old.state)) ⊎ (list ≡ list_in any (stored_of t)))
    leaves-to t same any =
        subst (λ (those : Stored). (told : List (List ℕ)) → (view_in G any old.logs).bodies ≡ Some told →
        AddsTo G any old.logs new.logs (λ list. (list ≡ list_in any (stored_of old.state)) ⊎ (list ≡ list_in any those))) same
        (subst (λ (logs : LogsState D). (told : List (List ℕ)) → (view_in G any old.logs).bodies ≡ Some told →
        AddsTo G any old.logs logs (λ list. (list ≡ list_in any (stored_of old.state)) ⊎ (list ≡ list_in any (stored_of (event old.state).1))))
        (sym reads.logs) (acts.leaves any))

    keeps-to : (any : LogName) → KeepsOn (view_in G any old.logs) (view_in G any new.logs) (faults_in G any old.logs) (faults_in G any new.logs)
    keeps-to any = subst (λ (logs : LogsState D). KeepsOn (view_in G any old.logs) (view_in G any logs) (faults_in G any old.logs) (faults_in G any logs))
        (sym reads.logs) (acts.keeps any)

    others-to : HaveSameOthers acts.log old.logs new.logs
    others-to = subst (λ (logs : LogsState D). HaveSameOthers acts.log old.logs logs) (sym reads.logs) acts.others

    read-done : result ≢ Err Memory → Acts G (answers old.setting w call) old new result
    read-done fine = record {
      log = acts.log;
      answers = inl (is ∙ ap (λ (a : Answer A). behind a.0 a.1) event-row ∙
          ap (λ (r : Reply). answering (Ok r) (read_config w mid.state).1) (sym are.done) ∙ reads.done fine);
      setting = reads.setting ∙ acts.setting;
      name = reads.name ∙ acts.name;
      others = others-to;
      leaves = leaves-to (answers old.setting w call old.state).1 (sym stored);
      keeps = keeps-to;
    }

    read-short : (leader : ℕ) → ready w old.state ≡ Some leader → written old.setting w call (deed_of call) leader old.state ≡ (event old.state).1 →
        result ≡ Err Memory → StopsShort G w call old new result
    read-short leader through same wants =
        let state : new.state ≡ (event old.state).1 = reads.wants wants ∙ sym mid-is in
        record {
          log = acts.log;
          answer = wants;
          state = record { leader = leader; through = through; succeeds = are.succeeds; is = state ∙ sym same };
          setting = reads.setting ∙ acts.setting;
          name = reads.name ∙ acts.name;
          others = others-to;
          leaves = leaves-to new.state (ap stored_of (sym state));
          keeps = keeps-to;
        }

    pub read-submits : (leader : ℕ) → ready w old.state ≡ Some leader → written old.setting w call (deed_of call) leader old.state ≡ (event old.state).1 →
        Submits G w call old new result
    read-submits leader through same = either (wants-memory result) where
      wants-memory : (r : Result Reply WorldFault) → (r ≡ Err Memory) ⊎ (r ≢ Err Memory)
      wants-memory (Ok reply) = inr (λ e. cc)
      wants-memory (Err fault) = ⊎_elim (λ (e : fault ≡ Memory). inl (ap (λ (f : WorldFault). Err f) e)) (λ (n : fault ≢ Memory). inr (λ e. n cc)) (is-memory fault)

      either : (result ≡ Err Memory) ⊎ (result ≢ Err Memory) → Submits G w call old new result
      either (inl wants) = inr (read-short leader through same wants)
      either (inr fine) = inl (read-done fine)
