-- What a call leaves of the world, whatever it is answered: its entry may be kept there, and nothing was taken back. A turn
-- is the call and then its entry.
use Rattle.std.proofs.Common.{◌≡◌, ◌≢◌, ◌⊎◌, inl, inr, ⊎_elim, ℕ, ◌++◌, ◌∷◌, [], true, List, length, Result, Ok, Err, IfOk, OnErr, ◌<◌, refl, sym, ◌∙◌, ap, subst}
use Rattle.std.specs.declared.alloc.AllocError.{AllocError}
use Rattle.cw_types.specs.declared.logs.LogName.{LogName}
use Rattle.cw_disk.specs.declared.device.Disk.{Ghosts}
use Rattle.cw_route.specs.declared.call.Call.{Call}
use Rattle.cw_route.specs.declared.reply.Reply.{Reply}
use Rattle.cw_rest.specs.Calls.{Deed, reads, reads_configs, writes_configs, writes_offsets, restarts, deed_of}
use Rattle.cw_rest.specs.Replies.{values_of, offsets_of, connector_set}
use Rattle.cw_model.specs.declared.fault.WorldFault.{WorldFault}
use Rattle.cw_model.specs.declared.fault.WorldFault.TheVariants.{StoreFault, Memory}
use Rattle.cw_model.specs.declared.journal.JournalEntry.{JournalEntry}
use Rattle.cw_model.specs.State.{Setting, Cluster}
use Rattle.cw_model.specs.Answers.{Answer}
use Rattle.cw_model.specs.Facts.{AreFacts}
use Rattle.cw_model.specs.Grows.{Grows}
use Rattle.cw_model.specs.Journal.{MayJournal, journal}
use Rattle.cw_model.specs.Lookups.{row_of}
use Rattle.cw_laws.proofs.Calls.{grows-journal}
use Rattle.cw_laws.proofs.Grows.{grows-same, grows-trans}
use Rattle.cw_laws.proofs.Sync.{live-within}
use Rattle.cw_laws.proofs.Growth.{append_config-grows, set_offsets-grows}
use Rattle.cw_edges.specs.Requests.{answers, written, seen_now}
use Rattle.cw_world.specs.Logs.{LogsState}
use Rattle.cw_world.specs.Receipts.{ReceiptState, numbered}
use Rattle.cw_world.specs.World.{WorldState, RunsOut, Breaks, DoesOrWants}
use Rattle.cw_world.proofs.Writing.{is-memory}
use Rattle.cw_herder.proofs.Replied.{wanting}
use Rattle.cw_herder.specs.Submits.{Submits, StopsShort}
use Rattle.cw_desk.specs.Keeping.{KeepsJournal}
use Rattle.cw_desk.specs.Turns.{entry_of, Keeps, IsTurn}
use Rattle.cw_desk.proofs.Quiet.{keeps-same, append_config-quiet, set_offsets-quiet}
use Rattle.cw_desk.proofs.Turned.{IsKept, answers-kept, memory-kept, failed-kept}
use Rattle.logbook.specs.Pages.{Book}

module _ (setting : Setting) (w : ℕ) (call : Call) (leader : ℕ) (s : Cluster) where
  written-quiet : (deed : Deed) → KeepsJournal s (written setting w call deed leader s)
  written-quiet reads = keeps-same s
  written-quiet reads_configs = keeps-same s
  written-quiet writes_configs = append_config-quiet leader (values_of call) s
  written-quiet writes_offsets = set_offsets-quiet leader (connector_set call) (offsets_of (seen_now setting w call s) call) s
  written-quiet restarts = keeps-same s

  written-grows : (deed : Deed) → Grows s (written setting w call deed leader s)
  written-grows reads = grows-same s
  written-grows reads_configs = grows-same s
  written-grows writes_configs = append_config-grows leader (values_of call) s
  written-grows writes_offsets = set_offsets-grows leader (connector_set call) (offsets_of (seen_now setting w call s) call) s
  written-grows restarts = grows-same s

-- ---- what a call leaves

module _ {D : Type 0} (G : Ghosts D) (w : ℕ) (call : Call) (old left : WorldState D) (answer : Result Reply WorldFault)
    (f : AreFacts old.setting old.state) (live : (row_of w old.state).live ≡ true) where
  abbrev Kept : Result Reply WorldFault → Cluster → Type 0
  Kept r t = IsKept old.setting w call old.state (r, t)

  out-kept : (log : LogName) → RunsOut G log old left answer → Kept answer left.state
  out-kept log out = subst (λ (r : Result Reply WorldFault). Kept r left.state) (sym out.answer)
      (memory-kept old.setting w call old.state left.state (subst (KeepsJournal old.state) (sym out.state) (keeps-same old.state))
      (subst (Grows old.state) (sym out.state) (grows-same old.state)))

  broken-kept : (log : LogName) → Breaks G log (answers old.setting w call) old left answer → Kept answer left.state
  broken-kept log b = subst (λ (r : Result Reply WorldFault). Kept r left.state) (sym b.answer)
      (subst (λ (t : Cluster). Kept (Err (StoreFault b.disk b.count)) t) (sym b.state) (failed-kept old.setting w call old.state b.disk b.count))

  short-kept : StopsShort G w call old left answer → Kept answer left.state
  short-kept short =
      let is : left.state ≡ written old.setting w call (deed_of call) short.state.leader old.state = short.state.is in
      subst (λ (r : Result Reply WorldFault). Kept r left.state) (sym short.answer)
      (memory-kept old.setting w call old.state left.state
      (subst (KeepsJournal old.state) (sym is) (written-quiet old.setting w call short.state.leader old.state (deed_of call)))
      (subst (Grows old.state) (sym is) (written-grows old.setting w call short.state.leader old.state (deed_of call))))

  pub submitted : Submits G w call old left answer → Kept answer left.state
  submitted (inl acts) = ⊎_elim
      (λ (row : answers old.setting w call old.state ≡ (answer, left.state)). subst (IsKept old.setting w call old.state) row
      (answers-kept old.setting w call old.state f live))
      (λ (faults : RunsOut G acts.log old left answer ⊎ Breaks G acts.log (answers old.setting w call) old left answer). ⊎_elim
      (λ (out : RunsOut G acts.log old left answer). out-kept acts.log out)
      (λ (b : Breaks G acts.log (answers old.setting w call) old left answer). broken-kept acts.log b)
      faults)
      acts.answers
  submitted (inr short) = short-kept short

  submitted-setting : Submits G w call old left answer → left.setting ≡ old.setting
  submitted-setting (inl acts) = acts.setting
  submitted-setting (inr short) = short.setting

  submitted-name : Submits G w call old left answer → left.name ≡ old.name
  submitted-name (inl acts) = acts.name
  submitted-name (inr short) = short.name

-- ---- what is kept

-- a world of which only the state is another
module _ {D : Type 0} (left new : WorldState D) where
  pub with-state : new.setting ≡ left.setting → new.logs ≡ left.logs → new.name ≡ left.name → new ≡ record left { state = new.state }
  with-state setting logs name =
      ap (λ (x : Setting). record new { setting = x }) setting ∙
      ap (λ (x : LogsState D). record new { setting = left.setting; logs = x }) logs ∙
      ap (λ (x : Book). record left { state = new.state; name = x }) name

module _ {D : Type 0} (entry : JournalEntry) (left new : WorldState D) (r : Result ReceiptState WorldFault)
    (does : DoesOrWants (journal entry) left new (numbered r)) where
  kept-row : (receipt : ReceiptState) → r ≡ Ok receipt → journal entry left.state ≡ (Ok receipt.number, new.state)
  kept-row receipt is = subst (λ (n : Result ℕ WorldFault). journal entry left.state ≡ (n, new.state)) (ap numbered is)
      (does.done (λ e. let no : numbered (Ok receipt) ≡ Err Memory = ap numbered (sym is) ∙ e in cc))

  pub kept-done : (receipt : ReceiptState) → r ≡ Ok receipt → receipt.entry ≡ entry → receipt.name ≡ left.name → Keeps entry left new (Ok receipt)
  kept-done receipt is same name =
      let number : Ok (length left.state.journal) ≡ Ok receipt.number = ap (λ (a : Answer ℕ). a.0) (kept-row receipt is) in
      let state : (journal entry left.state).1 ≡ new.state = ap (λ (a : Answer ℕ). a.1) (kept-row receipt is) in
      let at : receipt.number ≡ length left.state.journal = cc in (
        ap (λ (n : ℕ). record receipt { number = n }) at ∙
            ap (λ (e : JournalEntry). record receipt { number = length left.state.journal; entry = e }) same ∙
            ap (λ (b : Book). record { number = length left.state.journal; entry = entry; name = b }) name,
        with-state left new does.setting does.logs does.name ∙ ap (λ (t : Cluster). record left { state = t }) (sym state),
      )

  pub kept-wants : (fault : WorldFault) → r ≡ Err fault → new ≡ left
  kept-wants fault is = at (is-memory fault) where
    at : (fault ≡ Memory) ⊎ (fault ≢ Memory) → new ≡ left
    at (inl wants) = with-state left new does.setting does.logs does.name ∙
        ap (λ (t : Cluster). record left { state = t }) (does.wants (ap numbered is ∙ ap (λ (x : WorldFault). Err x) wants))
    at (inr other) = absurd (
        let row : journal entry left.state ≡ (numbered r, new.state) =
        does.done (λ e. other (let told : Err fault ≡ Err Memory = ap numbered (sym is) ∙ e in cc)) in
        let no : Ok (length left.state.journal) ≡ Err fault = ap (λ (a : Answer ℕ). a.0) row ∙ ap numbered is in cc)

-- ---- a turn

module _ {D : Type 0} (G : Ghosts D) (w : ℕ) (call : Call) (old new : WorldState D) (r : Result ReceiptState AllocError)
    (f : AreFacts old.setting old.state) (live : (row_of w old.state).live ≡ true) (turn : IsTurn G w call old new r) where
  abbrev entry : JournalEntry
  entry = entry_of w call turn.answer old.state turn.left.state

  left-kept : IsKept old.setting w call old.state (turn.answer, turn.left.state)
  left-kept = submitted G w call old turn.left turn.answer f live turn.submits

  pub turn-setting : turn.left.setting ≡ old.setting
  turn-setting = submitted-setting G w call old turn.left turn.answer f live turn.submits

  pub turn-name : turn.left.name ≡ old.name
  turn-name = submitted-name G w call old turn.left turn.answer f live turn.submits

-- what is known of it
pub record Told {D : Type 0} (w : ℕ) (call : Call) (old new : WorldState D) (receipt : ReceiptState) : Type 0 where
  pub worker : receipt.entry.worker ≡ w
  pub call_is : receipt.entry.call ≡ call
  pub number : receipt.number ≡ length old.state.journal
  pub name : receipt.name ≡ old.name
  pub journal : new.state.journal ≡ old.state.journal ++ receipt.entry ∷ []

module _ {D : Type 0} (G : Ghosts D) (w : ℕ) (call : Call) (old new : WorldState D) (f : AreFacts old.setting old.state)
    (live : (row_of w old.state).live ≡ true) where
  pub turn-told : (receipt : ReceiptState) → IsTurn G w call old new (Ok receipt) → Told w call old new receipt
  turn-told receipt turn =
      let kept = left-kept G w call old new (Ok receipt) f live turn in
      let is : (receipt ≡ record { number = length turn.left.state.journal; entry = entry_of w call turn.answer old.state turn.left.state; name = turn.left.name })
      × (new ≡ record (turn.left) { state = (journal (entry_of w call turn.answer old.state turn.left.state) turn.left.state).1 }) = turn.keeps in
      record {
        worker = ap (λ (x : ReceiptState). x.entry.worker) is.0;
        call_is = ap (λ (x : ReceiptState). x.entry.call) is.0;
        number = ap (λ (x : ReceiptState). x.number) is.0 ∙ ap (λ (l : List JournalEntry). length l) kept.keeps.journal;
        name = ap (λ (x : ReceiptState). x.name) is.0 ∙ turn-name G w call old new (Ok receipt) f live turn;
        journal = ap (λ (x : WorldState D). x.state.journal) is.1 ∙
            ap (λ (l : List JournalEntry). l ++ entry_of w call turn.answer old.state turn.left.state ∷ []) kept.keeps.journal ∙
            ap (λ (x : ReceiptState). old.state.journal ++ x.entry ∷ []) (sym is.0);
      }

  pub turn-grows : (r : Result ReceiptState AllocError) → IsTurn G w call old new r → Grows old.state new.state
  turn-grows (Ok receipt) turn =
      let kept = left-kept G w call old new (Ok receipt) f live turn in
      let e : JournalEntry = entry_of w call turn.answer old.state turn.left.state in
      subst (λ (x : WorldState D). Grows old.state x.state) (sym turn.keeps.1)
      (grows-trans old.state turn.left.state (journal e turn.left.state).1 kept.grows (grows-journal e turn.left.state))
  turn-grows (Err wanting) turn =
      subst (λ (x : WorldState D). Grows old.state x.state) (sym turn.keeps) (left-kept G w call old new (Err wanting) f live turn).grows

  pub turn-same : (r : Result ReceiptState AllocError) → IsTurn G w call old new r → (new.setting ≡ old.setting) × (new.name ≡ old.name)
  turn-same (Ok receipt) turn = (
    ap (λ (x : WorldState D). x.setting) turn.keeps.1 ∙ turn-setting G w call old new (Ok receipt) f live turn,
    ap (λ (x : WorldState D). x.name) turn.keeps.1 ∙ turn-name G w call old new (Ok receipt) f live turn,
  )
  turn-same (Err wanting) turn = (
    ap (λ (x : WorldState D). x.setting) turn.keeps ∙ turn-setting G w call old new (Err wanting) f live turn,
    ap (λ (x : WorldState D). x.name) turn.keeps ∙ turn-name G w call old new (Err wanting) f live turn,
  )

  pub turn-unkept : (wanting : AllocError) → IsTurn G w call old new (Err wanting) → new.state.journal ≡ old.state.journal
  turn-unkept wanting turn = ap (λ (x : WorldState D). x.state.journal) turn.keeps ∙ (left-kept G w call old new (Err wanting) f live turn).keeps.journal

  -- it kills no worker
  pub turn-live : (r : Result ReceiptState AllocError) → IsTurn G w call old new r → (v : ℕ) → (row_of v new.state).live ≡ (row_of v old.state).live
  turn-live (Ok receipt) turn v = ap (λ (x : WorldState D). (row_of v x.state).live) turn.keeps.1 ∙ (left-kept G w call old new (Ok receipt) f live turn).keeps.live v
  turn-live (Err wanting) turn v = ap (λ (x : WorldState D). (row_of v x.state).live) turn.keeps ∙ (left-kept G w call old new (Err wanting) f live turn).keeps.live v

-- ---- the steps of a turn

module _ {D : Type 0} (G : Ghosts D) (w : ℕ) (call : Call) (old : WorldState D) where
  pub turn-wants : (wants : AllocError) → IsTurn G w call old old (Err wants)
  turn-wants wants = record { left = old; answer = Err Memory; submits = inl (wanting G (answers old.setting w call) old); keeps = refl }

  module _ (left : WorldState D) (answer : Result Reply WorldFault) (f : AreFacts old.setting old.state) (live : (row_of w old.state).live ≡ true)
      (submits : Submits G w call old left answer) where
    pub left-there : w < length left.state.rows
    left-there = live-within w left.state ((submitted G w call old left answer f live submits).keeps.live w ∙ live)

    pub may-keep : (e : JournalEntry) → e ≡ entry_of w call answer old.state left.state → MayJournal left.setting e left.state
    may-keep e is = subst (λ (x : JournalEntry). MayJournal left.setting x left.state) (sym is)
        (subst (λ (x : Setting). MayJournal x (entry_of w call answer old.state left.state) left.state)
        (sym (submitted-setting G w call old left answer f live submits)) (submitted G w call old left answer f live submits).may)

    pub turn-stops : (wants : AllocError) → IsTurn G w call old left (Err wants)
    turn-stops wants = record { left = left; answer = answer; submits = submits; keeps = refl }

    module _ (e : JournalEntry) (is : e ≡ entry_of w call answer old.state left.state) (new : WorldState D) (r : Result ReceiptState WorldFault)
        (does : DoesOrWants (journal e) left new (numbered r)) where
      pub turn-fails : (fault : WorldFault) (wants : AllocError) → r ≡ Err fault → IsTurn G w call old new (Err wants)
      turn-fails fault wants failed = subst (λ (x : WorldState D). IsTurn G w call old x (Err wants))
          (sym (kept-wants e left new r does fault failed)) (turn-stops wants)

      pub turn-done : (receipt : ReceiptState) → r ≡ Ok receipt → receipt.entry ≡ e → receipt.name ≡ left.name → IsTurn G w call old new (Ok receipt)
      turn-done receipt done same name = record {
        left = left;
        answer = answer;
        submits = submits;
        keeps = subst (λ (x : JournalEntry). Keeps x left new (Ok receipt)) is (kept-done e left new r does receipt done same name);
      }

-- ---- what a turn's answer says

module _ {D : Type 0} (G : Ghosts D) (w : ℕ) (call : Call) (old new : WorldState D) (f : AreFacts old.setting old.state)
    (live : (row_of w old.state).live ≡ true) where
  pub if-asked : (r : Result ReceiptState AllocError) → IsTurn G w call old new r →
      IfOk r (λ receipt. (receipt.entry.worker ≡ w) × (receipt.entry.call ≡ call))
  if-asked (Ok receipt) turn = let told = turn-told G w call old new f live receipt turn in (told.worker, told.call_is)
  if-asked (Err wants) turn = tt

  pub if-shows : (r : Result ReceiptState AllocError) → IsTurn G w call old new r →
      IfOk r (λ receipt. (receipt.number ≡ length old.state.journal) × (receipt.name ≡ old.name))
  if-shows (Ok receipt) turn = let told = turn-told G w call old new f live receipt turn in (told.number, told.name)
  if-shows (Err wants) turn = tt

  pub if-kept : (r : Result ReceiptState AllocError) → IsTurn G w call old new r →
      IfOk r (λ receipt. new.state.journal ≡ old.state.journal ++ receipt.entry ∷ [])
  if-kept (Ok receipt) turn = (turn-told G w call old new f live receipt turn).journal
  if-kept (Err wants) turn = tt

  pub on-unkept : (r : Result ReceiptState AllocError) → IsTurn G w call old new r → OnErr r (new.state.journal ≡ old.state.journal)
  on-unkept (Ok receipt) turn = tt
  on-unkept (Err wants) turn = turn-unkept G w call old new f live wants turn
