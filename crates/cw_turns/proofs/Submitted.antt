-- A call is answered and kept in the journal: a server's world goes on.
use Rattle.std.proofs.Common.{◌≡◌, inl, ⊎_elim, ℕ, true, Some, None, IsSome, Result, Ok, Err, refl, sym, subst}
use Rattle.std.specs.declared.alloc.AllocError.{AllocError}
use Rattle.cw_types.specs.declared.logs.DiskName.{DiskName}
use Rattle.cw_disk.specs.declared.device.Disk.{Ghosts}
use Rattle.cw_route.specs.HeldNames.{HoldsName}
use Rattle.cw_route.specs.declared.call.Call.{Call}
use Rattle.cw_route.specs.declared.reply.Reply.{Reply}
use Rattle.cw_rest.specs.Calls.{Deed, reads, reads_configs, writes_configs, writes_offsets, restarts, deed_of}
use Rattle.cw_rest.specs.Replies.{values_of, offsets_of, connector_set}
use Rattle.cw_model.specs.declared.fault.WorldFault.{WorldFault}
use Rattle.cw_model.specs.declared.fault.WorldFault.TheVariants.{Closed}
use Rattle.cw_model.specs.declared.journal.JournalEntry.{JournalEntry}
use Rattle.cw_model.specs.State.{Setting, Cluster}
use Rattle.cw_model.specs.Facts.{AreFacts}
use Rattle.cw_model.specs.Journal.{MayJournal, journal}
use Rattle.cw_model.specs.Lookups.{row_of}
use Rattle.cw_model.specs.Reopening.{stored_of}
use Rattle.cw_model.specs.Runs as step
use Rattle.cw_edges.specs.Requests.{answers, seen_now, would_succeed, written, HasWritten}
use Rattle.cw_world.specs.Logs.{HoldAll}
use Rattle.cw_world.specs.Receipts.{ReceiptState}
use Rattle.cw_world.specs.World.{WorldState, Acts}
use Rattle.cw_world.proofs.Acting.{does-acts}
use Rattle.cw_herder.specs.Submits.{StopsShort, Submits}
use Rattle.cw_herder.proofs.Asking.{closed-answers}
use Rattle.cw_run.specs.Reaches.{Reaches, HaveNames}
use Rattle.cw_run.proofs.BodyTexts.{call-written}
use Rattle.cw_run.proofs.Living.{answers-lives, has-written-open}
use Rattle.cw_run.proofs.Reaching.{stays, makes, goes_on}
use Rattle.cw_run.proofs.RequestRuns.{answers-run, configs-may, sets-may}
use Rattle.cw_desk.specs.Turns.{IsTurn, Keeps, entry_of}
use Rattle.cw_desk.proofs.Submitted.{may-keep}
use Rattle.cw_turns.specs.Going.{Start, IsBroken, GoesOn}
use Rattle.cw_turns.proofs.Going.{acts-on, opens-on}
use Rattle.cw_laws.proofs.Proposed.{ready-leads}

-- ---- a call that has written

module _ (setting : Setting) (names : HaveNames setting) (s : Cluster) (f : AreFacts setting s) (w : ℕ) (call : Call) (named : HoldsName call) where
  written-runs : (leader : ℕ) → IsSome (row_of leader s).lead → would_succeed setting w call s ≡ true → (deed : Deed) → deed_of call ≡ deed →
      Reaches setting s (written setting w call deed leader s)
  written-runs leader leads succeeds reads is = stays setting s
  written-runs leader leads succeeds reads_configs is = stays setting s
  written-runs leader leads succeeds writes_configs is =
      makes setting s (step.append_config leader (values_of call)) (configs-may setting s f w call named (call-written call named) names is leader leads succeeds)
  written-runs leader leads succeeds writes_offsets is =
      makes setting s (step.set_offsets leader (connector_set call) (offsets_of (seen_now setting w call s) call)) (sets-may setting s f w call named is leader leads succeeds)
  written-runs leader leads succeeds restarts is = stays setting s

  has-written-runs : (t : Cluster) → HasWritten setting w call s t → Reaches setting s t
  has-written-runs t has = subst (λ (u : Cluster). Reaches setting s u) (sym has.is)
      (written-runs has.leader (ready-leads w has.leader s has.through) has.succeeds (deed_of call) refl)

-- ---- a call

module _ {D : Type 0} (G : Ghosts D) (start : Start) (w : ℕ) (call : Call) (named : HoldsName call) (old left : WorldState D) (answer : Result Reply WorldFault)
    (goes : GoesOn G start old) (alive : old.state.closed ≡ None) (holds : HoldAll G (stored_of old.state) old.logs) (f : AreFacts old.setting old.state) where
  have-names : HaveNames old.setting
  have-names = subst (λ (x : Setting). HaveNames x) (sym goes.setting) goes.names

  pub submits-on : Submits G w call old left answer → GoesOn G start left
  submits-on submits = ⊎_elim
      (λ (acts : Acts G (answers old.setting w call) old left answer). acts-on G start (answers old.setting w call) old left answer goes alive holds
      (answers-run old.setting old.state f w call named (call-written call named) have-names) (answers-lives old.setting w call old.state alive).unclosed acts)
      (λ (short : StopsShort G w call old left answer). opens-on G start old left goes (has-written-runs old.setting have-names old.state f w call named left.state short.state)
      (has-written-open old.setting w call old.state alive left.state short.state) short.keeps short.setting short.name)
      submits

-- ---- its entry

module _ {D : Type 0} (G : Ghosts D) (start : Start) (left : WorldState D) (entry : JournalEntry) (goes : GoesOn G start left) (may : MayJournal left.setting entry left.state) where
  -- the world behind it
  abbrev pub kept : WorldState D
  kept = record left { state = (journal entry left.state).1 }

  -- a disk that had failed
  broken-still : (disk : DiskName) (count : ℕ) → IsBroken G start left disk count → IsBroken G start kept disk count
  broken-still disk count b = record {
    before = b.before;
    next = b.next;
    log = b.log;
    before_reached = b.before_reached;
    next_reached = b.next_reached;
    same = b.same;
    apart = b.apart;
    left = b.left;
    others = b.others;
    count_is = b.count_is;
    rose = b.rose;
  }

  pub journal-on : GoesOn G start kept
  journal-on = record {
    names = goes.names;
    reached = goes_on start.setting start.state left.state (journal entry left.state).1 goes.reached
        (subst (λ (x : Setting). Reaches x left.state (journal entry left.state).1) goes.setting (makes left.setting left.state (step.journal entry) may));
    setting = goes.setting;
    name = goes.name;
    kinds = goes.kinds;
    tells = goes.tells;
    later = goes.later;
    broken = λ disk count is. broken-still disk count (goes.broken disk count is);
  }

-- it is kept, or nothing has changed
pub keeps-on : {D : Type 0} (G : Ghosts D) (start : Start) (left new : WorldState D) (entry : JournalEntry) (result : Result ReceiptState AllocError) → GoesOn G start left →
    MayJournal left.setting entry left.state → Keeps entry left new result → GoesOn G start new
keeps-on {D} G start left new entry (Ok receipt) goes may keeps = subst (λ (x : WorldState D). GoesOn G start x) (sym keeps.1) (journal-on G start left entry goes may)
keeps-on {D} G start left new entry (Err wanting) goes may keeps = subst (λ (x : WorldState D). GoesOn G start x) (sym keeps) goes

-- ---- a turn

module _ {D : Type 0} (G : Ghosts D) (w : ℕ) (call : Call) (old new : WorldState D) (result : Result ReceiptState AllocError)
    (f : AreFacts old.setting old.state) (live : (row_of w old.state).live ≡ true) where
  pub turn-on : (start : Start) → HoldsName call → old.state.closed ≡ None → HoldAll G (stored_of old.state) old.logs → IsTurn G w call old new result →
      GoesOn G start old → GoesOn G start new
  turn-on start named alive holds turn goes =
      let entry : JournalEntry = entry_of w call turn.answer old.state turn.left.state in
      keeps-on G start turn.left new entry result
      (submits-on G start w call named old turn.left turn.answer goes alive holds f turn.submits)
      (may-keep G w call old turn.left turn.answer f live turn.submits entry refl) turn.keeps

  -- in a closed world
  module _ (disk : DiskName) (count : ℕ) (closed : old.state.closed ≡ Some (disk, count)) where
    abbrev answer : Result Reply WorldFault
    answer = Err (Closed disk count)

    pub closed-submits : Submits G w call old old answer
    closed-submits = inl (does-acts G (answers old.setting w call) old old answer (record { row = closed-answers old.setting w call old.state (disk, count) closed; setting = refl; logs = refl; name = refl }))

    pub closed-may : (entry : JournalEntry) → entry ≡ entry_of w call answer old.state old.state → MayJournal old.setting entry old.state
    closed-may entry is = may-keep G w call old old answer f live closed-submits entry is

    pub closed-turn : Keeps (entry_of w call answer old.state old.state) old new result → IsTurn G w call old new result
    closed-turn keeps = record { left = old; answer = answer; submits = closed-submits; keeps = keeps }

    pub closed-on : (start : Start) → Keeps (entry_of w call answer old.state old.state) old new result → GoesOn G start old → GoesOn G start new
    closed-on start keeps goes = keeps-on G start old new (entry_of w call answer old.state old.state) result goes (closed-may _ refl) keeps
