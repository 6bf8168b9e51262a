-- What a request does is a run: the event of its call, which may be made, and then the asked worker's reading; or
-- nothing.
use Rattle.std.proofs.Common.{◌≡◌, ℕ, Bool, true, false, Option, Some, None, IsSome, length, Result, Ok, Err, if◌then◌else◌, refl, subst}
use Rattle.std.proofs.Math.Seq.{take-length}
use Rattle.std.specs.List.{AllByRecursion}
use Rattle.cw_types.specs.Name.{IsName}
use Rattle.cw_types.specs.declared.ids.Item.{Item}
use Rattle.cw_types.specs.declared.logs.DiskName.{DiskName}
use Rattle.cw_io.specs.Shelf.{names_of}
use Rattle.cw_txn.specs.Body.{IsEntry}
use Rattle.cw_route.specs.HeldNames.{HoldsName}
use Rattle.cw_route.specs.declared.call.Call.{Call}
use Rattle.cw_rest.specs.Calls.{Deed, reads, reads_configs, writes_configs, writes_offsets, restarts, deed_of, is_reading}
use Rattle.cw_rest.specs.Replies.{values_of, offsets_of, connector_set}
use Rattle.cw_model.specs.declared.fault.WorldFault.{WorldFault}
use Rattle.cw_model.specs.declared.fault.WorldFault.TheVariants as fault
use Rattle.cw_model.specs.State.{Setting, Cluster}
use Rattle.cw_model.specs.Facts.{AreFacts}
use Rattle.cw_model.specs.Answers.{Answer, refused, answered, unless_closed}
use Rattle.cw_model.specs.Lookups.{row_of}
use Rattle.cw_model.specs.EventsItems.{read_config}
use Rattle.cw_model.specs.EventsLeading.{append_config, set_offsets, MayAppendConfig, MaySetOffsets}
use Rattle.cw_model.specs.Journal.{is_success}
use Rattle.cw_model.specs.Ready.{ready}
use Rattle.cw_model.specs.Runs as step
use Rattle.cw_laws.proofs.Proposed.{ready-leads}
use Rattle.cw_edges.specs.Requests.{seen_now, reply_now, would_succeed, behind_write, writes, item_of, restarted, answers_by, answers}
use Rattle.cw_run.specs.Reaches.{Reaches}
use Rattle.cw_run.proofs.Altering.{offsets-may}
use Rattle.cw_run.proofs.Reaching.{stays, makes, goes_on}
use Rattle.cw_run.proofs.Writing.{CanBeWritten, values-may}
use Rattle.cw_laws.proofs.CallOffsets.{frames-entries}

module _ (setting : Setting) (s : Cluster) (f : AreFacts setting s) (w : ℕ) (call : Call) where
  -- behind an event that writes
  behind-run : {A : Type 0} (result : Result A WorldFault) (t : Cluster) → Reaches setting s t → Reaches setting s (behind_write setting w call s result t).1
  behind-run (Ok x) t reached = goes_on setting s t (read_config w t).1 reached (makes setting t (step.read_config w) tt)
  behind-run (Err (fault.Full log length frame)) t reached = stays setting s
  behind-run (Err (fault.Fenced own current)) t reached = reached
  behind-run (Err (fault.StaleGeneration own current)) t reached = reached
  behind-run (Err fault.PendingFence) t reached = reached
  behind-run (Err (fault.BadCut from to)) t reached = reached
  behind-run (Err (fault.Gone i)) t reached = reached
  behind-run (Err (fault.StoreFault disk count)) t reached = reached
  behind-run (Err (fault.Closed disk count)) t reached = reached
  behind-run (Err (fault.Dead v)) t reached = reached
  behind-run (Err (fault.Group cause)) t reached = reached
  behind-run (Err fault.TooMany) t reached = reached
  behind-run (Err fault.Memory) t reached = reached

  writes-run : {A : Type 0} (event : ℕ → Cluster → Answer A) → ((leader : ℕ) → IsSome (row_of leader s).lead → would_succeed setting w call s ≡ true → Reaches setting s (event leader s).1) →
      (o : Option ℕ) → ready w s ≡ o → Reaches setting s (writes setting w call o event s).1
  writes-run event each None is = stays setting s
  writes-run event each (Some leader) is = at (would_succeed setting w call s) refl where
    at : (b : Bool) → would_succeed setting w call s ≡ b →
        Reaches setting s (if b then behind_write setting w call s (event leader s).0 (event leader s).1 else answered (reply_now setting w call s) s).1
    at true succeeds = behind-run (event leader s).0 (event leader s).1 (each leader (ready-leads w leader s is) succeeds)
    at false fails = stays setting s

  restarted-run : (o : Option Item) → Reaches setting s (restarted w o s)
  restarted-run None = stays setting s
  restarted-run (Some item) = makes setting s (step.restart w item) tt

  -- a call that writes sees all configs
  sees-all : is_reading (deed_of call) ≡ false → (seen_now setting w call s).configs ≡ s.configs
  sees-all writing = rw writing (take-length s.configs)

  -- its events may be made
  entries-written : AllByRecursion IsEntry s.entries
  entries-written = subst (AllByRecursion IsEntry) f.logs.all_entries (frames-entries s.txn f.logs.written.txn)

  pub configs-may : HoldsName call → CanBeWritten call → AllByRecursion IsName (names_of setting.feeds) → deed_of call ≡ writes_configs → (leader : ℕ) → IsSome (row_of leader s).lead → would_succeed setting w call s ≡ true →
      MayAppendConfig leader (values_of call) s
  configs-may named fit feeds is leader leads succeeds = values-may leader s leads (seen_now setting w call s) feeds call is named fit succeeds

  pub sets-may : HoldsName call → deed_of call ≡ writes_offsets → (leader : ℕ) → IsSome (row_of leader s).lead → would_succeed setting w call s ≡ true →
      MaySetOffsets leader (connector_set call) (offsets_of (seen_now setting w call s) call) s
  sets-may named is leader leads succeeds = offsets-may leader s leads (seen_now setting w call s) (sees-all (rw is refl)) entries-written call is named succeeds

  by-run : HoldsName call → CanBeWritten call → AllByRecursion IsName (names_of setting.feeds) → (deed : Deed) → deed_of call ≡ deed → Reaches setting s (answers_by setting w call deed s).1
  by-run named fit feeds reads is = stays setting s
  by-run named fit feeds reads_configs is = stays setting s
  by-run named fit feeds writes_configs is = writes-run (λ leader. append_config leader (values_of call)) (λ leader leads succeeds.
      makes setting s (step.append_config leader (values_of call)) (configs-may named fit feeds is leader leads succeeds)) (ready w s) refl
  by-run named fit feeds writes_offsets is = writes-run (λ leader. set_offsets leader (connector_set call) (offsets_of (seen_now setting w call s) call)) (λ leader leads succeeds.
      makes setting s (step.set_offsets leader (connector_set call) (offsets_of (seen_now setting w call s) call)) (sets-may named is leader leads succeeds)) (ready w s) refl
  by-run named fit feeds restarts is = at (is_success (reply_now setting w call s)) where
    at : (b : Bool) → Reaches setting s (answered (reply_now setting w call s) (if b then restarted w (item_of call) s else s)).1
    at true = restarted-run (item_of call)
    at false = stays setting s

  pub answers-run : HoldsName call → CanBeWritten call → AllByRecursion IsName (names_of setting.feeds) → Reaches setting s (answers setting w call s).1
  answers-run named fit feeds = at s.closed where
    alive : (b : Bool) → Reaches setting s (if b then answers_by setting w call (deed_of call) s else refused (fault.Dead w) s).1
    alive true = by-run named fit feeds (deed_of call) refl
    alive false = stays setting s

    at : (closed : Option (DiskName × ℕ)) → Reaches setting s (unless_closed closed (if (row_of w s).live then answers_by setting w call (deed_of call) s else refused (fault.Dead w) s) s).1
    at None = alive (row_of w s).live
    at (Some disk) = stays setting s
