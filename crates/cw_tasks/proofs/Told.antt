-- The event of a task's step, as the step does it and tells of it.
use Rattle.std.proofs.Common.{◌≡◌, ◌⊎◌, inl, inr, ⊎_elim, ℕ, List, Option, Some, None, Bool, true, false, Result, Ok, Err, refl, sym, ◌∙◌, ap, subst, if◌then◌else◌}
use Rattle.cw_types.specs.declared.logs.DiskName.{DiskName}
use Rattle.cw_types.specs.declared.logs.LogName.{LogName}
use Rattle.cw_disk.specs.declared.device.Disk.{Ghosts}
use Rattle.cw_model.specs.declared.did.Did.{Did}
use Rattle.cw_model.specs.declared.did.Did.TheVariants as did
use Rattle.cw_model.specs.declared.fault.WorldFault.{WorldFault}
use Rattle.cw_model.specs.declared.fault.WorldFault.TheVariants.{Fenced, StaleGeneration, PendingFence, BadCut, Gone, Full, StoreFault, Closed, Dead, Group, TooMany, Memory}
use Rattle.cw_model.specs.declared.instance.Trace.{Trace}
use Rattle.cw_model.specs.declared.instance.Trace.TheVariants as trace
use Rattle.cw_model.specs.State.{Cluster}
use Rattle.cw_model.specs.Answers.{Answer, answered, unless_closed}
use Rattle.cw_model.specs.EventsReports.{fail}
use Rattle.cw_model.specs.Lookups.{instance_of}
use Rattle.cw_model.specs.Phases.{is_ended}
use Rattle.cw_model.specs.Reopening.{stored_of}
use Rattle.cw_model.specs.StandsFor.{Stored}
use Rattle.cw_model.specs.Steps.{told, fails_if_fenced, tells}
use Rattle.cw_world.specs.Logs.{LogsState, HaveSameOthers, HasSameBodies, KeepsOn, AddsTo, LeavesNow, IsApart, view_in, list_in, faults_in}
use Rattle.cw_world.specs.World.{WorldState, Does, Acts, RunsOut, Breaks}
use Rattle.cw_world.specs.Write.{FailsOn}
use Rattle.cw_world.proofs.Acting.{does-acts, wants-acts}
use Rattle.cw_tasks.specs.Refused.{refuses}

-- ---- what a failure leaves in the logs

closed-stored : (o : Option (DiskName × ℕ)) (done : Answer (Unit {0})) (s : Cluster) → stored_of done.1 ≡ stored_of s →
    stored_of (unless_closed o done s).1 ≡ stored_of s
closed-stored None done s same = same
closed-stored (Some fault) done s same = refl

if-stored : (b : Bool) (done other : Answer (Unit {0})) (s : Cluster) → stored_of done.1 ≡ stored_of s → stored_of other.1 ≡ stored_of s →
    stored_of (if b then done else other).1 ≡ stored_of s
if-stored true done other s first second = first
if-stored false done other s first second = second

-- an instance that fails is written to no log
pub fail-stored : (i : ℕ) (why : Trace) (s : Cluster) → stored_of (fail i why s).1 ≡ stored_of s
fail-stored i why s = closed-stored s.closed _ s (if-stored (is_ended (instance_of i s).phase) _ _ s refl refl)

told-stored : (i : ℕ) (r : Result Did WorldFault) (s : Cluster) → stored_of (fails_if_fenced i r s) ≡ stored_of s
told-stored i (Ok (did.Init epoch)) s = refl
told-stored i (Ok (did.Verify generation)) s = refl
told-stored i (Ok did.Fetch) s = refl
told-stored i (Ok (did.Produce span)) s = refl
told-stored i (Ok did.Offsets) s = refl
told-stored i (Ok (did.Commit span)) s = refl
told-stored i (Ok (did.Deliver topic from to)) s = refl
told-stored i (Ok did.AtEnd) s = refl
told-stored i (Ok did.Paused) s = refl
told-stored i (Ok (did.Stale own current)) s = refl
told-stored i (Ok did.Pending) s = refl
told-stored i (Ok (did.Fenced own current)) s = fail-stored i (trace.Fenced own current) s
told-stored i (Ok (did.LineTooLong at)) s = refl
told-stored i (Ok did.Gone) s = refl
told-stored i (Ok did.Failed) s = refl
told-stored i (Err fault) s = refl

-- ---- a refusal is told whatever would have been done

told-refusal : {A : Type 0} (tell : A → Did) (fault : WorldFault) → told tell (Err fault) ≡ told (λ (done : Did). done) (Err fault)
told-refusal tell (Fenced own current) = refl
told-refusal tell (StaleGeneration own current) = refl
told-refusal tell PendingFence = refl
told-refusal tell (BadCut from to) = refl
told-refusal tell (Gone i) = refl
told-refusal tell (Full log length frame) = refl
told-refusal tell (StoreFault disk count) = refl
told-refusal tell (Closed disk count) = refl
told-refusal tell (Dead w) = refl
told-refusal tell (Group fault) = refl
told-refusal tell TooMany = refl
told-refusal tell Memory = refl

-- ---- the same world by another event

-- what a world does by an event it does by another that comes to the same
module _ {D A : Type 0} (G : Ghosts D) (event other : Cluster → Answer A) (old new : WorldState D) (result : Result A WorldFault)
    (is : other old.state ≡ event old.state) where
  broken-is : (log : LogName) → Breaks G log event old new result → Breaks G log other old new result
  broken-is log b = record {
    disk = b.disk;
    count = b.count;
    answer = b.answer;
    meant = b.meant;
    due = ap (λ (a : Answer A). a.0) is ∙ b.due;
    state = b.state;
    fails = b.fails;
    same = b.same;
    left = subst (λ (a : Answer A). (told : List (List ℕ)) → (view_in G log old.logs).bodies ≡ Some told →
        LeavesNow G log new.logs (λ list. (list ≡ list_in log (stored_of old.state)) ⊎ (list ≡ list_in log (stored_of a.1))))
        (sym is) b.left;
    apart = subst (λ (a : Answer A). IsApart log (stored_of old.state) (stored_of a.1)) (sym is) b.apart;
  }

  pub acts-is : Acts G event old new result → Acts G other old new result
  acts-is acts = record {
    log = acts.log;
    answers = ⊎_elim (λ (row : event old.state ≡ (result, new.state)). inl (is ∙ row))
        (λ (faults : RunsOut G acts.log old new result ⊎ Breaks G acts.log event old new result). inr (⊎_elim
        (λ (out : RunsOut G acts.log old new result). inl out)
        (λ (breaks : Breaks G acts.log event old new result). inr (broken-is acts.log breaks))
        faults))
        acts.answers;
    setting = acts.setting;
    name = acts.name;
    others = acts.others;
    keeps = acts.keeps;
    leaves = λ any. subst (λ (a : Answer A). (told : List (List ℕ)) → (view_in G any old.logs).bodies ≡ Some told →
        AddsTo G any old.logs new.logs (λ list. (list ≡ list_in any (stored_of old.state)) ⊎ (list ≡ list_in any (stored_of a.1))))
        (sym is) (acts.leaves any);
  }

-- ---- an event, and what the step tells of it

module _ {D A : Type 0} (G : Ghosts D) (i : ℕ) (event : Cluster → Answer A) (tell : A → Did) (old mid : WorldState D)
    (result : Result A WorldFault) (acts : Acts G event old mid result) where
  -- the world behind it, where the task may have failed
  record Tells (new : WorldState D) (answer : Result Did WorldFault) : Type 0 where
    tells : answer ≡ told tell result
    state : new.state ≡ fails_if_fenced i (told tell result) mid.state
    setting : new.setting ≡ mid.setting
    logs : new.logs ≡ mid.logs
    name : new.name ≡ mid.name

  module _ (new : WorldState D) (answer : Result Did WorldFault) (t : Tells new answer) where
    abbrev telling : Cluster → Answer Did
    telling s = tells i (event s) tell

    abbrev the_answer : Result Did WorldFault → Cluster → Answer Did
    the_answer r s = (r, s)

    same-told : HasSameBodies (view_in G acts.log old.logs) (view_in G acts.log mid.logs) →
        HasSameBodies (view_in G acts.log old.logs) (view_in G acts.log new.logs)
    same-told = subst (λ (l : LogsState D). HasSameBodies (view_in G acts.log old.logs) (view_in G acts.log l)) (sym t.logs)

    -- it is the state behind the event, where that is no failure
    same-state : (fault : WorldFault) → result ≡ Err fault → fails_if_fenced i (told tell (Err fault)) mid.state ≡ mid.state → new.state ≡ mid.state
    same-state fault is same = t.state ∙ ap (λ (r : Result A WorldFault). fails_if_fenced i (told tell r) mid.state) is ∙ same

    done : event old.state ≡ (result, mid.state) → telling old.state ≡ (answer, new.state)
    done row = ap (λ (a : Answer A). tells i a tell) row ∙
        ap (λ (r : Result Did WorldFault). the_answer r (fails_if_fenced i (told tell result) mid.state)) (sym t.tells) ∙
        ap (the_answer answer) (sym t.state)

    out : RunsOut G acts.log old mid result → RunsOut G acts.log old new answer
    out o = record {
      answer = t.tells ∙ ap (told tell) o.answer;
      state = same-state Memory o.answer refl ∙ o.state;
      same = same-told o.same;
    }

    broken : Breaks G acts.log event old mid result → Breaks G acts.log telling old new answer
    broken b = record {
      disk = b.disk;
      count = b.count;
      answer = t.tells ∙ ap (told tell) b.answer;
      meant = tell b.meant;
      due = ap (told tell) b.due;
      state = same-state (StoreFault b.disk b.count) b.answer refl ∙ b.state;
      fails = subst (λ (l : LogsState D). FailsOn acts.log (faults_in G acts.log old.logs) (faults_in G acts.log l) b.disk b.count) (sym t.logs) b.fails;
      same = same-told b.same;
      left = λ bodies told-is.
          subst (λ (l : LogsState D). LeavesNow G acts.log l (λ list. (list ≡ list_in acts.log (stored_of old.state)) ⊎ (list ≡ list_in acts.log (stored_of (telling old.state).1)))) (sym t.logs)
          (subst (λ (stored : Stored). LeavesNow G acts.log mid.logs (λ list. (list ≡ list_in acts.log (stored_of old.state)) ⊎ (list ≡ list_in acts.log stored)))
          (sym (told-stored i (told tell (event old.state).0) (event old.state).1)) (b.left bodies told-is));
      apart = subst (λ (stored : Stored). IsApart acts.log (stored_of old.state) stored)
          (sym (told-stored i (told tell (event old.state).0) (event old.state).1)) b.apart;
    }

    leaves-told : (any : LogName) (bodies : List (List ℕ)) → (view_in G any old.logs).bodies ≡ Some bodies →
        AddsTo G any old.logs new.logs (λ list. (list ≡ list_in any (stored_of old.state)) ⊎ (list ≡ list_in any (stored_of (telling old.state).1)))
    leaves-told any bodies is =
        subst (λ (l : LogsState D). AddsTo G any old.logs l (λ list. (list ≡ list_in any (stored_of old.state)) ⊎ (list ≡ list_in any (stored_of (telling old.state).1)))) (sym t.logs)
        (subst (λ (stored : Stored). AddsTo G any old.logs mid.logs (λ list. (list ≡ list_in any (stored_of old.state)) ⊎ (list ≡ list_in any stored)))
        (sym (told-stored i (told tell (event old.state).0) (event old.state).1)) (acts.leaves any bodies is))

    keeps-told : (any : LogName) → KeepsOn (view_in G any old.logs) (view_in G any new.logs) (faults_in G any old.logs) (faults_in G any new.logs)
    keeps-told any = subst (λ (l : LogsState D). KeepsOn (view_in G any old.logs) (view_in G any l) (faults_in G any old.logs) (faults_in G any l)) (sym t.logs) (acts.keeps any)

    acts-told : Acts G telling old new answer
    acts-told = record {
      log = acts.log;
      answers = ⊎_elim (λ (row : event old.state ≡ (result, mid.state)). inl (done row))
          (λ (faults : RunsOut G acts.log old mid result ⊎ Breaks G acts.log event old mid result). inr (⊎_elim
          (λ (o : RunsOut G acts.log old mid result). inl (out o))
          (λ (b : Breaks G acts.log event old mid result). inr (broken b))
          faults))
          acts.answers;
      setting = t.setting ∙ acts.setting;
      name = t.name ∙ acts.name;
      others = subst (λ (l : LogsState D). HaveSameOthers acts.log old.logs l) (sym t.logs) acts.others;
      leaves = leaves-told;
      keeps = keeps-told;
    }

  -- it was done
  pub done-acts : (x : A) (answer : Did) → result ≡ Ok x → answer ≡ tell x → fails_if_fenced i (Ok (tell x)) mid.state ≡ mid.state →
      Acts G (λ s. tells i (event s) tell) old mid (Ok answer)
  done-acts x answer is telling same = acts-told mid (Ok answer) (record {
    tells = ap (λ (d : Did). Ok d) telling ∙ sym (ap (told tell) is);
    state = sym same ∙ sym (ap (λ (r : Result A WorldFault). fails_if_fenced i (told tell r) mid.state) is);
    setting = refl;
    logs = refl;
    name = refl;
  })

  -- it was refused
  pub refused-acts : (new : WorldState D) (fault : WorldFault) (answer : Result Did WorldFault) → result ≡ Err fault →
      Does (refuses i fault) mid new answer → Acts G (λ s. tells i (event s) tell) old new answer
  refused-acts new fault answer is does =
      let telling : told tell result ≡ told (λ (done : Did). done) (Err fault) = ap (told tell) is ∙ told-refusal tell fault in
      acts-told new answer (record {
        tells = sym (ap (λ (a : Answer Did). a.0) does.row) ∙ sym telling;
        state = sym (ap (λ (a : Answer Did). a.1) does.row) ∙ sym (ap (λ (r : Result Did WorldFault). fails_if_fenced i r mid.state) telling);
        setting = does.setting;
        logs = does.logs;
        name = does.name;
      })

-- ---- nothing was done

module _ {D A : Type 0} (G : Ghosts D) (event : Cluster → Answer A) (old : WorldState D) where
  pub idle : (answer : A) → event old.state ≡ answered answer old.state → Acts G event old old (Ok answer)
  idle answer is = does-acts G event old old (Ok answer) (record { row = is; setting = refl; name = refl; logs = refl })

  pub out-of-memory : Acts G event old old (Err Memory)
  out-of-memory = wants-acts G event old old (Err Memory) (record { done = λ n. absurd (n refl); wants = λ e. refl; setting = refl; name = refl; logs = refl })
