-- An event that answers otherwise than the one that was made, as a tick tells of its event.
use Rattle.std.proofs.Common.{◌≡◌, ◌⊎◌, inl, inr, ⊎_elim, ℕ, List, Some, Result, Ok, Err, sym, ◌∙◌, ap, subst}
use Rattle.cw_types.specs.declared.logs.DiskName.{DiskName}
use Rattle.cw_types.specs.declared.logs.LogName.{LogName}
use Rattle.cw_disk.specs.declared.device.Disk.{Ghosts}
use Rattle.cw_model.specs.declared.fault.WorldFault.{WorldFault}
use Rattle.cw_model.specs.declared.fault.WorldFault.TheVariants.{StoreFault, Memory}
use Rattle.cw_model.specs.State.{Cluster}
use Rattle.cw_model.specs.Answers.{Answer}
use Rattle.cw_model.specs.Reopening.{stored_of}
use Rattle.cw_world.specs.Logs.{AddsTo, LeavesNow, IsApart, view_in, list_in}
use Rattle.cw_world.specs.World.{WorldState, Acts, RunsOut, Breaks}

-- what another event answers where one answers this
pub record AnswersAs {A B : Type 0} (event : Answer A) (other : Answer B) (result : Result A WorldFault)
    (answer : Result B WorldFault) (t : Cluster) : Type 0 where
  pub state : other.1 ≡ event.1
  pub done : event ≡ (result, t) → other.0 ≡ answer
  pub wants : result ≡ Err Memory → answer ≡ Err Memory
  pub fails : (disk : DiskName) (count : ℕ) → result ≡ Err (StoreFault disk count) → answer ≡ Err (StoreFault disk count)
  pub due : (x : A) → event.0 ≡ Ok x → (y : B) × (other.0 ≡ Ok y)

module _ {D A B : Type 0} (G : Ghosts D) (event : Cluster → Answer A) (other : Cluster → Answer B) (old new : WorldState D)
    (result : Result A WorldFault) (answer : Result B WorldFault)
    (otherwise : AnswersAs (event old.state) (other old.state) result answer new.state) where
  abbrev answering : Result B WorldFault → Cluster → Answer B
  answering r t = (r, t)

  both : (a : Answer B) (r : Result B WorldFault) (t : Cluster) → a.0 ≡ r → a.1 ≡ t → a ≡ (r, t)
  both a r t is state = ap (λ (x : Result B WorldFault). answering x a.1) is ∙ ap (answering r) state

  broken : (log : LogName) → Breaks G log event old new result → Breaks G log other old new answer
  broken log b =
      let due = otherwise.due b.meant b.due in
      record {
        disk = b.disk;
        count = b.count;
        answer = otherwise.fails b.disk b.count b.answer;
        meant = due.0;
        due = due.1;
        state = b.state;
        fails = b.fails;
        same = b.same;
        left = subst (λ (t : Cluster). (told : List (List ℕ)) → (view_in G log old.logs).bodies ≡ Some told →
            LeavesNow G log new.logs (λ list. (list ≡ list_in log (stored_of old.state)) ⊎ (list ≡ list_in log (stored_of t))))
            (sym otherwise.state) b.left;
        apart = subst (λ (t : Cluster). IsApart log (stored_of old.state) (stored_of t)) (sym otherwise.state) b.apart;
      }

  pub acts-as : Acts G event old new result → Acts G other old new answer
  acts-as acts = record {
    answers = ⊎_elim
        (λ (row : event old.state ≡ (result, new.state)). inl (both (other old.state) answer new.state (otherwise.done row)
        (otherwise.state ∙ ap (λ (a : Answer A). a.1) row)))
        (λ (faults : RunsOut G acts.log old new result ⊎ Breaks G acts.log event old new result). inr (⊎_elim
        (λ (out : RunsOut G acts.log old new result). inl (record { answer = otherwise.wants out.answer; state = out.state; same = out.same }))
        (λ (breaks : Breaks G acts.log event old new result). inr (broken acts.log breaks))
        faults))
        acts.answers;
    log = acts.log;
    setting = acts.setting;
    name = acts.name;
    others = acts.others;
    keeps = acts.keeps;
    leaves = λ log. subst (λ (t : Cluster). (told : List (List ℕ)) → (view_in G log old.logs).bodies ≡ Some told →
        AddsTo G log old.logs new.logs (λ list. (list ≡ list_in log (stored_of old.state)) ⊎ (list ≡ list_in log (stored_of t))))
        (sym otherwise.state) (acts.leaves log);
  }
