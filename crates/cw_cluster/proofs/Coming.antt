-- What an event of the world comes to, as the event of a directive.
use Rattle.std.proofs.Common.{◌≡◌, Result, Ok, Err, refl, sym, ap, ◌∙◌, subst}
use Rattle.cw_disk.specs.declared.device.Disk.{Ghosts}
use Rattle.cw_types.specs.declared.logs.LogName.{LogName}
use Rattle.cw_model.specs.declared.fault.WorldFault.{WorldFault}
use Rattle.cw_model.specs.declared.fault.WorldFault.TheVariants.{Memory}
use Rattle.cw_model.specs.State.{Cluster}
use Rattle.cw_model.specs.Answers.{Answer, answered}
use Rattle.cw_world.specs.World.{WorldState, Does, DoesOrWants, Writes, Acts}
use Rattle.cw_world.proofs.Acting.{does-acts, wants-acts, writes-acts}
use Rattle.cw_herder.proofs.Acted.{AnswersAs, acts-as}
use Rattle.cw_cluster.specs.declared.outcome.Outcome.{Outcome}
use Rattle.cw_cluster.specs.Events.{IsLook, came_to, comes_to}

module _ {D A : Type 0} (G : Ghosts D) (event : Cluster → Answer A) (other : Cluster → Answer Outcome) (outcome : A → Outcome)
    (old new : WorldState D) (result : Result A WorldFault) (answer : Result Outcome WorldFault)
    (same : other old.state ≡ comes_to outcome (event old.state)) (is : answer ≡ came_to outcome result) where
  comes-as : AnswersAs (event old.state) (other old.state) result answer new.state
  comes-as = record {
    state = ap (λ (a : Answer Outcome). a.1) same;
    done = λ row. ap (λ (a : Answer Outcome). a.0) same ∙ ap (λ (a : Answer A). came_to outcome a.0) row ∙ sym is;
    wants = λ e. is ∙ ap (came_to outcome) e;
    fails = λ disk count e. is ∙ ap (came_to outcome) e;
    due = λ x e. (outcome x, ap (λ (a : Answer Outcome). a.0) same ∙ ap (came_to outcome) e);
  }

  pub acts-comes : Acts G event old new result → Acts G other old new answer
  acts-comes acts = acts-as G event other old new result answer comes-as acts

  pub does-comes : Does event old new result → Acts G other old new answer
  does-comes does = acts-comes (does-acts G event old new result does)

  pub wants-comes : DoesOrWants event old new result → Acts G other old new answer
  wants-comes does = acts-comes (wants-acts G event old new result does)

  pub writes-comes : (log : LogName) → Writes G log event old new result → Acts G other old new answer
  writes-comes log writes = acts-comes (writes-acts G event old new log result writes)

-- nothing was done
module _ {D : Type 0} (G : Ghosts D) (event : Cluster → Answer Outcome) (old : WorldState D) where
  pub looked : (outcome : Outcome) → event old.state ≡ answered outcome old.state → Acts G event old old (Ok outcome)
  looked outcome is = does-acts G event old old (Ok outcome) (record { row = is; setting = refl; name = refl; logs = refl })

  pub out-of-memory : Acts G event old old (Err Memory)
  out-of-memory = wants-acts G event old old (Err Memory) (record { done = λ n. absurd (n refl); wants = λ e. refl; setting = refl; name = refl; logs = refl })

  pub looks-acts : (meant : Outcome) (result : Result Outcome WorldFault) → event old.state ≡ answered meant old.state → IsLook meant result →
      Acts G event old old result
  looks-acts meant (Ok outcome) is look = looked outcome (is ∙ ap (λ (o : Outcome). answered o old.state) (sym look))
  looks-acts meant (Err fault) is look = subst (λ (f : WorldFault). Acts G event old old (Err f)) (sym look) out-of-memory
