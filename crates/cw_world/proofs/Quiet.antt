-- An event that touches no log leaves a world with all facts, by its law.
use Rattle.std.proofs.Common.{◌≡◌, sym, ◌∙◌, subst, refl, Result, Ok, Err}
use Rattle.cw_disk.specs.declared.device.Disk.{Ghosts}
use Rattle.cw_model.specs.declared.fault.WorldFault.{WorldFault}
use Rattle.cw_model.specs.declared.fault.WorldFault.TheVariants.{Fenced, StaleGeneration, PendingFence, BadCut, Gone, Full, StoreFault, Closed, Dead, Group, TooMany, Memory}
use Rattle.cw_model.specs.State.{Setting, Cluster}
use Rattle.cw_model.specs.Answers.{Answer}
use Rattle.cw_model.specs.Facts.{AreFacts}
use Rattle.cw_model.specs.StandsFor.{Stored}
use Rattle.cw_laws.specs.Laws.{Keeps}
use Rattle.cw_rows.specs.Kept.{Kept, HasSameLogs, Is, IsOrWants}
use Rattle.cw_world.specs.Logs.{LogsState, HoldAll, AreSides}
use Rattle.cw_world.specs.World.{IsWorld}
use Rattle.cw_world.proofs.Holding.{stored-same}

module _ {D : Type 0} (G : Ghosts D) (logs : LogsState D) where
  -- the logs hold what stood in them
  stays : (setting : Setting) (old new : Cluster) → AreFacts setting new → HasSameLogs old new → IsWorld G setting old logs →
      IsWorld G setting new logs
  stays setting old new facts same world = record {
    facts = facts;
    holds = λ alive. subst (λ (stored : Stored). HoldAll G stored logs) (sym (stored-same old new same)) (world.holds (sym same.closed ∙ alive));
    sides = λ alive. subst (λ (stored : Stored). AreSides stored logs) (sym (stored-same old new same)) (world.sides (sym same.closed ∙ alive));
  }

  -- an event that is done, or is refused
  pub quiet-keeps : {A : Type 0} (event : Cluster → Answer A) (old new : Kept) (result : Result A WorldFault) →
      Keeps old.setting old.state (event old.state) → Is event old new result → IsWorld G old.setting old.state logs →
      IsWorld G new.setting new.state logs
  quiet-keeps {A} event old new result law is world =
      subst (λ (setting : Setting). IsWorld G setting new.state logs) (sym is.setting)
      (stays old.setting old.state new.state (subst (λ (a : Answer A). AreFacts old.setting a.1) is.row (law world.facts)) is.logs world)

  -- what an event leaves is what its row says
  facts-behind : {A : Type 0} (event : Cluster → Answer A) (old new : Kept) (result : Result A WorldFault) →
      AreFacts old.setting (event old.state).1 → event old.state ≡ (result, new.state) → AreFacts old.setting new.state
  facts-behind {A} event old new result facts row = subst (λ (a : Answer A). AreFacts old.setting a.1) row facts

  -- the same of one that may want memory
  wants-keeps : {A : Type 0} (event : Cluster → Answer A) (old new : Kept) (result : Result A WorldFault) →
      AreFacts old.setting (event old.state).1 → AreFacts old.setting old.state → IsOrWants event old new result →
      AreFacts old.setting new.state
  wants-keeps event old new (Ok a) behind before is = facts-behind event old new (Ok a) behind (is.done (λ e. cc))
  wants-keeps event old new (Err Memory) behind before is = subst (λ (s : Cluster). AreFacts old.setting s) (sym (is.wants refl)) before
  wants-keeps event old new (Err (Fenced own current)) behind before is = facts-behind event old new (Err (Fenced own current)) behind (is.done (λ e. cc))
  wants-keeps event old new (Err (StaleGeneration own current)) behind before is = facts-behind event old new (Err (StaleGeneration own current)) behind (is.done (λ e. cc))
  wants-keeps event old new (Err PendingFence) behind before is = facts-behind event old new (Err PendingFence) behind (is.done (λ e. cc))
  wants-keeps event old new (Err (BadCut from to)) behind before is = facts-behind event old new (Err (BadCut from to)) behind (is.done (λ e. cc))
  wants-keeps event old new (Err (Gone i)) behind before is = facts-behind event old new (Err (Gone i)) behind (is.done (λ e. cc))
  wants-keeps event old new (Err (Full log size frame)) behind before is = facts-behind event old new (Err (Full log size frame)) behind (is.done (λ e. cc))
  wants-keeps event old new (Err (StoreFault disk count)) behind before is = facts-behind event old new (Err (StoreFault disk count)) behind (is.done (λ e. cc))
  wants-keeps event old new (Err (Closed disk count)) behind before is = facts-behind event old new (Err (Closed disk count)) behind (is.done (λ e. cc))
  wants-keeps event old new (Err (Dead w)) behind before is = facts-behind event old new (Err (Dead w)) behind (is.done (λ e. cc))
  wants-keeps event old new (Err (Group fault)) behind before is = facts-behind event old new (Err (Group fault)) behind (is.done (λ e. cc))
  wants-keeps event old new (Err TooMany) behind before is = facts-behind event old new (Err TooMany) behind (is.done (λ e. cc))

  pub wanting-keeps : {A : Type 0} (event : Cluster → Answer A) (old new : Kept) (result : Result A WorldFault) →
      Keeps old.setting old.state (event old.state) → IsOrWants event old new result → IsWorld G old.setting old.state logs →
      IsWorld G new.setting new.state logs
  wanting-keeps event old new result law is world =
      subst (λ (setting : Setting). IsWorld G setting new.state logs) (sym is.setting)
      (stays old.setting old.state new.state (wants-keeps event old new result (law world.facts) world.facts is) is.logs world)
