-- The event of a worker's tick, as the tick does it and tells of it.
use Rattle.std.proofs.Common.{◌≡◌, ℕ, Bool, true, Some, Result, Ok, Err, refl, sym, ◌∙◌, ap, if◌then◌else◌}
use Rattle.cw_types.specs.declared.logs.LogName.{LogName}
use Rattle.cw_disk.specs.declared.device.Disk.{Ghosts}
use Rattle.cw_model.specs.declared.fault.WorldFault.{WorldFault}
use Rattle.cw_model.specs.declared.fault.WorldFault.TheVariants.{Memory}
use Rattle.cw_model.specs.declared.tick.Tick.{Tick}
use Rattle.cw_model.specs.declared.tick.Tick.TheVariants as outcome
use Rattle.cw_model.specs.State.{Cluster}
use Rattle.cw_model.specs.Answers.{Answer, answered}
use Rattle.cw_model.specs.Lookups.{row_of}
use Rattle.cw_model.specs.TickRules.{Rule, tells, told, or_lost, unless_lost}
use Rattle.cw_model.specs.Tick.{rule_for, follows, tick}
use Rattle.cw_world.specs.World.{WorldState, Does, DoesOrWants, Writes, Acts}
use Rattle.cw_world.proofs.Acting.{does-acts, wants-acts, writes-acts}
use Rattle.cw_herder.proofs.Acted.{AnswersAs, acts-as}

-- a worker that lives follows its rule
pub ticks : (w : ℕ) (s : Cluster) (does : Answer Tick) → (row_of w s).live ≡ true → rule_for w s ≡ Some (λ _. does) → tick w s ≡ does
ticks w s does live rule =
    ap (λ (b : Bool). if b then follows (rule_for w s) s else answered outcome.Dead s) live ∙ ap (λ (r : Rule). follows r s) rule

-- what a tick that lost its lead answers
lost-due : (x : Tick) (r : Result Tick WorldFault) → r ≡ Ok x → or_lost r ≡ Ok x
lost-due x r is = ap or_lost is

module _ {A : Type 0} (event : Answer A) (tell : A → Cluster → Tick) (result : Result A WorldFault) (t : Cluster) where
  -- it tells what was done
  tells-as : (does : Answer Tick) (answer : Result Tick WorldFault) → does ≡ tells event tell → answer ≡ told result (λ x. tell x t) →
      AnswersAs event does result answer t
  tells-as does answer is telling = record {
    state = ap (λ (a : Answer Tick). a.1) is;
    done = λ row. ap (λ (a : Answer Tick). a.0) is ∙ ap (λ (a : Answer A). told a.0 (λ x. tell x a.1)) row ∙ sym telling;
    wants = λ e. telling ∙ ap (λ (r : Result A WorldFault). told r (λ x. tell x t)) e;
    fails = λ disk count e. telling ∙ ap (λ (r : Result A WorldFault). told r (λ x. tell x t)) e;
    due = λ x e. (tell x event.1, ap (λ (a : Answer Tick). a.0) is ∙ ap (λ (r : Result A WorldFault). told r (λ y. tell y event.1)) e);
  }

  -- the same of one that may lose its lead
  lost-as : (does : Answer Tick) (answer : Result Tick WorldFault) → does ≡ unless_lost (tells event tell) →
      answer ≡ or_lost (told result (λ x. tell x t)) → AnswersAs event does result answer t
  lost-as does answer is telling = record {
    state = ap (λ (a : Answer Tick). a.1) is;
    done = λ row. ap (λ (a : Answer Tick). a.0) is ∙ ap (λ (a : Answer A). or_lost (told a.0 (λ x. tell x a.1))) row ∙ sym telling;
    wants = λ e. telling ∙ ap (λ (r : Result A WorldFault). or_lost (told r (λ x. tell x t))) e;
    fails = λ disk count e. telling ∙ ap (λ (r : Result A WorldFault). or_lost (told r (λ x. tell x t))) e;
    due = λ x e. (
      tell x event.1,
      ap (λ (a : Answer Tick). a.0) is ∙
          ap (λ (r : Result A WorldFault). or_lost (told r (λ y. tell y event.1))) e,
    );
  }

module _ {D A : Type 0} (G : Ghosts D) (event : Cluster → Answer A) (tell : A → Cluster → Tick) (w : ℕ) (old new : WorldState D)
    (result : Result A WorldFault) (answer : Result Tick WorldFault) (live : (row_of w old.state).live ≡ true) where
  module _ (rule : rule_for w old.state ≡ Some (λ _. tells (event old.state) tell))
      (telling : answer ≡ told result (λ x. tell x new.state)) where
    acts : Acts G event old new result → Acts G (tick w) old new answer
    acts = acts-as G event (tick w) old new result answer (tells-as (event old.state) tell result new.state (tick w old.state) answer
        (ticks w old.state (tells (event old.state) tell) live rule) telling)

    pub does-tick : Does event old new result → Acts G (tick w) old new answer
    does-tick does = acts (does-acts G event old new result does)

    pub wants-tick : DoesOrWants event old new result → Acts G (tick w) old new answer
    wants-tick does = acts (wants-acts G event old new result does)

    pub writes-tick : (log : LogName) → Writes G log event old new result → Acts G (tick w) old new answer
    writes-tick log writes = acts (writes-acts G event old new log result writes)

  pub asked-tick : rule_for w old.state ≡ Some (λ _. unless_lost (tells (event old.state) tell)) →
      answer ≡ or_lost (told result (λ x. tell x new.state)) → Acts G event old new result → Acts G (tick w) old new answer
  asked-tick rule telling done = acts-as G event (tick w) old new result answer
      (lost-as (event old.state) tell result new.state (tick w old.state) answer
      (ticks w old.state (unless_lost (tells (event old.state) tell)) live rule) telling) done

-- nothing was done
module _ {D : Type 0} (G : Ghosts D) (w : ℕ) (old : WorldState D) where
  pub idle : (answer : Tick) → tick w old.state ≡ answered answer old.state → Acts G (tick w) old old (Ok answer)
  idle answer is = does-acts G (tick w) old old (Ok answer) (record { row = is; setting = refl; name = refl; logs = refl })

  pub out-of-memory : Acts G (tick w) old old (Err Memory)
  out-of-memory = wants-acts G (tick w) old old (Err Memory) (record { done = λ n. absurd (n refl); wants = λ e. refl; setting = refl; name = refl; logs = refl })
