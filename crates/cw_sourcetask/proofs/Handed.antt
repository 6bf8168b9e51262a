-- A step that was handed what its poll takes is the event of its phase, unless its task waits.
use Rattle.std.proofs.Common.{◌≡◌, ◌≢◌, ℕ, Bool, true, false, refl, ap, if◌then◌else◌}
use Rattle.cw_feed.specs.declared.cut.CutAnswer.{CutAnswer}
use Rattle.cw_model.specs.declared.did.Did.TheVariants as did
use Rattle.cw_model.specs.declared.instance.InstancePhase.{InstancePhase}
use Rattle.cw_model.specs.declared.instance.InstancePhase.TheVariants as phase
use Rattle.cw_model.specs.State.{Setting, Cluster}
use Rattle.cw_model.specs.Answers.{answered}
use Rattle.cw_model.specs.Lookups.{instance_of}
use Rattle.cw_model.specs.Steps.{does, waits}
use Rattle.cw_sourcetask.specs.Sourced.{source_does, source_step}

module _ (setting : Setting) (i : ℕ) (s : Cluster) (turn : ℕ) (found : CutAnswer) where
  pub handed-waits : waits (instance_of i s) s ≡ true → source_step setting i turn found s ≡ answered did.Paused s
  handed-waits is = ap (λ (b : Bool). if b then answered did.Paused s else source_does setting i turn found s (instance_of i s).phase) is

  pub handed-does : waits (instance_of i s) s ≡ false →
      source_step setting i turn found s ≡ source_does setting i turn found s (instance_of i s).phase
  handed-does is = ap (λ (b : Bool). if b then answered did.Paused s else source_does setting i turn found s (instance_of i s).phase) is

  pub handed-in : (p : InstancePhase) → (instance_of i s).phase ≡ p →
      source_does setting i turn found s (instance_of i s).phase ≡ source_does setting i turn found s p
  handed-in p is = ap (source_does setting i turn found s) is

  -- what was handed is looked at in Polling alone
  pub elsewhere : (p : InstancePhase) → p ≢ phase.Polling → source_does setting i turn found s p ≡ does setting i s p
  elsewhere phase.Connector other = refl
  elsewhere phase.New other = refl
  elsewhere phase.Inited other = refl
  elsewhere phase.Verified other = refl
  elsewhere phase.Polling other = absurd (other refl)
  elsewhere phase.Produced other = refl
  elsewhere phase.Offered other = refl
  elsewhere phase.Delivered other = refl
  elsewhere phase.Failed other = refl
  elsewhere phase.Ended other = refl
