-- A step is the event of its phase, unless its task waits.
use Rattle.std.proofs.Common.{◌≡◌, ◌<◌, ℕ, Bool, true, false, length, sym, ◌∙◌, ap, if◌then◌else◌}
use Rattle.cw_laws.proofs.Lists.{each-at}
use Rattle.cw_model.specs.declared.did.Did.TheVariants as did
use Rattle.cw_model.specs.declared.instance.Instance.{Instance}
use Rattle.cw_model.specs.declared.instance.InstancePhase.{InstancePhase}
use Rattle.cw_model.specs.State.{Setting, Cluster}
use Rattle.cw_model.specs.Answers.{answered}
use Rattle.cw_model.specs.Facts.{AreFacts}
use Rattle.cw_model.specs.FactsRows.{IsSoundInstance}
use Rattle.cw_model.specs.Lookups.{instance_of, no_instance}
use Rattle.cw_model.specs.Steps.{does, waits, step}

module _ (setting : Setting) (i : ℕ) (s : Cluster) where
  pub step-waits : waits (instance_of i s) s ≡ true → step setting i s ≡ answered did.Paused s
  step-waits is = ap (λ (b : Bool). if b then answered did.Paused s else does setting i s (instance_of i s).phase) is

  pub step-does : waits (instance_of i s) s ≡ false → (p : InstancePhase) → (instance_of i s).phase ≡ p → step setting i s ≡ does setting i s p
  step-does is p phase =
      ap (λ (b : Bool). if b then answered did.Paused s else does setting i s (instance_of i s).phase) is ∙ ap (does setting i s) phase

-- ---- what was looked up of an instance

module _ (i : ℕ) (s t : Cluster) (state : t ≡ s) where
  pub waited : (b r : Bool) → r ≡ waits (instance_of i t) t → r ≡ b → waits (instance_of i s) s ≡ b
  waited b r told is = ap (λ (u : Cluster). waits (instance_of i u) u) (sym state) ∙ sym told ∙ is

  pub looked : (own : Instance) → own ≡ instance_of i t → own ≡ instance_of i s
  looked own is = is ∙ ap (instance_of i) state

  pub is-in : (own : Instance) (p : InstancePhase) → own ≡ instance_of i t → own.phase ≡ p → (instance_of i s).phase ≡ p
  is-in own p is phase = ap (λ (k : Instance). k.phase) (sym (looked own is)) ∙ phase

-- ---- where it runs

-- each instance's worker is there
pub worker-there : (setting : Setting) (s : Cluster) (i : ℕ) → AreFacts setting s → i < length s.instances → (instance_of i s).worker < length s.rows
worker-there setting s i facts there = (each-at (IsSoundInstance s) s.instances i no_instance there facts.rows.instances).at_worker
