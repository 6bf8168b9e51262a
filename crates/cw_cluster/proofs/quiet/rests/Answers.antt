use Rattle.std.proofs.Common.{◌≡◌, ℕ, Bool, true, false, IfOk, if◌then◌else◌, sym, ap, ◌∙◌, subst}
use Rattle.cw_model.specs.Lookups.{instance_of}
use Rattle.cw_model.specs.State.{Setting, Cluster}
use Rattle.cw_model.specs.Steps.{waits}
use Rattle.cw_run.specs.Resting.{rests_in}
use Rattle.cw_run.proofs.Rested.{rests-is}
use Rattle.cw_cluster.specs.Turning.{rests_at}
use Rattle.cw_cluster.proofs.quiet.rests.Goals as goal

-- one that isn't paused rests by its phase
by-phase : (setting : Setting) (i : ℕ) (s : Cluster) → waits (instance_of i s) s ≡ false → rests_in setting i s (instance_of i s).phase ≡ rests_at setting i s
by-phase setting i s is =
    sym (rests-is setting i s ∙ ap (λ (b : Bool). if b then true else rests_in setting i s (instance_of i s).phase) is)

pub returns : goal.returns
returns g c =
    let w = c.args.world.now in
    subst (λ (b : Bool). IfOk c.rests_by_phase.result (λ (rest : Bool). rest ≡ b))
    (by-phase w.setting c.args.i w.state (ap (λ (t : Cluster). waits (instance_of c.args.i t) t) (sym c.cluster.ensures.state) ∙ sym c.waits.ensures ∙ c.if-waits.false)) c.rests_by_phase.ensures
