use Rattle.std.proofs.Common.{refl, inl, List, ℕ, [], ◌∷◌, subst}
use Rattle.cw_disk.proofs.Moments.{adds_then, adds_weaker}
use Rattle.cw_log.specs.Calls.{IsGated}
use Rattle.cw_log.specs.Log.{IsUnmade, StandsFor}
use Rattle.cw_log.proofs.Gates.{told_after}
use Rattle.cw_log.proofs.Made.{gated_new}
use Rattle.cw_log.proofs.make.make.Goals as goal

pub returns-in_err-clear-clause-left : goal.returns-in_err-clear-clause-left
returns-in_err-clear-clause-left g c file is image left = inl (c.clear.ensures.left file is image left, refl)

pub returns-clause-left : goal.returns-clause-left
returns-clause-left g c file is image left =
    let cleared = told_after (λ (f : List ℕ). 0 ∷ []) _ _ file (0 ∷ []) c.in_ok-clear.ensures.done is refl in
    gated_new c.args.kind image (subst (λ (tail : List ℕ). IsGated 0 (0 ∷ []) tail image) c.header_of-tail.ensures (c.open_gate.ensures.left (0 ∷ []) cleared image left))

pub returns-clause-adds : goal.returns-clause-adds
returns-clause-adds g c file is =
    let cleared = told_after (λ (f : List ℕ). 0 ∷ []) _ _ file (0 ∷ []) c.in_ok-clear.ensures.done is refl in
    adds_then g.D.Disk.moment g.D.Disk.left_since c.args.disk.now c.clear.new.disk c.open_gate.new.disk (StandsFor c.args.kind [])
    (adds_weaker g.D.Disk.moment g.D.Disk.left_since c.args.disk.now c.clear.new.disk IsUnmade (StandsFor c.args.kind []) (c.clear.ensures.adds file is) (λ image unmade. inl (unmade, refl)))
    (adds_weaker g.D.Disk.moment g.D.Disk.left_since c.clear.new.disk c.open_gate.new.disk (IsGated 0 (0 ∷ []) c.header_of-tail.result) (StandsFor c.args.kind []) (c.open_gate.ensures.adds (0 ∷ []) cleared)
    (λ image gated. gated_new c.args.kind image (subst (λ (tail : List ℕ). IsGated 0 (0 ∷ []) tail image) c.header_of-tail.ensures gated)))
