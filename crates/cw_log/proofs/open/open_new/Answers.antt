use Rattle.std.proofs.Common.{◌≡◌, inl, refl, List, ℕ, [], ◌∷◌, ◌++◌, take, sym, ◌∙◌, subst}
use Rattle.cw_disk.proofs.Moments.{adds_then, adds_weaker}
use Rattle.cw_log.specs.Log.{StandsFor, StandAlike, new_log, places_before}
use Rattle.cw_log.specs.State.{IsKept}
use Rattle.cw_log.proofs.Gates.{told_before, reads_adds}
use Rattle.cw_log.proofs.Opened.{new_kept, new_end}
use Rattle.cw_log.proofs.open.open_new.Goals as goal

pub returns-clause-kept : goal.returns-clause-kept
returns-clause-kept g c file is =
    let before = told_before (λ (f : List ℕ). new_log c.args.kind) _ file (sym c.in_ok-make.ensures.done ∙ is) in (
      subst (λ (l : List ℕ). IsKept c.args.kind 16 (places_before 16 l) file) (sym c.new.ensures) (subst (IsKept c.args.kind 16 []) before.2 (new_kept c.args.kind)),
      record { end = subst (λ (f : List ℕ). f ≡ take 16 f ++ 0 ∷ []) before.2 (new_end c.args.kind); only = c.in_ok-make.ensures.durable file is },
    )

pub returns-clause-adds : goal.returns-clause-adds
returns-clause-adds g c file is =
    adds_then g.D.Disk.moment g.D.Disk.left_since c.args.disk.now c.prepare.new.disk c.make.new.disk (StandAlike c.args.kind file)
    (reads_adds g.D.Disk.holds g.D.Disk.may_leave g.D.Disk.moment g.D.Disk.left_since g.D.Disk.count g.D.Disk.reserved g.met.D.Disk.counts_now c.args.disk.now c.prepare.new.disk (StandAlike c.args.kind file) c.prepare.ensures.reads)
    (adds_weaker g.D.Disk.moment g.D.Disk.left_since c.prepare.new.disk c.make.new.disk (StandsFor c.args.kind []) (StandAlike c.args.kind file) (c.make.ensures.adds file (c.prepare.ensures.reads.same ∙ is))
    (λ image stands. record { bodies = []; this = inl (c.requires.unmade file is, refl); that = stands }))
