use Rattle.std.proofs.Common.{◌≡◌, ◌⊎◌, ◌∙◌, ◌++◌, ◌∷◌, [], inl, inr, ⊎_elim, ℕ, suc, List, take, drop, refl, sym, subst}
use Rattle.cw_disk.specs.Disk.{AddsOf}
use Rattle.cw_disk.proofs.Moments.{adds_then, adds_weaker}
use Rattle.cw_log.specs.Log.{IsUnmade, places_of}
use Rattle.cw_log.specs.State.{IsKept}
use Rattle.cw_log.specs.Compaction.{IsClosed, IsRegated, IsReplaced, bodies_in, with_gate_open}
use Rattle.cw_log.proofs.Gates.{told_after, told_before, told_too, reads_adds}
use Rattle.cw_log.proofs.Replaced.{closed_unmade, staged_log}
use Rattle.cw_log.proofs.compact.replace.Goals as goal

pub returns-clause-kept : goal.returns-clause-kept
returns-clause-kept g c now told =
    let old = told_before with_gate_open (g.D.Disk.holds c.stage_all.new.disk) now (sym c.in_ok-open_first.ensures.done ∙ told) in
    let frames = c.in_ok-frames.frames in
    let staged = c.in_ok-frames.ensures.staged old.0 old.1 in (
      subst (IsKept c.args.kind frames.gate (places_of frames)) old.2 staged.kept,
      record { end = subst (λ (f : List ℕ). f ≡ take frames.gate f ++ 0 ∷ []) old.2 staged.end; only = c.in_ok-open_first.ensures.durable now told },
    )

pub returns-in_err-open_first-clause-adds : goal.returns-in_err-open_first-clause-adds
returns-in_err-open_first-clause-adds g c file is =
    let P = IsReplaced c.args.kind c.args.number (bodies_in c.args.bodies.now) file in
    let cleared = told_after (λ (f : List ℕ). 0 ∷ []) (g.D.Disk.holds c.prepare.new.disk) (g.D.Disk.holds c.unmake.new.disk) file (0 ∷ []) c.in_ok-unmake.ensures.done (c.prepare.ensures.reads.same ∙ is) refl in
    let staged = told_too (g.D.Disk.holds c.stage_all.new.disk) (g.D.Disk.holds c.unmake.new.disk) (sym c.stage_all.ensures.told) (0 ∷ []) cleared in
    let one : AddsOf g.D.Disk.moment g.D.Disk.left_since c.args.disk.now c.prepare.new.disk P =
    reads_adds g.D.Disk.holds g.D.Disk.may_leave g.D.Disk.moment g.D.Disk.left_since g.D.Disk.count g.D.Disk.reserved g.met.D.Disk.counts_now c.args.disk.now c.prepare.new.disk P c.prepare.ensures.reads in
    let two : AddsOf g.D.Disk.moment g.D.Disk.left_since c.prepare.new.disk c.unmake.new.disk P =
    adds_weaker g.D.Disk.moment g.D.Disk.left_since c.prepare.new.disk c.unmake.new.disk (λ image. IsRegated file image ⊎ IsUnmade image) P (c.unmake.ensures.adds file (c.prepare.ensures.reads.same ∙ is)) (λ image. ⊎_elim (λ r. inl r) (λ u. inr (inl u))) in
    let three : AddsOf g.D.Disk.moment g.D.Disk.left_since c.unmake.new.disk c.stage_all.new.disk P =
    adds_weaker g.D.Disk.moment g.D.Disk.left_since c.unmake.new.disk c.stage_all.new.disk IsClosed P (c.stage_all.ensures.adds (0 ∷ []) cleared) (λ image closed. inr (inl (closed_unmade image closed))) in
    let four : AddsOf g.D.Disk.moment g.D.Disk.left_since c.stage_all.new.disk c.open_first.new.disk P =
    adds_weaker g.D.Disk.moment g.D.Disk.left_since c.stage_all.new.disk c.open_first.new.disk (λ image. IsUnmade image ⊎ ((gate : ℕ) × (image ≡ suc gate ∷ drop 1 staged.0))) P (c.open_first.ensures.adds staged.0 staged.1)
    (λ image. ⊎_elim (λ u. inr (inl u)) (λ is. inr (inr (staged_log c.args.kind c.args.number (bodies_in c.args.bodies.now) c.in_ok-frames.frames staged.0 image is.0 (c.in_ok-frames.ensures.staged staged.0 staged.1) is.1)))) in
    adds_then g.D.Disk.moment g.D.Disk.left_since c.args.disk.now c.prepare.new.disk c.open_first.new.disk P one
    (adds_then g.D.Disk.moment g.D.Disk.left_since c.prepare.new.disk c.unmake.new.disk c.open_first.new.disk P two
    (adds_then g.D.Disk.moment g.D.Disk.left_since c.unmake.new.disk c.stage_all.new.disk c.open_first.new.disk P three four))

pub returns-clause-adds : goal.returns-clause-adds
returns-clause-adds g c file is =
    let P = IsReplaced c.args.kind c.args.number (bodies_in c.args.bodies.now) file in
    let cleared = told_after (λ (f : List ℕ). 0 ∷ []) (g.D.Disk.holds c.prepare.new.disk) (g.D.Disk.holds c.unmake.new.disk) file (0 ∷ []) c.in_ok-unmake.ensures.done (c.prepare.ensures.reads.same ∙ is) refl in
    let staged = told_too (g.D.Disk.holds c.stage_all.new.disk) (g.D.Disk.holds c.unmake.new.disk) (sym c.stage_all.ensures.told) (0 ∷ []) cleared in
    let one : AddsOf g.D.Disk.moment g.D.Disk.left_since c.args.disk.now c.prepare.new.disk P =
    reads_adds g.D.Disk.holds g.D.Disk.may_leave g.D.Disk.moment g.D.Disk.left_since g.D.Disk.count g.D.Disk.reserved g.met.D.Disk.counts_now c.args.disk.now c.prepare.new.disk P c.prepare.ensures.reads in
    let two : AddsOf g.D.Disk.moment g.D.Disk.left_since c.prepare.new.disk c.unmake.new.disk P =
    adds_weaker g.D.Disk.moment g.D.Disk.left_since c.prepare.new.disk c.unmake.new.disk (λ image. IsRegated file image ⊎ IsUnmade image) P (c.unmake.ensures.adds file (c.prepare.ensures.reads.same ∙ is)) (λ image. ⊎_elim (λ r. inl r) (λ u. inr (inl u))) in
    let three : AddsOf g.D.Disk.moment g.D.Disk.left_since c.unmake.new.disk c.stage_all.new.disk P =
    adds_weaker g.D.Disk.moment g.D.Disk.left_since c.unmake.new.disk c.stage_all.new.disk IsClosed P (c.stage_all.ensures.adds (0 ∷ []) cleared) (λ image closed. inr (inl (closed_unmade image closed))) in
    let four : AddsOf g.D.Disk.moment g.D.Disk.left_since c.stage_all.new.disk c.open_first.new.disk P =
    adds_weaker g.D.Disk.moment g.D.Disk.left_since c.stage_all.new.disk c.open_first.new.disk (λ image. IsUnmade image ⊎ ((gate : ℕ) × (image ≡ suc gate ∷ drop 1 staged.0))) P (c.open_first.ensures.adds staged.0 staged.1)
    (λ image. ⊎_elim (λ u. inr (inl u)) (λ is. inr (inr (staged_log c.args.kind c.args.number (bodies_in c.args.bodies.now) c.in_ok-frames.frames staged.0 image is.0 (c.in_ok-frames.ensures.staged staged.0 staged.1) is.1)))) in
    adds_then g.D.Disk.moment g.D.Disk.left_since c.args.disk.now c.prepare.new.disk c.open_first.new.disk P one
    (adds_then g.D.Disk.moment g.D.Disk.left_since c.prepare.new.disk c.unmake.new.disk c.open_first.new.disk P two
    (adds_then g.D.Disk.moment g.D.Disk.left_since c.unmake.new.disk c.stage_all.new.disk c.open_first.new.disk P three four))
