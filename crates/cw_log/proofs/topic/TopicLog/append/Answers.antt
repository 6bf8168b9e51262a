use Rattle.std.proofs.Common.{◌∙◌, inl, ℕ, sym, ap, subst}
use Rattle.cw_disk.specs.Disk.{AddsOf}
use Rattle.cw_disk.proofs.Moments.{adds_then}
use Rattle.cw_log.specs.Log.{IsSide, StandsFor, BeforeOrAfter, bodies_at, places_of}
use Rattle.cw_log.proofs.Gates.{told_before, reads_adds}
use Rattle.cw_log.proofs.Appended.{rest_stands}
use Rattle.cw_log.proofs.topic.TopicLog.append.Goals as goal

pub returns-then-self-length-clause-left : goal.returns-then-self-length-clause-left
returns-then-self-length-clause-left g c alive bodies told image left =
    let file = told_before (bodies_at (places_of c.self.inside.frames)) (g.D.Disk.holds c.self.inside.disk) bodies (ap (λ v. v.bodies) c.self.view_is ∙ told) in
    let rest = c.self.invariant.rest (ap (λ v. v.shut) c.self.view_is ∙ alive) file.0 file.1 in
    inl (subst (λ v. StandsFor v.kind bodies image) c.self.view_is (rest_stands c.self.inside.kind c.self.inside.frames.gate (places_of c.self.inside.frames) file.0 image bodies (g.D.Disk.may_leave c.self.inside.disk) (c.self.invariant.kept file.0 file.1) rest (subst (λ v. g.D.Disk.may_leave v.disk image) (sym c.self.view_is) left) file.2))

pub returns-in_err-reserve-clause-left : goal.returns-in_err-reserve-clause-left
returns-in_err-reserve-clause-left g c alive bodies told image left =
    let file = told_before (bodies_at (places_of c.self.inside.frames)) (g.D.Disk.holds c.self.inside.disk) bodies (ap (λ v. v.bodies) c.self.view_is ∙ told) in
    let rest = c.self.invariant.rest (ap (λ v. v.shut) c.self.view_is ∙ alive) file.0 file.1 in
    let was = subst (λ v. g.D.Disk.may_leave v.disk image) (sym c.self.view_is) (c.reserve.ensures.reads.fewer image left) in
    inl (subst (λ v. StandsFor v.kind bodies image) c.self.view_is (rest_stands c.self.inside.kind c.self.inside.frames.gate (places_of c.self.inside.frames) file.0 image bodies (g.D.Disk.may_leave c.self.inside.disk) (c.self.invariant.kept file.0 file.1) rest was file.2))

pub returns-in_err-add-clause-any_moment : goal.returns-in_err-add-clause-any_moment
returns-in_err-add-clause-any_moment g c alive bodies told =
    adds_then g.D.Disk.moment g.D.Disk.left_since c.args.self.now.disk c.reserve.new.self.disk c.add.new.self.disk (BeforeOrAfter c.args.self.now.kind bodies c.args.body.now)
    (reads_adds g.D.Disk.holds g.D.Disk.may_leave g.D.Disk.moment g.D.Disk.left_since g.D.Disk.count g.D.Disk.reserved g.met.D.Disk.counts_now c.args.self.now.disk c.reserve.new.self.disk (BeforeOrAfter c.args.self.now.kind bodies c.args.body.now) c.reserve.ensures.reads)
    (subst (λ (kind : ℕ). AddsOf g.D.Disk.moment g.D.Disk.left_since c.reserve.new.self.disk c.add.new.self.disk (BeforeOrAfter kind bodies c.args.body.now)) c.reserve.ensures.same.kind (c.add.ensures.any_moment bodies (c.reserve.ensures.same.bodies ∙ told)))

pub returns-clause-any_moment : goal.returns-clause-any_moment
returns-clause-any_moment g c alive bodies told =
    adds_then g.D.Disk.moment g.D.Disk.left_since c.args.self.now.disk c.reserve.new.self.disk c.add.new.self.disk (BeforeOrAfter c.args.self.now.kind bodies c.args.body.now)
    (reads_adds g.D.Disk.holds g.D.Disk.may_leave g.D.Disk.moment g.D.Disk.left_since g.D.Disk.count g.D.Disk.reserved g.met.D.Disk.counts_now c.args.self.now.disk c.reserve.new.self.disk (BeforeOrAfter c.args.self.now.kind bodies c.args.body.now) c.reserve.ensures.reads)
    (subst (λ (kind : ℕ). AddsOf g.D.Disk.moment g.D.Disk.left_since c.reserve.new.self.disk c.add.new.self.disk (BeforeOrAfter kind bodies c.args.body.now)) c.reserve.ensures.same.kind (c.add.ensures.any_moment bodies (c.reserve.ensures.same.bodies ∙ told)))

pub returns-in_err-add-clause-side : goal.returns-in_err-add-clause-side
returns-in_err-add-clause-side g c bodies told =
    adds_then g.D.Disk.moment g.D.Disk.left_since c.args.self.now.disk c.reserve.new.self.disk c.add.new.self.disk (IsSide c.args.self.now.number)
    (reads_adds g.D.Disk.holds g.D.Disk.may_leave g.D.Disk.moment g.D.Disk.left_since g.D.Disk.count g.D.Disk.reserved g.met.D.Disk.counts_now c.args.self.now.disk c.reserve.new.self.disk (IsSide c.args.self.now.number) c.reserve.ensures.reads)
    (subst (λ (n : ℕ). AddsOf g.D.Disk.moment g.D.Disk.left_since c.reserve.new.self.disk c.add.new.self.disk (IsSide n)) c.reserve.ensures.same.number (c.add.ensures.side bodies (c.reserve.ensures.same.bodies ∙ told)))

pub returns-clause-side : goal.returns-clause-side
returns-clause-side g c bodies told =
    adds_then g.D.Disk.moment g.D.Disk.left_since c.args.self.now.disk c.reserve.new.self.disk c.add.new.self.disk (IsSide c.args.self.now.number)
    (reads_adds g.D.Disk.holds g.D.Disk.may_leave g.D.Disk.moment g.D.Disk.left_since g.D.Disk.count g.D.Disk.reserved g.met.D.Disk.counts_now c.args.self.now.disk c.reserve.new.self.disk (IsSide c.args.self.now.number) c.reserve.ensures.reads)
    (subst (λ (n : ℕ). AddsOf g.D.Disk.moment g.D.Disk.left_since c.reserve.new.self.disk c.add.new.self.disk (IsSide n)) c.reserve.ensures.same.number (c.add.ensures.side bodies (c.reserve.ensures.same.bodies ∙ told)))
