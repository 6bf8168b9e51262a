use Rattle.std.proofs.Common.{◌≡◌, ◌∙◌, ap, arith, length, sym, subst}
use Rattle.cw_log.specs.Log.{IsSide, StandsFor, bodies_at, length_of, places_of}
use Rattle.cw_log.proofs.Gates.{told_before}
use Rattle.cw_log.proofs.Appended.{rest_stands, told_count, told_length}
use Rattle.cw_log.proofs.Sides.{kept_side}
use Rattle.cw_log.proofs.Starts.{length-places_before}
use Rattle.cw_log.proofs.topic.TopicLog.rest.Goals as goal

pub returns-clause-left : goal.returns-clause-left
returns-clause-left g c alive bodies told image left =
    let file = told_before (bodies_at (places_of c.self.inside.frames)) (g.D.Disk.holds c.self.inside.disk) bodies (ap (λ v. v.bodies) c.self.view_is ∙ told) in
    let rest = c.self.invariant.rest (ap (λ v. v.shut) c.self.view_is ∙ alive) file.0 file.1 in
    let now = subst (λ v. g.D.Disk.may_leave v.disk image) (sym c.self.view_is) left in
    subst (λ v. StandsFor v.kind bodies image) c.self.view_is (rest_stands c.self.inside.kind c.self.inside.frames.gate (places_of c.self.inside.frames) file.0 image bodies (g.D.Disk.may_leave c.self.inside.disk) (c.self.invariant.kept file.0 file.1) rest now file.2)

pub returns-clause-size : goal.returns-clause-size
returns-clause-size g c bodies told =
    let file = told_before (bodies_at (places_of c.self.inside.frames)) (g.D.Disk.holds c.self.inside.disk) bodies (ap (λ v. v.bodies) c.self.view_is ∙ told) in
    subst (λ v. v.length ≡ length_of bodies) c.self.view_is (told_length c.self.inside.frames.gate (places_of c.self.inside.frames) file.0 bodies (c.self.invariant.kept file.0 file.1).begins file.2)

pub returns-clause-side : goal.returns-clause-side
returns-clause-side g c alive bodies told image left =
    let file = told_before (bodies_at (places_of c.self.inside.frames)) (g.D.Disk.holds c.self.inside.disk) bodies (ap (λ v. v.bodies) c.self.view_is ∙ told) in
    let rest = c.self.invariant.rest (ap (λ v. v.shut) c.self.view_is ∙ alive) file.0 file.1 in
    let now = subst (λ v. g.D.Disk.may_leave v.disk image) (sym c.self.view_is) left in
    subst (λ v. IsSide v.number image) c.self.view_is (subst (IsSide c.self.inside.number) (sym (rest.only image now))
    (kept_side c.self.inside.kind c.self.inside.frames.gate c.self.inside.number (places_of c.self.inside.frames) file.0 (c.self.invariant.kept file.0 file.1) (c.self.invariant.side file.0 file.1)))

pub returns-clause-count : goal.returns-clause-count
returns-clause-count g c bodies told =
    let file = told_before (bodies_at (places_of c.self.inside.frames)) (g.D.Disk.holds c.self.inside.disk) bodies (ap (λ v. v.bodies) c.self.view_is ∙ told) in
    subst (λ v. v.count ≡ length bodies) c.self.view_is (omega (arith, c.self.inside.frames.counted, length-places_before c.self.inside.frames.gate c.self.inside.frames.starts.items, told_count c.self.inside.frames.gate (places_of c.self.inside.frames) file.0 bodies file.2))
