use Rattle.std.proofs.Common.{map}
use Rattle.cw_pair.specs.State.{sides_of}
use Rattle.cw_pair.proofs.Pairs.{beside, left_behind, pair_one, rest_images, told_both}
use Rattle.cw_pair.proofs.Stretches.{now_only, pair_of}
use Rattle.cw_pair.proofs.pair_body_log.PairLogBodyLog.rest.Goals as goal

pub returns-clause-left : goal.returns-clause-left
returns-clause-left g c = rw (← c.self.view_is) (λ alive list told found since.
    let two = c.self.inside.two in
    let both = told_both (g.D.Disk.holds two.other) two.log.bodies list told in
    now_only g.D.Disk.may_leave g.D.Disk.moment g.D.Disk.left_since g.met.D.Disk.counts_now g.met.D.Disk.only_now
    (pair_of two.log two.other two.on_b (map (λ t. sides_of t.on_b t.log.disk t.other) c.self.inside.past.items) c.self.inside.failed) list found since
    (λ image other left left' stands. pair_one two.log.kind found list image other stands (beside two.log.kind two.log.number list image other (c.rest.ensures.left alive list both.2 image left) (c.rest.ensures.side alive list both.2 image left)
    (left_behind g.D.Disk.holds g.D.Disk.may_leave two.log two.other both.0 other list c.self.invariant alive both.2 both.1 left'))))

pub returns-clause-images : goal.returns-clause-images
returns-clause-images g c = rw (← c.self.view_is) (λ alive list told image left.
    let two = c.self.inside.two in
    let both = told_both (g.D.Disk.holds two.other) two.log.bodies list told in
    rest_images g.D.Disk.may_leave g.D.Disk.holds g.D.Disk.moment g.D.Disk.left_since g.met.D.Disk.counts_now g.met.D.Disk.only_now
    two.log two.other two.on_b list both.0 c.self.invariant alive both.2 both.1 (c.rest.ensures.left alive list both.2) (c.rest.ensures.side alive list both.2) image.0 image.1 left)
