use Rattle.std.proofs.Common.{subst}
use Rattle.cw_pair.proofs.Pairs.{beside, left_behind, told_both}
use Rattle.cw_pair.proofs.Stretches.{stands_across}
use Rattle.cw_pair.proofs.pair.PairLog.give_back.Goals as goal

pub returns-then-on_b-clause-rest : goal.returns-then-on_b-clause-rest
returns-then-on_b-clause-rest g c = rw (← c.self.view_is) (λ alive bodies told image_a image_b left_a left_b.
    let two = c.self.inside.two in
    let both = told_both (g.D.Disk.holds two.other) two.log.bodies bodies told in
    let left = subst (λ disk. g.D.Disk.may_leave disk image_b) c.give_back.ensures.disk left_b in
    stands_across two.log.kind bodies image_b image_a (beside two.log.kind two.log.number bodies image_b image_a (c.rest.ensures.left alive bodies both.2 image_b left) (c.rest.ensures.side alive bodies both.2 image_b left)
    (left_behind g.D.Disk.holds g.D.Disk.may_leave two.log two.other both.0 image_a bodies c.self.invariant alive both.2 both.1 left_a)))

pub returns-clause-rest : goal.returns-clause-rest
returns-clause-rest g c = rw (← c.self.view_is) (λ alive bodies told image_a image_b left_a left_b.
    let two = c.self.inside.two in
    let both = told_both (g.D.Disk.holds two.other) two.log.bodies bodies told in
    let left = subst (λ disk. g.D.Disk.may_leave disk image_a) c.give_back-2.ensures.disk left_a in
    beside two.log.kind two.log.number bodies image_a image_b (c.rest.ensures.left alive bodies both.2 image_a left) (c.rest.ensures.side alive bodies both.2 image_a left)
    (left_behind g.D.Disk.holds g.D.Disk.may_leave two.log two.other both.0 image_b bodies c.self.invariant alive both.2 both.1 left_b))
