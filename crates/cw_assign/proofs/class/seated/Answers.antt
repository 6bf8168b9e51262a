use Rattle.std.proofs.Common.{◌∙◌, length, ap, take, List}
use Rattle.cw_types.specs.declared.ids.Item.{Item}
use Rattle.cw_assign.specs.Items.{has, of_kind}
use Rattle.cw_assign.specs.Plan.{first_hand, own}
use Rattle.cw_assign.proofs.PlanLemmas.{first-is, map-more}
use Rattle.cw_assign.proofs.class.seated.Goals as goal

pub loop-member-preserved : goal.loop-member-preserved
loop-member-preserved c =
    c.in_ok-push.ensures.items
    ∙ map-more (first_hand c.args.kind c.args.members.now (length (of_kind c.args.kind c.args.configured.now)) (has c.args.set.now) c.args.running)
    c.args.members.now c.loop-member.member-index c.member-item.result c.loop-member.seats.items c.new.result c.loop-member-test.true c.member-item.is c.loop-member.invariant
    (first-is c.args.kind (has c.args.set.now) c.args.members.now c.args.running c.member-item.result (length (of_kind c.args.kind c.args.configured.now))
    c.count_of-total.result c.most_kept-most.result c.standing_of-own.result c.deref.result.now c.in_ok-kept.kept.items c.new.result
    c.count_of-total.ensures (c.deref.ensures.value ∙ c.in_ok-standings.ensures) c.standing_of-own.ensures c.most_kept-most.ensures
    (c.in_ok-kept.ensures ∙ ap (λ (held : List Item). take c.most_kept-most.result (own c.args.kind (has c.args.set.now) held)) c.as_slice.ensures) c.new.ensures)
