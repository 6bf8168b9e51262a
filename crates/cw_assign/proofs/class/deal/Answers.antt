use Rattle.std.proofs.Common.{◌∙◌, ap, length, arith}
use Rattle.std.specs.List.{filter}
use Rattle.std.proofs.lemmas.List.{length-map}
use Rattle.cw_assign.specs.Items.{has, of_kind}
use Rattle.cw_assign.specs.Plan.{is_free, first_hand}
use Rattle.cw_assign.proofs.Dealing.{length-deal}
use Rattle.cw_assign.proofs.class.deal.Goals as goal

pub give-requires : goal.give-requires
give-requires c =
    let many = ap length c.deref_mut.ensures.value ∙ ap length c.loop-item.invariant
    ∙ length-deal c.in_ok-seats.seats.items (filter (is_free c.args.kind (has c.args.known.now.held) (has c.args.known.now.lost) c.args.running) _)
    ∙ ap length c.in_ok-seats.ensures ∙ length-map c.args.members.now (first_hand c.args.kind c.args.members.now (length (of_kind c.args.kind c.args.configured.now)) (has c.args.known.now.configured) c.args.running) in
    omega (arith, many, c.requires)
