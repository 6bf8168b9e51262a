use Rattle.std.proofs.Common.{List, Some, not, sym, ap, ◌∙◌, subst}
use Rattle.std.specs.List.{find}
use Rattle.cw_types.specs.declared.ids.Item.{Item}
use Rattle.cw_assign.specs.Items.{has}
use Rattle.cw_group.specs.declared.member.Member.{Member}
use Rattle.cw_group.specs.Places.{IsPlace}
use Rattle.cw_group.proofs.RowLemmas.{unclaimed}
use Rattle.cw_group.proofs.group.Group.joining.Goals as goal

place : (c : goal.In-Some-2) → IsPlace c.args.worker c.self.inside.members.items c.in-Some.at
place c = subst (λ (ms : List Member). IsPlace c.args.worker ms c.in-Some.at) c.deref.ensures.value c.in-Some.ensures

pub returns-in-Some-2-clause-place : goal.returns-in-Some-2-clause-place
returns-in-Some-2-clause-place c _ = rw (← c.self.view_is)
    (unclaimed c.args.worker c.args.incarnation c.args.held.now
    (record { round = c.self.inside.round; phase = c.self.inside.phase; made = c.self.inside.made; members = c.self.inside.members.items; planned = c.self.inside.planned.items })
    c.index-member.result.now c.in-Some-2.item
    ((place c).found c.index-member.result.now ∙ ap (λ (m : Member). Some m) (sym c.index-member.ensures)) c.if-member-incarnation.false
    (sym c.has_joined.ensures ∙ c.if-has_joined.false)
    (ap (λ (claim : List Item). find (λ x. not (has claim x)) c.args.held.now) (sym c.as_slice.ensures) ∙ sym c.in_ok-item.ensures.first ∙ c.in-Some-2.is))
