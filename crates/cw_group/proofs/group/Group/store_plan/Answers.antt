use Rattle.std.proofs.Common.{List, length, sym, ap, ◌∙◌, subst}
use Rattle.cw_assign.specs.declared.share.Share.{Share}
use Rattle.cw_group.specs.declared.member.Member.{Member}
use Rattle.cw_group.specs.Members.{with_shares}
use Rattle.cw_group.specs.Group.{GroupState, MayStore}
use Rattle.cw_group.specs.Places.{IsGroup}
use Rattle.cw_group.proofs.CountLemmas.{length-shares}
use Rattle.cw_group.proofs.GroupLemmas.{group_shares}
use Rattle.cw_group.proofs.RowLemmas.{stored}
use Rattle.cw_group.proofs.group.Group.store_plan.Goals as goal

pub invariant_of-self : goal.invariant_of-self
invariant_of-self c =
    let may = c.requires (stored c.args.worker c.args.round c.args.plan.now.shares c.args.planned.now c.args.self.now c.in_ok-storing.ensures.0.0 c.in_ok-storing.ensures.0.1 c.in_ok-storing.ensures.1) in
    let here = subst (λ (s : GroupState). MayStore s.members c.args.planned.now c.args.plan.now) (sym c.self.view_is) may in
    subst IsGroup (sym (c.in_ok-members.ensures ∙ ap (λ (ms : List Member). with_shares ms c.as_slice.result.now) c.deref.ensures.value ∙ ap (λ (ss : List Share). with_shares c.self.inside.members.items ss) c.as_slice.ensures))
    (group_shares c.self.inside.members.items c.args.plan.now c.args.planned.now here.lost here.running here.valid c.self.invariant)

pub returns-clause-count : goal.returns-clause-count
returns-clause-count c = rw (← c.self.view_is)
    (ap (λ (ms : List Member). length ms) c.in_ok-members.ensures ∙ length-shares c.deref.result.now c.as_slice.result.now
    ∙ ap (λ (ms : List Member). length ms) c.deref.ensures.value)
