use Rattle.std.proofs.Common.{List, length, sym, ap, subst, arith}
use Rattle.cw_group.specs.declared.member.Member.{Member}
use Rattle.cw_group.specs.Places.{IsGroup}
use Rattle.cw_group.proofs.CountLemmas.{length-with}
use Rattle.cw_group.proofs.GroupLemmas.{group_with}
use Rattle.cw_group.proofs.group.Group.enter.Goals as goal

pub invariant_of-self-2 : goal.invariant_of-self-2
invariant_of-self-2 c =
    subst IsGroup (sym c.in_ok-put.ensures.ok) (group_with c.new-member.result (ap (λ (m : Member). m.claim) c.new-member.ensures) c.self.inside.members.items c.self.invariant)

pub returns-clause-count : goal.returns-clause-count
returns-clause-count c = rw (← c.self.view_is)
    (omega (arith, ap (λ (ms : List Member). length ms) c.in_ok-put.ensures.ok, length-with c.new-member.result c.self.inside.members.items))
