use Rattle.std.proofs.Common.{◌≡◌, List, ◌==◌, Some, not, cond, length, map, sym, ap, ◌∙◌, subst, arith}
use Rattle.cw_group.specs.declared.member.Member.{Member}
use Rattle.cw_group.specs.Phases.{is_open}
use Rattle.cw_group.specs.Members.{without, unjoined}
use Rattle.cw_group.specs.Places.{IsGroup, IsPlace}
use Rattle.cw_group.proofs.CountLemmas.{length-opened}
use Rattle.cw_group.proofs.PlaceLemmas.{remove-without}
use Rattle.cw_group.proofs.GroupLemmas.{open_group, group_kept}
use Rattle.cw_group.proofs.RowLemmas.{expired}
use Rattle.cw_group.proofs.group.Group.expire.Goals as goal

place : (c : goal.After-into_claim) → IsPlace c.args.worker c.self.inside.members.items c.in-Some.at
place c = subst (λ (ms : List Member). IsPlace c.args.worker ms c.in-Some.at) c.deref.ensures.value c.in-Some.ensures

left : (c : goal.After-into_claim) → c.remove-member.new.self.items ≡ without c.args.worker c.self.inside.members.items
left c = c.remove-member.ensures.items
    ∙ remove-without c.args.worker c.self.inside.members.items c.in-Some.at c.remove-member.result c.self.invariant.rising (place c).within ((place c).here c.remove-member.result)

pub invariant_of-self : goal.invariant_of-self
invariant_of-self c =
    subst IsGroup (sym c.open.ensures.members)
    (open_group (is_open c.self.inside.phase) c.remove-member.new.self.items
    (subst IsGroup (sym (left c)) (group_kept (λ (m : Member). not (m.worker == c.args.worker)) c.self.inside.members.items c.self.invariant)))

pub returns-clause-row : goal.returns-clause-row
returns-clause-row c = rw (← c.self.view_is)
    (expired c.args.worker
    (record { round = c.self.inside.round; phase = c.self.inside.phase; made = c.self.inside.made; members = c.self.inside.members.items; planned = c.self.inside.planned.items })
    c.remove-member.result c.open.new.round c.open.new.phase c.open.new.members.items c.into_claim.result.items
    ((place c).found c.remove-member.result ∙ ap (λ (m : Member). Some m) (sym c.remove-member.ensures.value)) c.into_claim.ensures c.open.ensures.round c.open.ensures.phase
    (c.open.ensures.members ∙ ap (λ (ms : List Member). cond (is_open c.self.inside.phase) ms (map unjoined ms)) (left c)))

pub returns-clause-count : goal.returns-clause-count
returns-clause-count c = rw (← c.self.view_is)
    (omega (
      arith,
      ap (λ (ms : List Member). length ms) c.open.ensures.members,
      length-opened (is_open c.self.inside.phase) c.remove-member.new.self.items,
      c.remove-member.ensures.len,
    ))
