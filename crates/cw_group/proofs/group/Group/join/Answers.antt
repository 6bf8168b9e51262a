use Rattle.std.proofs.Common.{◌≡◌, List, None, cond, length, map, set, get_or, sym, ap, ◌∙◌, subst}
use Rattle.std.proofs.lemmas.List.{length-set}
use Rattle.cw_types.specs.declared.ids.Item.{Item}
use Rattle.cw_group.specs.declared.member.Member.{Member}
use Rattle.cw_group.specs.Phases.{is_open}
use Rattle.cw_group.specs.Members.{joined_with, unjoined}
use Rattle.cw_group.specs.Group.{GroupState, join_refusal}
use Rattle.cw_group.specs.Places.{IsGroup, IsPlace}
use Rattle.cw_group.proofs.CountLemmas.{length-opened}
use Rattle.cw_group.proofs.RowLemmas.{join-claims, joined-group, joined-members, joined}
use Rattle.cw_group.proofs.group.Group.join.Goals as goal

place : (c : goal.After-self-1) → IsPlace c.args.worker c.self.inside.members.items c.in_ok-at.at
place c = subst (λ (s : GroupState). IsPlace c.args.worker s.members c.in_ok-at.at) (sym c.self.view_is) c.in_ok-at.ensures.place.0

allowed : (c : goal.After-self-1) (d : Member) → join_refusal c.args.incarnation c.args.held.now c.self.inside.phase (get_or c.self.inside.members.items c.in_ok-at.at d) ≡ None
allowed c d = subst (λ (s : GroupState). join_refusal c.args.incarnation c.args.held.now s.phase (get_or s.members c.in_ok-at.at d) ≡ None) (sym c.self.view_is) (c.in_ok-at.ensures.place.1 d)

member_is : (c : goal.After-self-1) → c.join.new.self ≡ joined_with c.args.held.now (get_or (cond (is_open c.self.inside.phase) c.self.inside.members.items (map unjoined c.self.inside.members.items)) c.in_ok-at.at c.index_mut.result.now)
member_is c =
    c.join.ensures ∙ ap (λ (held : List Item). joined_with held c.index_mut.result.now) c.in_ok-claim.ensures.items
    ∙ ap (λ (m : Member). joined_with c.args.held.now m) (c.index_mut.ensures.value ∙ ap (λ (ms : List Member). get_or ms c.in_ok-at.at c.index_mut.result.now) c.open.ensures.members)

pub invariant_of-self : goal.invariant_of-self
invariant_of-self c =
    subst (λ (ms : List Member). IsGroup (set ms c.in_ok-at.at c.join.new.self)) (sym c.open.ensures.members)
    (joined-group c.args.worker c.self.inside.members.items c.in_ok-at.at (place c) (is_open c.self.inside.phase) c.args.held.now c.requires c.self.invariant
    (λ d. join-claims c.args.incarnation c.args.held.now c.self.inside.phase (get_or c.self.inside.members.items c.in_ok-at.at d) (allowed c d))
    c.index_mut.result.now c.join.new.self (member_is c))

pub returns-clause-row : goal.returns-clause-row
returns-clause-row c = rw (← c.self.view_is)
    (joined c.args.worker c.args.incarnation c.args.held.now
    (record { round = c.self.inside.round; phase = c.self.inside.phase; made = c.self.inside.made; members = c.self.inside.members.items; planned = c.self.inside.planned.items })
    (get_or c.self.inside.members.items c.in_ok-at.at c.index_mut.result.now) c.open.new.round c.open.new.phase (set c.open.new.members.items c.in_ok-at.at c.join.new.self)
    ((place c).found c.index_mut.result.now) (allowed c c.index_mut.result.now) c.open.ensures.round c.open.ensures.phase
    (ap (λ (ms : List Member). set ms c.in_ok-at.at c.join.new.self) c.open.ensures.members
    ∙ ap (λ (m : Member). set (cond (is_open c.self.inside.phase) c.self.inside.members.items (map unjoined c.self.inside.members.items)) c.in_ok-at.at m) (member_is c)
    ∙ joined-members c.args.worker c.self.inside.members.items c.in_ok-at.at (place c) (is_open c.self.inside.phase) c.args.held.now c.requires c.self.invariant
    (λ d. join-claims c.args.incarnation c.args.held.now c.self.inside.phase (get_or c.self.inside.members.items c.in_ok-at.at d) (allowed c d)) c.index_mut.result.now))

pub returns-clause-count : goal.returns-clause-count
returns-clause-count c = rw (← c.self.view_is)
    (length-set c.open.new.members.items c.in_ok-at.at c.join.new.self
    ∙ ap (λ (ms : List Member). length ms) c.open.ensures.members ∙ length-opened (is_open c.self.inside.phase) c.self.inside.members.items)
