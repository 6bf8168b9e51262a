use Rattle.std.proofs.Common.{ap, sym, ◌∙◌, arith}
use Rattle.cw_group.specs.declared.member.Member.{Member}
use Rattle.cw_group.proofs.PlaceLemmas.{past-member, place-is, no-member}
use Rattle.cw_group.proofs.member.place_of.Goals as goal

pub returns-then-at-members : goal.returns-then-at-members
returns-then-at-members c = past-member c.args.worker c.args.members.now c.first_from-at.result (omega arith) c.first_from-at.ensures.below

pub returns-then-members-at : goal.returns-then-members-at
returns-then-members-at c =
    place-is c.args.worker c.args.members.now c.first_from-at.result c.index-members-at.result c.requires (omega arith) c.index-members-at.is
    (ap (λ (o : Member). o.worker) c.index-members-at.is ∙ c.if-members-at.true)

pub returns : goal.returns
returns c =
    no-member c.args.worker c.args.members.now c.first_from-at.result c.index-members-at.result c.requires (omega arith) c.index-members-at.is
    (λ e. c.if-members-at.false (ap (λ (o : Member). o.worker) (sym c.index-members-at.is) ∙ e)) c.first_from-at.ensures.below c.first_from-at.ensures.from
