use Rattle.std.proofs.Common.{◌≡◌, List, insert, ap, ◌∙◌, subst}
use Rattle.cw_group.specs.declared.member.Member.{Member}
use Rattle.cw_group.specs.Members.{member_of, with_member}
use Rattle.cw_group.proofs.PlaceLemmas.{insert-with}
use Rattle.cw_group.proofs.member.insert.Goals as goal

pub returns-clause-ok : goal.returns-clause-ok
returns-clause-ok c =
    c.in_ok-insert.ensures.items
    ∙ subst (λ (ms : List Member). insert ms c.first_from-at.result c.args.member ≡ with_member c.args.member ms) c.deref.ensures.value
    (insert-with c.args.member c.deref.result.now c.first_from-at.result c.first_from-at.ensures.within c.first_from-at.ensures.below c.first_from-at.ensures.from
    (ap (λ (ms : List Member). member_of c.args.member.worker ms) c.deref.ensures.value ∙ c.requires.new))
