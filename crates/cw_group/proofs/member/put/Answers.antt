use Rattle.std.proofs.Common.{◌≡◌, List, set, sym, subst}
use Rattle.cw_group.specs.declared.member.Member.{Member}
use Rattle.cw_group.specs.Members.{with_member, AreRising}
use Rattle.cw_group.proofs.PlaceLemmas.{set-with}
use Rattle.cw_group.proofs.member.put.Goals as goal

pub returns-in-Some-clause-ok : goal.returns-in-Some-clause-ok
returns-in-Some-clause-ok c =
    subst (λ (ms : List Member). set ms c.in-Some.at c.args.member ≡ with_member c.args.member ms) c.deref.ensures.value
    (set-with c.args.member c.deref.result.now c.in-Some.at c.args.member (subst AreRising (sym c.deref.ensures.value) c.requires) c.in-Some.ensures.within (c.in-Some.ensures.here c.args.member))
