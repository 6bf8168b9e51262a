use Rattle.std.proofs.Common.{rules, ◌≡◌, length, ap, ◌∙◌, sym, subst}
use Rattle.cw_line.specs.Hands.{told}
use Rattle.cw_line.specs.Sides.{accepting_of, acceptors_hand}
use Rattle.cw_line.proofs.Counts.{pushed_hand}
use Rattle.cw_line.proofs.acceptor.Acceptor.push.Goals as goal

pub invariant_of-self : goal.invariant_of-self
invariant_of-self g c = (
  search rules,
  subst (λ w. w ≡ acceptors_hand (accepting_of w)) (sym c.push_with.ensures.put)
      (pushed_hand (told c.self.inside.pass) c.args.ticket c.self.invariant.1 (c.requires.next ∙ ap (λ a. length a.pushed) (sym c.self.view_is))),
)
