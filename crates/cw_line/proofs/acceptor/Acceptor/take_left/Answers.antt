use Rattle.std.proofs.Common.{map, ap, ◌∙◌, sym, subst, arith}
use Rattle.cw_line.specs.Numbers.{IsEachOnce, IsNumbered}
use Rattle.cw_line.specs.Hands.{Accounts, IsWhole}
use Rattle.cw_line.proofs.Counts.{settles, comes, tickets-none}
use Rattle.cw_line.proofs.Moves.{takes, learns}
use Rattle.cw_line.proofs.acceptor.Acceptor.take_left.Goals as goal

pub pop_as-requires-clause-rule : goal.pop_as-requires-clause-rule
pop_as-requires-clause-rule g c =
    let whole = ap (λ a. a.parts) c.self.view_is in
    let all = c.requires.whole in
    (takes _ _ (omega arith), learns _ _)

pub learn_as-requires-clause-rule : goal.learn_as-requires-clause-rule
learn_as-requires-clause-rule g c = learns _ _

pub returns-in-Some-clause-pushed : goal.returns-in-Some-clause-pushed
returns-in-Some-clause-pushed g c =
    let mine = c.self.invariant.1 in
    let seen = c.learn_as.ensures.rule in
    let fact = subst (λ w. IsWhole w → Accounts w.put w.taken seen.0) c.in-Some.ensures.rule seen.1 in
    let stands = comes _ _ _ _ _ (ap (λ v. v.put) mine) (fact (ap (λ a. a.parts) c.self.view_is ∙ c.requires.whole, ap (λ v. v.pushes) mine)) in
    subst (λ pushed. IsNumbered pushed c.in-Some.ticket) (ap (λ a. a.pushed) c.self.view_is) stands

pub returns-in-None-clause-each_once : goal.returns-in-None-clause-each_once
returns-in-None-clause-each_once g c =
    let mine = c.self.invariant.1 in
    let seen = c.in-None.ensures.rule in
    let accounts = seen.1.2 (ap (λ a. a.parts) c.self.view_is ∙ c.requires.whole, ap (λ v. v.pushes) mine) in
    subst (λ v. IsEachOnce (map (λ ticket. ticket.link) v.put) v.taken) (sym seen.0) (settles _ _ _ _ (ap (λ v. v.put) mine) (tickets-none seen.1.0 seen.1.1) accounts)
