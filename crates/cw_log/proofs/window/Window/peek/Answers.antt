use Rattle.std.proofs.Common.{List, ℕ, subst, drop, take, ◌-◌, refl}
use Rattle.cw_log.specs.Calls.{Shows}
use Rattle.cw_log.proofs.Windows.{shows_within}
use Rattle.cw_log.proofs.window.Window.peek.Goals as goal

pub returns-then-has-clause-five : goal.returns-then-has-clause-five
returns-then-has-clause-five g c file is =
    let held = c.if-has.ensures refl in
    let window = c.requires.window file is in
    shows_within c.five_of.result file c.args.self.now.bytes.items c.args.self.now.start c.args.at c.args.self.now.filled c.five_of.ensures.size held.0 held.1 window.filled window.shows
    (subst (λ (l : List ℕ). Shows c.five_of.result (drop (c.args.at - c.args.self.now.start) (take c.args.self.now.filled l))) c.deref.ensures.value c.five_of.ensures.shows)
