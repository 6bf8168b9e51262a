use Rattle.std.proofs.Common.{◌≡◌, ◌∙◌, rules, true, false, None, sym, subst}
use Rattle.cw_turns.specs.Due.{IsToTell}
use Rattle.cw_serve.specs.Sharing.{SharedState}
use Rattle.cw_serve.proofs.Keeping.{stays_shared}
use Rattle.cw_serve.proofs.shared.Shared.deliver.Goals as goal
use Rattle.cw_serve.proofs.shared.Shared.deliver.Goals.{then-deliver, else-deliver}

pub invariant_of-self : goal.invariant_of-self
invariant_of-self g c =
    let alive : c.self.inside.world.state.closed ≡ None = search rules in
    stays_shared c.self.invariant alive c.is_safe.ensures.facts c.deliver.ensures.goes_on c.deliver.ensures.kept

pub returns-clause-due : goal.returns-clause-due
returns-clause-due g c = λ gather told.
    let here = subst (λ (s : SharedState g.row.D.Denot). IsToTell c.args.i s.world.state c.args.delivery.now) (sym c.self.view_is) told in
    elim c.if-deliver.branch [
      | then-deliver w ↦ w.result-is
      | else-deliver w ↦ absurd (let yes = c.deliver.ensures.due here in let no : true ≡ false = sym yes ∙ w.if-deliver.false in cc)
    ]
