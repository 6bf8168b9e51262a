use Rattle.std.proofs.Common.{◌≡◌, ◌∙◌, ap, rules, true, None}
use Rattle.cw_serve.specs.Sharing.{SharedState, goes_on}
use Rattle.cw_serve.proofs.Keeping.{alive-on, stays_shared}
use Rattle.cw_serve.proofs.shared.Shared.clean.Goals as goal

pub invariant_of-self : goal.invariant_of-self
invariant_of-self g c =
    let on : goes_on c.args.self.now ≡ true = search rules in
    let alive : c.self.inside.world.state.closed ≡ None = ap (λ (s : SharedState g.row.D.Denot). s.world.state.closed) c.self.view_is ∙ alive-on c.args.self.now on in
    stays_shared c.self.invariant alive c.is_safe.ensures.facts c.compact-compacted.ensures.goes_on c.compact-compacted.ensures.kept
