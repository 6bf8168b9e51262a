use Rattle.std.proofs.Common.{◌≡◌, rules, None}
use Rattle.cw_serve.proofs.Keeping.{stays_shared}
use Rattle.cw_serve.proofs.shared.Shared.take_found.Goals as goal

pub invariant_of-self : goal.invariant_of-self
invariant_of-self g c =
    let alive : c.self.inside.world.state.closed ≡ None = search rules in
    stays_shared c.self.invariant alive c.is_safe.ensures.facts c.step_found-did.ensures.goes_on c.step_found-did.ensures.kept
