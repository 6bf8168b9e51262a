use Rattle.std.proofs.Common.{◌≡◌, ◌∙◌, ◌≤◌, ap, sym, subst}
use Rattle.cw_bytes.specs.Frames.{next_after}
use Rattle.cw_open.proofs.rising.Rising.add.Goals as goal
use Rattle.cw_laws.proofs.CompactStatuses.{next-push}

pub invariant_of-self : goal.invariant_of-self
invariant_of-self c =
    ap next_after c.and-self-inside.ensures
    ∙ next-push c.self.inside.passed.items c.args.applied.now (subst (λ l. next_after l ≤ c.args.applied.now.offset) (sym c.self.view_is) c.requires)
