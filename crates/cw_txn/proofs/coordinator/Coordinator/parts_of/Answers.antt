use Rattle.std.proofs.Common.{◌∙◌, ap}
use Rattle.cw_txn.specs.History.{history}
use Rattle.cw_txn.proofs.Ended.{are_parts_of, are_ordered}
use Rattle.cw_txn.proofs.coordinator.Coordinator.parts_of.Goals as goal

pub returns-clause-parts : goal.returns-clause-parts
returns-clause-parts c = are_parts_of c.args.connector.now c.self.inside.tables.parts c.args.self.now.entries
    (λ part. c.self.invariant.kept.parts part ∙ ap (λ t. history part t.entries) c.self.view_is)
    c.in_ok-parts.ensures.ordered c.in_ok-parts.parts.items c.in_ok-parts.ensures.listed

pub returns-clause-ordered : goal.returns-clause-ordered
returns-clause-ordered c = are_ordered c.args.connector.now c.self.inside.tables.parts c.args.self.now.entries
    (λ part. c.self.invariant.kept.parts part ∙ ap (λ t. history part t.entries) c.self.view_is)
    c.in_ok-parts.ensures.ordered c.in_ok-parts.parts.items c.in_ok-parts.ensures.listed
