use Rattle.std.proofs.Common.{Some, subst}
use Rattle.std.specs.BTreeMap.{Updates}
use Rattle.cw_types.specs.declared.ids.Tag.{Tag}
use Rattle.cw_types.specs.Same.{tag_order}
use Rattle.cw_compact.proofs.Placed.{no_row}
use Rattle.cw_compact.proofs.Entered.{first_put}
use Rattle.cw_compact.proofs.outcomes.put_first.Goals as goal

pub returns : goal.returns
returns c =
    first_put c.args.tag.now c.args.commits.now c.insert.new.self c.args.place (no_row c.has_row.result _ c.has_row.ensures.1 c.if-has_row.false)
    (subst (λ (t : Tag). Updates tag_order c.args.commits.now c.insert.new.self t (Some c.args.place)) c.in_ok-copy.ensures c.in_ok-insert.ensures.updates)
