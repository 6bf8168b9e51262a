use Rattle.std.proofs.Common.{◌≡◌, ℕ, Option, None, IsSome, ap, sym, subst, ◌∙◌, arith}
use Rattle.std.specs.Option.{is_some}
use Rattle.std.specs.BTreeMap.{get}
use Rattle.cw_types.specs.Same.{tag_order}
use Rattle.cw_compact.proofs.Placed.{committed, aborted, opened, no_row}
use Rattle.cw_compact.proofs.outcomes.Outcomes.verdict.Goals as goal

pub returns-then-has_row : goal.returns-then-has_row
returns-then-has_row c = λ log entries known.
    committed entries c.args.tag.now (subst (λ (o : Option ℕ). IsSome o) (known.tables.commits c.args.tag.now) (c.has_row.ensures.0 c.if-has_row.true))

pub returns-then-tag-value_at : goal.returns-then-tag-value_at
returns-then-tag-value_at c = λ log entries known.
    let row : get tag_order c.args.self.now.commits c.args.tag.now ≡ None = no_row c.has_row.result _ c.has_row.ensures.1 c.if-has_row.false in
    let epoch = c.value_at.ensures ∙ known.tables.epochs c.args.tag.now.tid in
    aborted entries c.args.tag.now (ap is_some (sym (known.tables.commits c.args.tag.now) ∙ row)) (omega (arith, epoch, c.if-tag-value_at.true))

pub returns-else-tag-value_at : goal.returns-else-tag-value_at
returns-else-tag-value_at c = λ log entries known.
    let row : get tag_order c.args.self.now.commits c.args.tag.now ≡ None = no_row c.has_row.result _ c.has_row.ensures.1 c.if-has_row.false in
    let epoch = c.value_at.ensures ∙ known.tables.epochs c.args.tag.now.tid in
    opened entries c.args.tag.now (ap is_some (sym (known.tables.commits c.args.tag.now) ∙ row)) (omega (arith, epoch, c.if-tag-value_at.false))
