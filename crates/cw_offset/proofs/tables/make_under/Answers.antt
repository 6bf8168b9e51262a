use Rattle.std.proofs.Common.{rules, ◌≡◌, ◌∙◌, None, ap}
use Rattle.cw_offset.specs.Tables.{under_at}
use Rattle.cw_offset.proofs.Changed.{new_kept}
use Rattle.cw_offset.proofs.tables.make_under.Goals as goal

pub returns-clause-kept : goal.returns-clause-kept
returns-clause-kept c =
    let none : under_at c.args.waiting.now c.args.tag.now ≡ None = search rules in
    new_kept c.in_ok-copy.field-0 c.args.waiting.now c.insert.new.self c.new.result (λ q. search rules) (ap (under_at c.args.waiting.now) c.in_ok-copy.ensures ∙ none)
