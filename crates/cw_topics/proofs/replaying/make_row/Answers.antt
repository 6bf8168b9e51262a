use Rattle.std.proofs.Common.{rules, ◌≡◌, ◌∙◌, None, ap}
use Rattle.std.specs.BTreeMap.{get}
use Rattle.cw_types.specs.Same.{tag_order}
use Rattle.cw_topics.proofs.Replays.{made-row}
use Rattle.cw_topics.proofs.replaying.make_row.Goals as goal

pub returns-clause-same : goal.returns-clause-same
returns-clause-same c =
    let none : get tag_order c.args.rows.now c.args.tag.now ≡ None = search rules in
    made-row c.in_ok-copy.field-0 c.args.rows.now c.insert.new.self c.new.result (λ q. search rules) (search rules) (ap (get tag_order c.args.rows.now) c.in_ok-copy.ensures ∙ none)
