use Rattle.std.proofs.Common.{rules, ◌≡◌, sym}
use Rattle.cw_offset.specs.declared.under.Under.{Under}
use Rattle.cw_offset.specs.Rows.{begun}
use Rattle.cw_offset.proofs.Changed.{changed_row}
use Rattle.cw_offset.proofs.tables.begin_at.Goals as goal

pub returns-in-Some-clause-changes : goal.returns-in-Some-clause-changes
returns-in-Some-clause-changes c =
    changed_row c.args.tag.now c.args.waiting.now (c.get_mut.follows.lender c.begin.new.self) c.begin.new.self (λ q. search rules)
    (λ (was now : Under). now ≡ begun c.args.place was) c.in-Some.under.now (sym c.in-Some.ensures.value) c.begin.ensures.begun
