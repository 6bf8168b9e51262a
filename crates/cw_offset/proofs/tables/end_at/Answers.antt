use Rattle.std.proofs.Common.{rules, sym}
use Rattle.cw_offset.proofs.Changed.{ended_row}
use Rattle.cw_offset.proofs.tables.end_at.Goals as goal

pub returns-clause-rows : goal.returns-clause-rows
returns-clause-rows c =
    ended_row c.args.tag.now c.args.waiting.now (c.get_mut.follows.lender c.end.new.self) c.end.new.self (λ q. search rules)
    c.in_ok-get_mut.field-0.now (sym c.in_ok-get_mut.ensures.value) c.end.ensures.ended
