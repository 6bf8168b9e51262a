use Rattle.std.proofs.Common.{rules, sym}
use Rattle.cw_offset.specs.Tables.{Puts}
use Rattle.cw_offset.proofs.Changed.{changed_row}
use Rattle.cw_offset.proofs.tables.put_under.Goals as goal

pub returns-in-Some : goal.returns-in-Some
returns-in-Some c =
    changed_row c.args.tag.now c.args.waiting.now (c.get_mut.follows.lender c.put.new.self) c.put.new.self (λ q. search rules)
    (Puts c.args.place c.args.part.now c.args.to) c.in-Some.under.now (sym c.in-Some.ensures.value) (record { first = c.put.ensures.first; parts = c.put.ensures.parts })
