use Rattle.std.proofs.Common.{rules, refl, sym}
use Rattle.cw_offset.specs.Tables.{MakesRows}
use Rattle.cw_offset.proofs.Changed.{changed_row}
use Rattle.cw_offset.proofs.tables.make_part_under.Goals as goal

pub returns-in-Some-clause-made : goal.returns-in-Some-clause-made
returns-in-Some-clause-made c =
    changed_row c.args.tag.now c.args.waiting.now (c.get_mut.follows.lender (record c.in-Some.under.now { parts = c.make_part.new.parts })) (record c.in-Some.under.now { parts = c.make_part.new.parts }) (λ q. search rules)
    MakesRows c.in-Some.under.now (sym c.in-Some.ensures.value) (record { first = refl; same = c.make_part.ensures.same; kept = c.make_part.ensures.kept })
