use Rattle.std.proofs.Common.{rules, sym, ◌∙◌}
use Rattle.cw_offset.proofs.Made.{forgotten_keeps}
use Rattle.cw_offset.proofs.Changed.{gone_row}
use Rattle.cw_offset.proofs.tables.Tables.forget.Goals as goal

pub returns-then-is_past-clause-kept : goal.returns-then-is_past-clause-kept
returns-then-is_past-clause-kept c =
    forgotten_keeps c.args.self.now c.remove.new.self c.args.tag.now (sym c.is_past.ensures ∙ c.if-is_past.true) (gone_row c.args.tag.now c.args.self.now.waiting c.remove.new.self (λ q. search rules))
