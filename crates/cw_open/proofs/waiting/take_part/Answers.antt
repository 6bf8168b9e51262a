use Rattle.std.proofs.Common.{sym, ◌∙◌}
use Rattle.cw_open.proofs.OwnerLemmas.{part_not, part_taken}
use Rattle.cw_open.proofs.waiting.take_part.Goals as goal

pub returns-then-is_others : goal.returns-then-is_others
returns-then-is_others c = part_not c.args.part.now c.args.index c.args.owners.now c.args.owners.now (sym c.is_others.ensures ∙ c.if-is_others.true)

pub returns : goal.returns
returns c = part_taken c.args.part.now c.args.index c.args.owners.now c.own.new.owners (sym c.is_others.ensures ∙ c.if-is_others.false) c.in_ok-own.ensures
