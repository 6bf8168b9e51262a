use Rattle.cw_rows.proofs.Restarts.{ends-none, ends-if}
use Rattle.std.proofs.Common.{sym, ◌∙◌}
use Rattle.cw_rows.proofs.crew.Crew.end_item_below.Goals as goal

pub loop-w-init : goal.loop-w-init
loop-w-init c = sym (ends-none c.args.item.now c.args.self.now)

pub loop-w-preserved : goal.loop-w-preserved
loop-w-preserved c = c.end_item_if.ensures ∙ ends-if c.args.item.now c.args.self.now c.loop-w.self c.loop-w.w c.loop-w.invariant
