use Rattle.std.proofs.Common.{sym, ◌∙◌}
use Rattle.cw_plugin.proofs.ShareLemmas.{parted_none}
use Rattle.cw_plugin.proofs.shares.parted_up_to.Goals as goal

pub returns-then-count-eq0 : goal.returns-then-count-eq0
returns-then-count-eq0 c = parted_none c.args.most c.args.texts.now c.new.result.items (sym c.min-count.ensures ∙ c.if-count-eq0.true) c.new.ensures.items
