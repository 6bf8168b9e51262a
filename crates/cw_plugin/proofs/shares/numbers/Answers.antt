use Rattle.std.proofs.Common.{◌∙◌}
use Rattle.cw_plugin.proofs.ShareLemmas.{numbers_next}
use Rattle.cw_plugin.proofs.shares.numbers.Goals as goal

pub loop-number-preserved : goal.loop-number-preserved
loop-number-preserved c = numbers_next c.loop-number.texts.items c.push.new.self.items c.new.result c.loop-number.number-counter c.loop-number.invariant c.in_ok-push.ensures.items (c.new.ensures ∙ c.in_ok-to_string.ensures.ok)
