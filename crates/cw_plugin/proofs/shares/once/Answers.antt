use Rattle.cw_plugin.proofs.ShareLemmas.{once_begun, once_next, once_done}
use Rattle.cw_plugin.proofs.shares.once.Goals as goal

pub loop-text-init : goal.loop-text-init
loop-text-init c = once_begun c.new-found.result.items c.args.texts.now c.new-found.ensures.items

pub loop-text-preserved : goal.loop-text-preserved
loop-text-preserved c = once_next c.loop-text.found.items c.add_once.new.found.items c.args.texts.now c.loop-text.text-index c.text-item.result c.loop-text-test.true c.text-item.is c.in_ok-add_once.ensures c.loop-text.invariant

pub returns : goal.returns
returns c = once_done c.loop-text.found.items c.args.texts.now c.loop-text.text-index c.loop-text-test.false c.loop-text.invariant
