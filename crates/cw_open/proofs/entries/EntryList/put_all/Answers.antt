use Rattle.cw_open.proofs.Steps.{added_none, added_more, added_all}
use Rattle.cw_open.proofs.entries.EntryList.put_all.Goals as goal

pub loop-at-init : goal.loop-at-init
loop-at-init c = added_none c.args.self.now c.args.frame.now

pub loop-at-preserved : goal.loop-at-preserved
loop-at-preserved c =
    added_more c.args.self.now c.args.frame.now c.loop-at.at c.loop-at.self c.loop-at.invariant c.index-frame-at.result c.loop-at-test.true c.index-frame-at.is c.put.new.self c.in_ok-put.ensures

pub returns : goal.returns
returns c = added_all c.args.self.now c.args.frame.now c.loop-at.at c.loop-at.self c.loop-at.invariant c.loop-at-test.false
