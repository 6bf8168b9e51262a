use Rattle.std.proofs.Common.{◌∙◌, ◌++◌, ap}
use Rattle.cw_open.proofs.Steps.{joined_more, joined_all}
use Rattle.cw_open.proofs.entries.EntryList.of.Goals as goal

pub loop-at-init : goal.loop-at-init
loop-at-init c = c.new-list.ensures

pub loop-at-preserved : goal.loop-at-preserved
loop-at-preserved c =
    joined_more c.args.frames.now c.loop-at.at c.loop-at.list c.loop-at.invariant c.index-frames-at.result c.loop-at-test.true c.index-frames-at.is c.put_all.new.self
    (c.in_ok-put_all.ensures ∙ ap (λ l. c.loop-at.list ++ l) c.as_slice.ensures)

pub returns : goal.returns
returns c = joined_all c.args.frames.now c.loop-at.at c.loop-at.list c.loop-at.invariant c.loop-at-test.false
