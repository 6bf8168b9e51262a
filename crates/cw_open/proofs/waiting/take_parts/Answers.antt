use Rattle.cw_open.proofs.OwnerLemmas.{parts_begin, parts_more, parts_not, parts_taken}
use Rattle.cw_open.proofs.waiting.take_parts.Goals as goal

pub loop-at-init : goal.loop-at-init
loop-at-init c = parts_begin c.args.parts.now c.args.index c.args.owners.now

pub returns-then-not-branch : goal.returns-then-not-branch
returns-then-not-branch c =
    parts_not c.args.parts.now c.args.index c.args.owners.now c.loop-at.at c.loop-at.owners c.loop-at.invariant c.index-parts-at.result c.loop-at-test.true c.index-parts-at.is
    c.take_part.new.owners c.take_part.new.owners c.in_ok-take_part.field-0 c.in_ok-take_part.ensures c.if-not-branch.true

pub loop-at-preserved : goal.loop-at-preserved
loop-at-preserved c =
    parts_more c.args.parts.now c.args.index c.args.owners.now c.loop-at.at c.loop-at.owners c.loop-at.invariant c.index-parts-at.result c.loop-at-test.true c.index-parts-at.is
    c.take_part.new.owners c.in_ok-take_part.field-0 c.in_ok-take_part.ensures c.if-not-branch.false

pub returns : goal.returns
returns c = parts_taken c.args.parts.now c.args.index c.args.owners.now c.loop-at.at c.loop-at.owners c.loop-at.invariant c.loop-at-test.false
