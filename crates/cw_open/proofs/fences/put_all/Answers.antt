use Rattle.std.proofs.Common.{sym, subst}
use Rattle.std.proofs.lemmas.List.{append-nil}
use Rattle.cw_open.specs.Standing.{AreFences}
use Rattle.cw_open.proofs.FenceLemmas.{frame_more, frame_all}
use Rattle.cw_open.proofs.fences.put_all.Goals as goal

pub loop-at-init : goal.loop-at-init
loop-at-init c = λ records kept. subst (AreFences c.args.table.now) (sym (append-nil records)) kept

pub loop-at-preserved : goal.loop-at-preserved
loop-at-preserved c = λ records kept.
    frame_more records c.args.frame.now c.loop-at.at c.index-frame-at.result c.loop-at-test.true c.index-frame-at.is c.put.new.table c.loop-at.table (c.loop-at.invariant records kept) c.in_ok-put.ensures

pub returns : goal.returns
returns c = λ records kept. frame_all records c.args.frame.now c.loop-at.at c.loop-at.table c.loop-at-test.false (c.loop-at.invariant records kept)
