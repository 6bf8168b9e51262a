use Rattle.std.proofs.Common.{◌<◌, List, [], length, arith}
use Rattle.cw_txn.specs.declared.entry.Entry.{Entry}
use Rattle.cw_gen.specs.Counts.{is_commit}
use Rattle.cw_gen.proofs.Counting.{count-within, frames-same}
use Rattle.cw_gen.proofs.commits.count_all.Goals as goal

pub overflow_add-commits : goal.overflow_add-commits
overflow_add-commits c =
    let frames : List (List Entry) = c.requires.0 in
    let has = c.requires.1 in
    let now = frames-same c.args.log.now c.loop-index.log frames c.loop-index.invariant.bodies c.loop-index.invariant.count has in
    let below : c.loop-index.index < length frames = omega (arith, has.count, c.count-index-end.ensures.count, c.loop-index-test.true) in
    omega (
      arith,
      has.few,
      c.loop-index.invariant.commits frames has,
      c.in_ok-commits.ensures.count frames now,
      count-within is_commit (λ (frame : List Entry). frame) frames c.loop-index.index [] below,
    )
