use Rattle.std.proofs.Common.{◌≡◌, List, take}
use Rattle.cw_bytes.specs.Frames.{joined}
use Rattle.cw_txn.specs.declared.entry.Entry.{Entry}
use Rattle.cw_gen.specs.Counts.{HasFrames, commit_count}
use Rattle.cw_gen.proofs.commits.count_all.Given as goal

abbrev pub invariant-loop-index : goal.invariant-loop-index
invariant-loop-index l = record {
  bodies : l.log.bodies ≡ l.fn.log.bodies;
  count : l.log.count ≡ l.fn.log.count;
  commits : (frames : List (List Entry)) → HasFrames l.fn.log frames → l.commits ≡ commit_count (joined (take l.index frames));
}
