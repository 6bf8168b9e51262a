use Rattle.std.proofs.Common.{◌≡◌, List, refl}
use Rattle.std.proofs.lemmas.Result.{IfOk-weaker}
use Rattle.cw_bytes.specs.Frames.{joined}
use Rattle.cw_txn.specs.declared.entry.Entry.{Entry}
use Rattle.cw_gen.specs.Counts.{HasFrames, HoldsFrames, commit_count}
use Rattle.cw_gen.proofs.Counting.{frames-found, only-memory}
use Rattle.cw_gen.proofs.commits.count_commits.Goals as goal

pub count_all-requires : goal.count_all-requires
count_all-requires c = (
  c.requires.0,
  frames-found c.files_read_one_way.ensures.list c.in-Ok.log c.args.disk.held.bytes.items
      (c.in-Ok.ensures.list c.args.disk.held.bytes.items refl) c.rest.ensures.count c.requires.0 c.requires.1,
)

pub unreachable-requires : goal.unreachable-requires
unreachable-requires c = only-memory _ _ c.in-Err.fault.cause c.in-Err.ensures.cause
    (λ at harm why. c.files_read_one_way.ensures.none _ _ _ at harm c.requires.1.stands (why.1 c.args.disk.held.bytes.items refl)) c.in-Damaged.is

pub returns-in-Ok : goal.returns-in-Ok
returns-in-Ok c =
    IfOk-weaker c.count_all.result
    (λ n. (frames : List (List Entry)) → HasFrames c.in-Ok.log frames → n ≡ commit_count (joined frames))
    (λ n. (frames : List (List Entry)) → HoldsFrames c.args.disk.held.bytes.items frames → n ≡ commit_count (joined frames))
    (λ n is frames holds. is frames (frames-found c.files_read_one_way.ensures.list c.in-Ok.log c.args.disk.held.bytes.items
    (c.in-Ok.ensures.list c.args.disk.held.bytes.items refl) c.rest.ensures.count frames holds))
    c.count_all.ensures
