use Rattle.std.proofs.Common.{◌≡◌, true, false, length, sym, ap, ◌∙◌, arith}
use Rattle.std.specs.Str.{bytes_eq}
use Rattle.cw_txn.specs.Legal.{is_committed}
use Rattle.cw_gen.proofs.Counting.{open-batch, committed-batch}
use Rattle.cw_gen.proofs.records.count_of_batch.Goals as goal

pub returns-then-is_committed : goal.returns-then-is_committed
returns-then-is_committed c =
    let own : bytes_eq c.args.topic.now c.args.batch.now.topic ≡ true = grind (arith, c.if-ne.false, c.ne.ensures, c.as_bytes.ensures.bytes, c.as_bytes-2.ensures.bytes) in
    let is : is_committed c.args.batch.now.tag c.args.txn.now.entries ≡ true = grind (arith, c.if-is_committed.true, c.is_committed.ensures) in
    ap length c.as_slice.ensures ∙ sym (committed-batch c.args.txn.now.entries c.args.topic.now c.args.batch.now own is)

pub returns : goal.returns
returns c =
    let undecided : is_committed c.args.batch.now.tag c.args.txn.now.entries ≡ false = grind (arith, c.if-is_committed.false, c.is_committed.ensures) in
    sym (open-batch c.args.txn.now.entries c.args.topic.now c.args.batch.now undecided)
