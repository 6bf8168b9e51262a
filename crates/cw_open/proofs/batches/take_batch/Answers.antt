use Rattle.std.proofs.Common.{refl}
use Rattle.cw_open.proofs.BatchLemmas.{batch_not, takes_batch}
use Rattle.cw_open.proofs.batches.take_batch.Goals as goal

pub returns-then-not-may_stand : goal.returns-then-not-may_stand
returns-then-not-may_stand c =
    batch_not c.args.entries.now c.args.passed.now c.args.batch.now c.in_ok-key.key c.in_ok-key.ensures c.may_stand.result c.may_stand.ensures c.if-not-may_stand.true c.args.passed.now

pub returns : goal.returns
returns c =
    takes_batch c.args.entries.now c.args.passed.now c.args.batch.now c.in_ok-key.key c.in_ok-key.ensures c.may_stand.result c.may_stand.ensures c.if-not-may_stand.false
    _ c.in_ok-note.ensures c.in_ok-add.ensures refl
