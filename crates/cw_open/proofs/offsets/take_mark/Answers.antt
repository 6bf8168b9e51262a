use Rattle.std.proofs.Common.{refl}
use Rattle.cw_open.proofs.OffsetLemmas.{unmarked, takes_mark}
use Rattle.cw_open.proofs.offsets.take_mark.Goals as goal

pub returns-then-not-is_allowed_mark : goal.returns-then-not-is_allowed_mark
returns-then-not-is_allowed_mark c =
    unmarked c.args.entries.now c.args.passed.now c.args.mark.now c.is_allowed_mark.result c.is_allowed_mark.ensures c.if-not-is_allowed_mark.true c.args.passed.now

pub returns : goal.returns
returns c = takes_mark c.args.entries.now c.args.passed.now c.args.mark.now c.is_allowed_mark.result c.is_allowed_mark.ensures c.if-not-is_allowed_mark.false _ refl refl c.in_ok-add.ensures
