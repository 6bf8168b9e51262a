use Rattle.cw_open.proofs.ConfigLemmas.{record_by}
use Rattle.cw_open.proofs.configs.take_record.Goals as goal

pub returns : goal.returns
returns c =
    record_by c.args.passed.now c.args.added.now c.in_ok-fits_behind.field-0 c.in_ok-fits_behind.ensures c.if-not-branch.false c.args.applied.now c.requires.read
    c.apply.new.passed c.in_ok-taken.taken c.in_ok-taken.ensures
