use Rattle.cw_bytes.proofs.Marks.{mark_takes}
use Rattle.cw_bytes.proofs.reader.read_mark.Goals as goal

pub invariant_of-from : goal.invariant_of-from
invariant_of-from c = (mark_takes _ _ _ c.from.invariant c.in_ok-mark.ensures).0.left

pub returns-clause-spelled : goal.returns-clause-spelled
returns-clause-spelled c =
    let t = mark_takes _ _ _ c.from.invariant c.in_ok-mark.ensures in
    rw (← c.from.view_is) (t.0.takes, t.1)
