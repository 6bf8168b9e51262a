use Rattle.cw_bytes.proofs.Producers.{tid_takes}
use Rattle.cw_bytes.proofs.reader.read_tid.Goals as goal

pub invariant_of-from : goal.invariant_of-from
invariant_of-from c = (tid_takes _ _ _ c.from.invariant c.in_ok-tid.ensures).0.left

pub returns-clause-spelled : goal.returns-clause-spelled
returns-clause-spelled c =
    let t = tid_takes _ _ _ c.from.invariant c.in_ok-tid.ensures in
    rw (← c.from.view_is) (t.0.takes, t.1)
