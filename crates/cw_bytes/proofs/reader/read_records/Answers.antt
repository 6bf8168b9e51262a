use Rattle.cw_bytes.proofs.Records.{records_takes}
use Rattle.cw_bytes.proofs.reader.read_records.Goals as goal

pub invariant_of-from : goal.invariant_of-from
invariant_of-from c = (records_takes _ _ _ c.from.invariant c.in_ok-records.ensures).0.left

pub returns-clause-spelled : goal.returns-clause-spelled
returns-clause-spelled c =
    let t = records_takes _ _ _ c.from.invariant c.in_ok-records.ensures in
    rw (← c.from.view_is) (t.0.takes, t.1)
