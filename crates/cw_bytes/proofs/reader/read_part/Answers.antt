use Rattle.cw_bytes.proofs.Parts.{part_takes}
use Rattle.cw_bytes.proofs.reader.read_part.Goals as goal

pub invariant_of-from : goal.invariant_of-from
invariant_of-from c = (part_takes _ _ _ c.from.invariant c.in_ok-part.ensures).0.left

pub returns-clause-spelled : goal.returns-clause-spelled
returns-clause-spelled c =
    let t = part_takes _ _ _ c.from.invariant c.in_ok-part.ensures in
    rw (← c.from.view_is) (t.0.takes, t.1)
