use Rattle.cw_bytes.proofs.Producers.{tag_takes}
use Rattle.cw_bytes.proofs.reader.read_tag.Goals as goal

pub invariant_of-from : goal.invariant_of-from
invariant_of-from c = (tag_takes _ _ _ c.from.invariant c.in_ok-tag.ensures).0.left

pub returns-clause-spelled : goal.returns-clause-spelled
returns-clause-spelled c =
    let t = tag_takes _ _ _ c.from.invariant c.in_ok-tag.ensures in
    rw (← c.from.view_is) (t.0.takes, t.1)
