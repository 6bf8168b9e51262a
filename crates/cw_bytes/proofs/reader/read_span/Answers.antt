use Rattle.cw_bytes.proofs.Parts.{span_takes}
use Rattle.cw_bytes.proofs.reader.read_span.Goals as goal

pub invariant_of-from : goal.invariant_of-from
invariant_of-from c = (span_takes _ _ _ c.from.invariant c.in_ok-span.ensures).0.left

pub returns-clause-spelled : goal.returns-clause-spelled
returns-clause-spelled c =
    let t = span_takes _ _ _ c.from.invariant c.in_ok-span.ensures in
    rw (← c.from.view_is) (t.0.takes, t.1)
