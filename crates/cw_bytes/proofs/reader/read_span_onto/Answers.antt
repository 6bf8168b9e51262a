use Rattle.cw_bytes.proofs.Parts.{span_takes}
use Rattle.cw_bytes.proofs.reader.read_span_onto.Goals as goal

pub invariant_of-from : goal.invariant_of-from
invariant_of-from c = (span_takes _ _ _ c.from.invariant c.in_ok-from-inside.ensures.put.1).0.left
