use Rattle.cw_bytes.proofs.Steps.{byte_takes}
use Rattle.cw_bytes.proofs.reader.Reader.take_u8.Goals as goal

pub invariant_of-self : goal.invariant_of-self
invariant_of-self c = (byte_takes _ _ _ c.self.invariant c.in_ok-byte.ensures).left
