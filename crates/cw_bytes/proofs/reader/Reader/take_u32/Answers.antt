use Rattle.cw_bytes.proofs.Widths.{word_takes}
use Rattle.cw_bytes.proofs.reader.Reader.take_u32.Goals as goal

pub invariant_of-self : goal.invariant_of-self
invariant_of-self c = (word_takes _ _ _ c.self.invariant c.in_ok-number.ensures).0.left

pub returns-clause-spelled : goal.returns-clause-spelled
returns-clause-spelled c = rw (← c.self.view_is) (word_takes _ _ _ c.self.invariant c.in_ok-number.ensures).0.takes
