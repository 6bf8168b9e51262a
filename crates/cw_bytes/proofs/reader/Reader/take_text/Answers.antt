use Rattle.cw_bytes.proofs.Widths.{text_takes}
use Rattle.cw_bytes.proofs.reader.Reader.take_text.Goals as goal

pub invariant_of-self : goal.invariant_of-self
invariant_of-self c = (text_takes _ _ _ c.self.invariant c.in_ok-text.ensures).0.left

pub returns-clause-spelled : goal.returns-clause-spelled
returns-clause-spelled c = let t = text_takes _ _ _ c.self.invariant c.in_ok-text.ensures in
    rw (← c.self.view_is) (t.0.takes, t.1)
