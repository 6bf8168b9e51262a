use Rattle.cw_sourcetask.proofs.Batches.{polls-some}
use Rattle.cw_sourcetask.proofs.laws.batches_take_some.Goals as goal

pub returns : goal.returns
returns c = λ setting s i facts polling. polls-some setting s i facts polling
