use Rattle.std.proofs.Common.{refl}
use Rattle.cw_serve.proofs.ending.conclude.Goals as goal

pub returns-in-Err-clause-ledger : goal.returns-in-Err-clause-ledger
returns-in-Err-clause-ledger g c = λ agreed. absurd (agreed c.in-Err.disagree refl)

pub returns-in-Err-clause-same : goal.returns-in-Err-clause-same
returns-in-Err-clause-same g c = λ kept is agreed. absurd (agreed c.in-Err.disagree refl)
