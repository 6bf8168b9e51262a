use Rattle.cw_laws.proofs.NoHarm.{no-harm}
use Rattle.cw_laws.proofs.Opens.{left-opens}
use Rattle.cw_laws.proofs.opening_laws.left_logs_meet_no_harm.Goals as goal

pub returns-clause-none : goal.returns-clause-none
returns-clause-none c = λ stored s log at harm stand. no-harm stored s stand log at harm

pub returns-clause-left : goal.returns-clause-left
returns-clause-left c = left-opens
