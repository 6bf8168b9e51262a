use Rattle.cw_laws.proofs.Opens.{reopened-facts}
use Rattle.cw_laws.proofs.Reopens.{reopens}
use Rattle.cw_laws.proofs.opening_laws.written_logs_open_again.Goals as goal

pub returns-clause-stand : goal.returns-clause-stand
returns-clause-stand c = reopens

pub returns-clause-facts : goal.returns-clause-facts
returns-clause-facts c = reopened-facts
