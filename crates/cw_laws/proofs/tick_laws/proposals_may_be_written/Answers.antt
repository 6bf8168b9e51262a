use Rattle.cw_laws.proofs.Proposed.{tasks-may, commit-may}
use Rattle.cw_laws.proofs.tick_laws.proposals_may_be_written.Goals as goal

pub returns-clause-tasks : goal.returns-clause-tasks
returns-clause-tasks c = tasks-may

pub returns-clause-commit : goal.returns-clause-commit
returns-clause-commit c = commit-may
