use Rattle.cw_txn.proofs.AllowedLemmas.{allowed_is_legal, allowed_is_numbered, allowed-bump, allowed-commit, allowed-task_commit, allowed-lead_set, allowed-task_set}
use Rattle.cw_txn.proofs.coordinator.lists_stay_allowed.Goals as goal

pub returns-clause-legal : goal.returns-clause-legal
returns-clause-legal c = allowed_is_legal

pub returns-clause-numbered : goal.returns-clause-numbered
returns-clause-numbered c = allowed_is_numbered

pub returns-clause-bump : goal.returns-clause-bump
returns-clause-bump c = allowed-bump

pub returns-clause-commit : goal.returns-clause-commit
returns-clause-commit c = allowed-commit

pub returns-clause-task_commit : goal.returns-clause-task_commit
returns-clause-task_commit c = allowed-task_commit

pub returns-clause-lead_set : goal.returns-clause-lead_set
returns-clause-lead_set c = allowed-lead_set

pub returns-clause-task_set : goal.returns-clause-task_set
returns-clause-task_set c = allowed-task_set
