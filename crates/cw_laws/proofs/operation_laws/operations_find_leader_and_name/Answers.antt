use Rattle.cw_laws.proofs.AllowedTasks.{name-facts}
use Rattle.cw_laws.proofs.Proposed.{ready-leads}
use Rattle.cw_laws.proofs.operation_laws.operations_find_leader_and_name.Goals as goal

pub returns-clause-leader : goal.returns-clause-leader
returns-clause-leader c = λ s w leader. ready-leads w leader s

pub returns-clause-name : goal.returns-clause-name
returns-clause-name c = λ setting s name f. (name-facts name s.configs f.logs.configs.allowed).config
