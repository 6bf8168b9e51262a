use Rattle.cw_laws.proofs.Operations.{config-may, target-may, stop-may, delete-may}
use Rattle.cw_laws.proofs.operation_laws.operations_may_be_written.Goals as goal

pub returns-clause-config : goal.returns-clause-config
returns-clause-config c = config-may

pub returns-clause-target : goal.returns-clause-target
returns-clause-target c = target-may

pub returns-clause-stop : goal.returns-clause-stop
returns-clause-stop c = stop-may

pub returns-clause-delete : goal.returns-clause-delete
returns-clause-delete c = delete-may
