use Rattle.cw_config.proofs.Puts.{puts_connector, puts_task_row, puts_commit, puts_target, puts_fence}
use Rattle.cw_config.proofs.tables.Tables.put.Goals as goal

pub returns-in-Connector-clause-put : goal.returns-in-Connector-clause-put
returns-in-Connector-clause-put c = puts_connector c.args.added c.args.self.now c.fill_row.new.table c.in-Connector.name c.in-Connector.is c.fill_row.ensures

pub returns-in-Task-clause-put : goal.returns-in-Task-clause-put
returns-in-Task-clause-put c = puts_task_row c.args.added c.args.self.now c.fill_task.new.tasks c.in-Task.id c.generation-generation.result c.in-Task.is c.generation-generation.ensures c.fill_task.ensures

pub returns-in-Commit-clause-put : goal.returns-in-Commit-clause-put
returns-in-Commit-clause-put c = puts_commit c.args.added c.args.self.now c.fill_row-in-Commit.new.table c.in-Commit.name c.in-Commit.is c.fill_row-in-Commit.ensures

pub returns-in-Target-clause-put : goal.returns-in-Target-clause-put
returns-in-Target-clause-put c = puts_target c.args.added c.args.self.now c.fill_row-in-Target.new.table c.in-Target.name c.in-Target.is c.fill_row-in-Target.ensures

pub returns-in-Fencing-clause-put : goal.returns-in-Fencing-clause-put
returns-in-Fencing-clause-put c = puts_fence c.args.added c.args.self.now c.fill_row-in-Fencing.new.table c.in-Fencing.name c.in-Fencing.is c.fill_row-in-Fencing.ensures
