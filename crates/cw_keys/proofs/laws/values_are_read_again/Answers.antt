use Rattle.cw_keys.proofs.Values.{config_law, status_law, offset_law}
use Rattle.cw_keys.proofs.laws.values_are_read_again.Goals as goal

pub returns-clause-config : goal.returns-clause-config
returns-clause-config c = config_law

pub returns-clause-status : goal.returns-clause-status
returns-clause-status c = status_law

pub returns-clause-offset : goal.returns-clause-offset
returns-clause-offset c = offset_law
