-- Of each frame some records go, and then those of which none stays.
use Rattle.cw_model.proofs.Shorter.{config_length-compact, offsets_length-compact, status_length-compact}
use Rattle.cw_model.proofs.opening.compaction_lengthens_no_log.Goals as goal

pub returns-clause-config : goal.returns-clause-config
returns-clause-config c = config_length-compact

pub returns-clause-offsets : goal.returns-clause-offsets
returns-clause-offsets c = offsets_length-compact

pub returns-clause-status : goal.returns-clause-status
returns-clause-status c = status_length-compact
