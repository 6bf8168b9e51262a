use Rattle.cw_laws.proofs.Markers.{data-markers, offset-markers, taken-committed}
use Rattle.cw_laws.proofs.log_laws.markers_tell_how_transactions_ended.Goals as goal

pub returns-clause-data : goal.returns-clause-data
returns-clause-data c = data-markers

pub returns-clause-offsets : goal.returns-clause-offsets
returns-clause-offsets c = offset-markers

pub returns-clause-taken : goal.returns-clause-taken
returns-clause-taken c = taken-committed
