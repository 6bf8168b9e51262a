use Rattle.cw_audit.proofs.ListedLemmas.{ids-listed, parts-listed, connectors-listed}
use Rattle.cw_audit.proofs.laws.reports_list_just_these.Goals as goal

pub returns : goal.returns
returns c = record { ids = ids-listed; parts = parts-listed; connectors = connectors-listed }
