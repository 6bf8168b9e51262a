use Rattle.cw_laws.proofs.Items.{fail-keeps}
use Rattle.cw_laws.proofs.Reports.{put_status-keeps}
use Rattle.cw_laws.proofs.report_laws.reports_keep_facts.Goals as goal

pub returns-clause-fail : goal.returns-clause-fail
returns-clause-fail c = λ setting s i trace. fail-keeps setting i trace s

pub returns-clause-put_status : goal.returns-clause-put_status
returns-clause-put_status c = λ setting s w item may. put_status-keeps setting w item s may
