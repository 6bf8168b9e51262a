use Rattle.cw_laws.proofs.Ticks.{may-join, may-plan, may-claim, mark-parts, may-start, report-parts}
use Rattle.cw_laws.proofs.Workers.{sound_at}
use Rattle.cw_laws.proofs.tick_laws.rules_make_events_that_may_be_made.Goals as goal

pub returns-clause-join : goal.returns-clause-join
returns-clause-join c = λ s w. may-join w s

pub returns-clause-plan : goal.returns-clause-plan
returns-clause-plan c = λ setting s w f. may-plan w s (sound_at s f.rows w)

pub returns-clause-lead : goal.returns-clause-lead
returns-clause-lead c = λ s w. may-claim w s

pub returns-clause-mark : goal.returns-clause-mark
returns-clause-mark c = λ s w log. mark-parts w log s

pub returns-clause-start : goal.returns-clause-start
returns-clause-start c = λ s w item. may-start w item s

pub returns-clause-report : goal.returns-clause-report
returns-clause-report c = λ s w i. report-parts w i s
