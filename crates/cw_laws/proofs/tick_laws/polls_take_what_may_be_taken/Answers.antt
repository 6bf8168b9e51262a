use Rattle.cw_laws.proofs.Runs.{lives-sound}
use Rattle.cw_laws.proofs.TaskSteps.{may-produce, may-deliver}
use Rattle.cw_laws.proofs.tick_laws.polls_take_what_may_be_taken.Goals as goal

pub returns-clause-source : goal.returns-clause-source
returns-clause-source c = λ setting s i turn to f. may-produce setting i turn to s (lives-sound s f.rows i)

pub returns-clause-sink : goal.returns-clause-sink
returns-clause-sink c = λ s i d. may-deliver i s d
