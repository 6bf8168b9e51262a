use Rattle.cw_laws.proofs.Deliver.{deliver-keeps}
use Rattle.cw_laws.proofs.Sinks.{put_sink-keeps}
use Rattle.cw_laws.proofs.sink_laws.sinks_keep_facts.Goals as goal

pub returns-clause-deliver : goal.returns-clause-deliver
returns-clause-deliver c = λ setting s i turn to may. deliver-keeps setting i turn to s may

pub returns-clause-put_sink : goal.returns-clause-put_sink
returns-clause-put_sink c = λ setting s i to may. put_sink-keeps setting i to s may
