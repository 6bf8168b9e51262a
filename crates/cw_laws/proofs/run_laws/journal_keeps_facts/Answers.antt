use Rattle.cw_laws.proofs.Calls.{journal-keeps}
use Rattle.cw_laws.proofs.run_laws.journal_keeps_facts.Goals as goal

pub returns : goal.returns
returns c = record { journal = λ setting s e may. journal-keeps setting e s may }
