use Rattle.cw_laws.proofs.run_laws.facts_are_safe.Goals as goal

pub returns-clause-safe : goal.returns-clause-safe
returns-clause-safe c = λ setting s f. f.safe

pub returns-clause-journal : goal.returns-clause-journal
returns-clause-journal c = λ setting s f. f.journal
