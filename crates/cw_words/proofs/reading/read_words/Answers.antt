use Rattle.cw_words.proofs.Readings.{is_asked, is_unasked, not_both, refused, taken}
use Rattle.cw_words.proofs.Ranges.{read_in_range}
use Rattle.cw_words.proofs.reading.read_words.Goals as goal

-- src/reading.rt:91:1
pub returns-in-Ok-clause-asked : goal.returns-in-Ok-clause-asked
returns-in-Ok-clause-asked c = is_asked c.command_in.result _ _
    (taken _ _ c.in-Ok.matches c.in_ok-program.ensures c.in-Ok.ensures.matches c.in-Ok.ensures.kinds) c.command_in.ensures

-- src/reading.rt:91:1
pub returns-in-Ok-clause-ranges : goal.returns-in-Ok-clause-ranges
returns-in-Ok-clause-ranges c = read_in_range _ c.command_in.result (returns-in-Ok-clause-asked c)

pub returns-in-Ok-clause-usage : goal.returns-in-Ok-clause-usage
returns-in-Ok-clause-usage c = is_unasked c.command_in.result _ _
    (taken _ _ c.in-Ok.matches c.in_ok-program.ensures c.in-Ok.ensures.matches c.in-Ok.ensures.kinds) c.command_in.ensures

-- src/reading.rt:91:1
pub returns-in-Err-clause-usage : goal.returns-in-Err-clause-usage
returns-in-Err-clause-usage c usage = refused _ _ c.in-Err.error c.in_ok-program.ensures c.in-Err.ensures.kinds
    (λ memory. not_both c.fault_of.result usage (c.fault_of.ensures.memory memory))
