use Rattle.std.proofs.Common.{arith}
use Rattle.std.proofs.lemmas.Grind.{common_steps}
use Rattle.cw_bytes.specs.Reading.{raw_part_at, part_at, span_at}
use Rattle.cw_bytes.proofs.fields.span_onto.Goals as goal

pub returns-in_err-number-in-1-clause-fault : goal.returns-in_err-number-in-1-clause-fault
unfolding span_at part_at raw_part_at
returns-in_err-number-in-1-clause-fault c = grind (arith, common_steps)

pub returns-in_err-start-in-1-clause-fault : goal.returns-in_err-start-in-1-clause-fault
unfolding span_at part_at raw_part_at
returns-in_err-start-in-1-clause-fault c = grind (arith, common_steps)

pub returns-in_err-end-in-1-clause-fault : goal.returns-in_err-end-in-1-clause-fault
unfolding span_at part_at raw_part_at
returns-in_err-end-in-1-clause-fault c = grind (arith, common_steps)

pub returns-in_ok-push-in-1-clause-put : goal.returns-in_ok-push-in-1-clause-put
unfolding span_at part_at raw_part_at
returns-in_ok-push-in-1-clause-put c = grind (arith, common_steps)
