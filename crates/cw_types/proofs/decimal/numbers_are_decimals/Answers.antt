use Rattle.cw_types.proofs.Decimals.{number_only, number_again}
use Rattle.cw_types.proofs.decimal.numbers_are_decimals.Goals as goal

pub returns-clause-again : goal.returns-clause-again
returns-clause-again c = number_again

pub returns-clause-only : goal.returns-clause-only
returns-clause-only c = number_only
