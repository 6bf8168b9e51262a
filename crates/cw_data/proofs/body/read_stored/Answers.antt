use Rattle.std.proofs.Common.{arith}
use Rattle.std.proofs.lemmas.Grind.{common_steps}
use Rattle.cw_data.specs.BodyReading.{stored_at, named_at, spanned_at}
use Rattle.cw_data.proofs.body.read_stored.Goals as goal

pub returns-in_err-span : goal.returns-in_err-span
unfolding stored_at named_at spanned_at
returns-in_err-span c = grind (arith, common_steps)

pub returns-in_err-values : goal.returns-in_err-values
unfolding stored_at named_at spanned_at
returns-in_err-values c = grind (arith, common_steps)

pub returns : goal.returns
unfolding stored_at named_at spanned_at
returns c = grind (arith, common_steps)
