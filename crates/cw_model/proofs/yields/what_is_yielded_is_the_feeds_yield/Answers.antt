-- The feeds yield something there, which is what is yielded.
use Rattle.cw_model.proofs.Lines.{Yield-yielded}
use Rattle.cw_model.proofs.yields.what_is_yielded_is_the_feeds_yield.Goals as goal

pub returns : goal.returns
returns c = λ feeds part from to has. let there = c.yields_are_one.ensures.exist feeds part from to has in Yield-yielded feeds part from to there.0 there.1
