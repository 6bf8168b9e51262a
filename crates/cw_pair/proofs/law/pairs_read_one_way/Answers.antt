use Rattle.cw_pair.proofs.Harms.{one_pair_harm}
use Rattle.cw_pair.proofs.Pairs.{pair_one, pair_sound}
use Rattle.cw_pair.proofs.law.pairs_read_one_way.Goals as goal

pub returns-clause-list : goal.returns-clause-list
returns-clause-list c = pair_one

pub returns-clause-none : goal.returns-clause-none
returns-clause-none c = pair_sound

pub returns-clause-harm : goal.returns-clause-harm
returns-clause-harm c = one_pair_harm
