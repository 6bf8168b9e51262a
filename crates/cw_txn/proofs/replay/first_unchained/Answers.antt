use Rattle.std.proofs.Common.{subst}
use Rattle.cw_txn.specs.Walk.{ChainsUpTo, IsChainTest}
use Rattle.cw_txn.proofs.WalkLemmas.{still_chains, still_first, first_here}
use Rattle.cw_txn.proofs.replay.first_unchained.Goals as goal

pub returns-in-Some : goal.returns-in-Some
returns-in-Some c entries gates entry aligned test upto = still_first entries gates entry c.args.gate aligned c.in-Some.first (subst (ChainsUpTo entries gates) c.in-Some.is upto)

pub returns-then-chains : goal.returns-then-chains
returns-then-chains c entries gates entry aligned test upto = still_chains entries gates entry c.args.gate aligned (subst (ChainsUpTo entries gates) c.in-None.is upto)
    (subst (IsChainTest entries entry) c.if-chains.true test)

pub returns-else-chains : goal.returns-else-chains
returns-else-chains c entries gates entry aligned test upto = first_here entries gates entry c.args.gate aligned (subst (ChainsUpTo entries gates) c.in-None.is upto)
    (subst (IsChainTest entries entry) c.if-chains.false test)
