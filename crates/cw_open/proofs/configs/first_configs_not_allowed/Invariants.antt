use Rattle.cw_open.proofs.ConfigLemmas.{WalkedConfigLog}
use Rattle.cw_open.proofs.configs.first_configs_not_allowed.Given as goal

abbrev pub invariant-loop-at : goal.invariant-loop-at
invariant-loop-at l = WalkedConfigLog l.frames l.at l.passed
