use Rattle.cw_open.proofs.ConfigLemmas.{WalkedConfigs}
use Rattle.cw_open.proofs.configs.take_frame.Given as goal

abbrev pub invariant-loop-at : goal.invariant-loop-at
invariant-loop-at l = WalkedConfigs l.initial.passed l.frame l.at l.passed
