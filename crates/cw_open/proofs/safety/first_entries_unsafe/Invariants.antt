use Rattle.cw_config.specs.Compaction.{configs_in}
use Rattle.cw_model.specs.StandsFor.{IsSafeEntry}
use Rattle.cw_open.proofs.Steps.{WalkedFrames}
use Rattle.cw_open.proofs.safety.first_entries_unsafe.Given as goal

abbrev pub invariant-loop-at : goal.invariant-loop-at
invariant-loop-at l = WalkedFrames (IsSafeEntry (configs_in l.configs) l.batches) l.frames l.at l.passed.entries
