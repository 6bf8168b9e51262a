use Rattle.std.proofs.Common.{◌≡◌, take}
use Rattle.cw_config.specs.Compaction.{configs_in}
use Rattle.cw_topics.proofs.opened.configs_of.Given as goal

abbrev pub invariant-loop-frame : goal.invariant-loop-frame
invariant-loop-frame l = l.records.items ≡ configs_in (take l.frame-index l.frames)
