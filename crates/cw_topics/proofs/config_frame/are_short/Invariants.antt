use Rattle.std.proofs.Common.{All, take}
use Rattle.cw_bytes.specs.Spelling.{IsRecord}
use Rattle.cw_topics.proofs.config_frame.are_short.Given as goal

abbrev pub invariant-loop-one : goal.invariant-loop-one
invariant-loop-one l = All IsRecord (take l.one-index l.applied)
