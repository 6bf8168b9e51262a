use Rattle.std.proofs.Common.{◌≡◌, take, map}
use Rattle.cw_model.specs.Bodies.{config_applied}
use Rattle.cw_topics.proofs.config_frame.applied_of.Given as goal

abbrev pub invariant-loop-one : goal.invariant-loop-one
invariant-loop-one l = l.applied.items ≡ map config_applied (take l.one-index l.records)
