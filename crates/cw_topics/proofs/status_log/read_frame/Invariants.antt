use Rattle.std.proofs.Common.{◌≡◌, ◌++◌, take}
use Rattle.std.specs.List.{filter_map}
use Rattle.cw_model.specs.Bodies.{status_in}
use Rattle.cw_topics.proofs.Opening.{listed}
use Rattle.cw_topics.proofs.status_log.read_frame.Given as goal

abbrev pub invariant-loop-applied : goal.invariant-loop-applied
invariant-loop-applied l = l.log ≡ listed (l.initial.log.list ++ filter_map status_in (take l.applied-index l.frame))
