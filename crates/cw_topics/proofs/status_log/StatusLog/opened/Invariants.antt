use Rattle.std.proofs.Common.{◌≡◌, take}
use Rattle.cw_model.specs.Bodies.{statuses_in}
use Rattle.cw_topics.proofs.Opening.{listed}
use Rattle.cw_topics.proofs.status_log.StatusLog.opened.Given as goal

abbrev pub invariant-loop-frame : goal.invariant-loop-frame
invariant-loop-frame l = l.log ≡ listed (statuses_in (take l.frame-index l.frames))
