-- A step that was handed what its poll takes: the scan of the feeds takes long, so a task makes it before its step,
-- which then writes what was cut (KIP-618). That a scan is handed is this project's own.
use Rattle.std.specs.Prelude.{ℕ, Option, Some, None, if◌then◌else◌}
use Rattle.cw_io.specs.Shelf.{Files}
use Rattle.cw_feed.specs.declared.cut.CutAnswer.{CutAnswer}
use Rattle.cw_feed.specs.declared.cut.CutAnswer.TheVariants.{AtEnd}
use Rattle.cw_model.specs.declared.did.Did.{Did}
use Rattle.cw_model.specs.declared.did.Did.TheVariants as did
use Rattle.cw_model.specs.declared.instance.Instance.{Instance}
use Rattle.cw_model.specs.declared.instance.InstancePhase.{InstancePhase}
use Rattle.cw_model.specs.declared.instance.InstancePhase.TheVariants as phase
use Rattle.cw_model.specs.State.{Setting, Cluster}
use Rattle.cw_model.specs.Lookups.{instance_of}
use Rattle.cw_model.specs.Answers.{Answer, answered}
use Rattle.cw_model.specs.Polls.{cut_at, source_turn}
use Rattle.cw_model.specs.Steps.{takes_cut, does, waits}

-- ---- a scan

-- the part of a turn, and what is cut of it; where no part has a turn, that all are at their end
abbrev pub found_at : Files → Instance → Option ℕ → ℕ × CutAnswer
found_at feeds i None = (0, AtEnd)
found_at feeds i (Some turn) = (turn, cut_at feeds i turn)

-- what a poll of a source's task takes
abbrev pub scan : Files → Instance → ℕ × CutAnswer
scan feeds i = found_at feeds i (source_turn feeds i)

-- ---- a step

-- the event of each phase; in Polling it takes what was handed
abbrev pub source_does : Setting → ℕ → (turn : ℕ) → CutAnswer → Cluster → InstancePhase → Answer Did
source_does setting i turn found s phase.Polling = takes_cut setting i s turn found
source_does setting i turn found s other = does setting i s other

-- a task's step
abbrev pub source_step : Setting → ℕ → (turn : ℕ) → CutAnswer → Cluster → Answer Did
source_step setting i turn found s =
    if waits (instance_of i s) s then answered did.Paused s
    else source_does setting i turn found s (instance_of i s).phase
