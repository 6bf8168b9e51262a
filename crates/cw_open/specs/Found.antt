-- What is said of all logs that are judged: nothing lacks, or what is met first, and where.
use Rattle.std.specs.Prelude.{Option, Some, None}
use Rattle.cw_types.specs.declared.logs.LogName.{LogName}
use Rattle.cw_model.specs.StandsFor.{Frames, Judgement, AreSound, IsFirstOf, allowing_of, safety_of}
use Rattle.cw_open.specs.declared.first_harm.FramePlace.{FramePlace}
use Rattle.cw_open.specs.declared.first_harm.FirstHarm.{FirstHarm}
use Rattle.cw_open.specs.declared.first_harm.FirstHarm.TheVariants.{NotAllowed, Unsafe}

-- all logs are sound, or the first that isn't lacks something first at this place
abbrev pub SaysFirst : (LogName → Judgement) → Option FramePlace → Type 0
SaysFirst judge None = AreSound judge
SaysFirst judge (Some place) = IsFirstOf judge place.log place.at

-- all frames are allowed and safe, or the first that isn't allowed; or all are allowed, and the first that isn't safe
abbrev pub SaysHarm : Frames → Option FirstHarm → Type 0
SaysHarm frames None = AreSound (allowing_of frames) × AreSound (safety_of frames)
SaysHarm frames (Some (NotAllowed place)) = IsFirstOf (allowing_of frames) place.log place.at
SaysHarm frames (Some (Unsafe place)) = AreSound (allowing_of frames) × IsFirstOf (safety_of frames) place.log place.at
