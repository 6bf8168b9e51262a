-- Whether an instance has nothing to do, as one sees without making its step: it ended, failed or is paused, or finds
-- nothing to poll.
use Rattle.std.specs.Prelude.{ℕ, Bool, true, false, is_none, if◌then◌else◌}
use Rattle.cw_model.specs.declared.instance.InstancePhase.{InstancePhase}
use Rattle.cw_model.specs.declared.instance.InstancePhase.TheVariants as phase
use Rattle.cw_model.specs.State.{Setting, Cluster}
use Rattle.cw_model.specs.Lookups.{instance_of}
use Rattle.cw_model.specs.Polls.{gathered, source_turn}
use Rattle.cw_model.specs.Steps.{waits}
use Rattle.cw_model.specs.Tasks.{is_sink}

-- by its phase
abbrev pub rests_in : Setting → ℕ → Cluster → InstancePhase → Bool
rests_in setting i s phase.Connector = true
rests_in setting i s phase.New = false
rests_in setting i s phase.Inited = false
rests_in setting i s phase.Verified = false
rests_in setting i s phase.Polling =
    if is_sink (instance_of i s) then is_none (gathered (instance_of i s) s.batches)
    else is_none (source_turn setting.feeds (instance_of i s))
rests_in setting i s phase.Produced = false
rests_in setting i s phase.Offered = false
rests_in setting i s phase.Delivered = false
rests_in setting i s phase.Failed = true
rests_in setting i s phase.Ended = true

-- a paused one rests, too
abbrev pub rests : Setting → ℕ → Cluster → Bool
rests setting i s =
    if waits (instance_of i s) s then true else rests_in setting i s (instance_of i s).phase
