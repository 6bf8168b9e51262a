-- A cluster as its script runs, and the files that its sinks' tasks fill: what a worker's tick and an instance's step
-- leave of both. Kafka Connect's sink tasks hand out records by themselves; that a script has them take steps is this
-- project's own.
use Rattle.std.specs.Prelude.{◌≡◌, ℕ, Bool, false, Option, Some, None, is_none, is_some, Result, if◌then◌else◌}
use Rattle.std.specs.Option.{option_map}
use Rattle.cw_io.specs.Shelf.{Files}
use Rattle.cw_model.specs.declared.did.Did.{Did}
use Rattle.cw_model.specs.declared.fault.WorldFault.{WorldFault}
use Rattle.cw_model.specs.declared.tick.Tick.{Tick}
use Rattle.cw_model.specs.State.{Setting, Cluster}
use Rattle.cw_model.specs.Answers.{Answer}
use Rattle.cw_model.specs.Lookups.{instance_of}
use Rattle.cw_model.specs.Polls.{Delivery}
use Rattle.cw_model.specs.Steps.{step}
use Rattle.cw_model.specs.Tick.{tick}
use Rattle.cw_edges.specs.Handing.{file_of, with_delivery}
use Rattle.cw_run.specs.Deliveries.{delivery_of, IsCutOff}

-- how far a script ran
pub record Ran : Type 0 where
  pub cluster : Cluster
  -- the files that sinks' tasks have filled, where the outlet tells them
  pub files : Option Files
  -- whether all logs tell what they hold
  pub tells : Bool

-- a cluster alone, of which no files are told
abbrev pub alone : Cluster → Ran
alone s = record { cluster = s; files = None; tells = false }

-- the same, with another cluster
abbrev pub with_cluster : Cluster → Ran → Ran
with_cluster s r = record r { cluster = s }

-- ---- turns

-- an answer or a refusal, and how far it ran
abbrev pub RanAnswer : Type 0 → Type 0
RanAnswer A = Result A WorldFault × Ran

-- what a cluster answers, where the files stay
abbrev pub ran_as : {A : Type 0} → Ran → Answer A → RanAnswer A
ran_as r done = (done.0, with_cluster done.1 r)

-- a worker ticks
abbrev pub ran_tick : ℕ → Ran → RanAnswer Tick
ran_tick w r = ran_as r (tick w r.cluster)

-- what the step of an instance delivers: nothing where all writing has ended, since it is refused then
abbrev pub delivered : ℕ → Cluster → Option Delivery
delivered i s = if is_none s.closed then delivery_of i s else None

-- the files behind the step of an instance
abbrev pub stepped_files : ℕ → Cluster → Option Files → Option Files
stepped_files i s files = option_map (with_delivery (file_of (instance_of i s)) (delivered i s)) files

-- an instance steps
abbrev pub ran_step : Setting → ℕ → Ran → RanAnswer Did
ran_step setting i r =
    let done = step setting i r.cluster in
    (done.0, record r { cluster = done.1; files = stepped_files i r.cluster r.files })

-- ---- a step that is cut off

-- an outlet failed in the step of an instance: where its files are told, a first part of the delivery was put there,
-- and the cluster is as it was
pub record IsCutIn (i : ℕ) (old new : Ran) : Type 0 where
  pub cluster : new.cluster ≡ old.cluster
  pub tells : new.tells ≡ old.tells
  pub told : is_some new.files ≡ is_some old.files
  pub files : (held : Files) → old.files ≡ Some held →
      (left : Files) × (new.files ≡ Some left) × IsCutOff i old.cluster held left
