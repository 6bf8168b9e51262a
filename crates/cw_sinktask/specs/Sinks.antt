-- What a step of a sink's task does to the world and to the outlet: where it polls, it puts what it gathers into its
-- file, and then the world knows that (Kafka Connect's WorkerSinkTask hands out before it commits an offset).
use Rattle.std.specs.Prelude.{◌≡◌, ◌≤◌, ℕ, Some, is_some, Result, Ok, Err}
use Rattle.cw_types.specs.Faults.{Rose}
use Rattle.cw_io.specs.declared.outlet.Outlet as outlet
use Rattle.cw_io.specs.Shelf.{Files}
use Rattle.cw_disk.specs.declared.device.Disk.{Ghosts}
use Rattle.cw_model.specs.declared.did.Did.{Did}
use Rattle.cw_model.specs.Lookups.{instance_of}
use Rattle.cw_model.specs.Polls.{Delivery}
use Rattle.cw_model.specs.State.{Cluster}
use Rattle.cw_model.specs.Steps.{step}
use Rattle.cw_edges.specs.Handing.{file_of, hands_out, with_delivery}
use Rattle.cw_edges.specs.Poured.{IsPouredInPart}
use Rattle.cw_world.specs.World.{WorldState, Acts}
use Rattle.cw_sinktask.specs.declared.fault.SinkFault.{SinkFault}
use Rattle.cw_sinktask.specs.declared.fault.SinkFault.TheVariants.{World, Outlet}

-- a first part of what is handed out was put into its file
pub record IsCutOff (i : ℕ) (s : Cluster) (held left : Files) : Type 0 where
  pub delivery : Delivery
  pub is : hands_out i s ≡ Some delivery
  pub part : IsPouredInPart (file_of (instance_of i s)) delivery.lines held left

-- what a step leaves of the outlet's files
abbrev pub Leaves : ℕ → Cluster → Result Did SinkFault → (held left : Files) → Type 0
Leaves i s (Ok did) held left = left ≡ with_delivery (file_of (instance_of i s)) (hands_out i s) held
Leaves i s (Err (World fault)) held left = left ≡ held
Leaves i s (Err Outlet) held left = IsCutOff i s held left

-- what a step does to the world: what the model's step does, and nothing where the outlet failed
abbrev pub ActsOrNot : {D : Type 0} → Ghosts D → ℕ → (old new : WorldState D) → Result Did SinkFault → Type 0
ActsOrNot D i old new (Ok did) = Acts D (step old.setting i) old new (Ok did)
ActsOrNot D i old new (Err (World fault)) = Acts D (step old.setting i) old new (Err fault)
ActsOrNot D i old new (Err Outlet) = new ≡ old

-- where the outlet failed, its count of faults rose
abbrev pub IsCounted : (before after : ℕ) → Result Did SinkFault → Type 0
IsCounted before after (Ok did) = Unit {0}
IsCounted before after (Err (World fault)) = Unit {0}
IsCounted before after (Err Outlet) = Rose before after

-- what a step of a sink's task does
pub record Sinks {D U : Type 0} (G : Ghosts D) (O : outlet.Ghosts U) (i : ℕ) (old new : WorldState D) (before after : U)
    (result : Result Did SinkFault) : Type 0 where
  pub world : ActsOrNot G i old new result
  pub files : (held : Files) → O.files before ≡ Some held →
      (left : Files) × (O.files after ≡ Some left) × Leaves i old.state result held left
  pub told : is_some (O.files after) ≡ is_some (O.files before)
  pub later : O.faults before ≤ O.faults after
  pub counted : IsCounted (O.faults before) (O.faults after) result
