-- What a step of an instance does to the world and to the outlet: a sink's task may hand out records into its file, and
-- any other leaves the outlet as it is.
use Rattle.std.specs.Prelude.{◌≡◌, ◌≤◌, ℕ, Some, is_some, Result, Ok, Err}
use Rattle.cw_io.specs.declared.outlet.Outlet as outlet
use Rattle.cw_io.specs.Shelf.{Files}
use Rattle.cw_disk.specs.declared.device.Disk.{Ghosts}
use Rattle.cw_model.specs.declared.did.Did.{Did}
use Rattle.cw_model.specs.Lookups.{instance_of}
use Rattle.cw_model.specs.State.{Cluster}
use Rattle.cw_edges.specs.Handing.{file_of, with_delivery}
use Rattle.cw_world.specs.World.{WorldState}
use Rattle.cw_sinktask.specs.declared.fault.SinkFault.{SinkFault}
use Rattle.cw_sinktask.specs.declared.fault.SinkFault.TheVariants.{World, Outlet}
use Rattle.cw_sinktask.specs.Sinks.{ActsOrNot, IsCounted}
use Rattle.cw_run.specs.Deliveries.{delivery_of, IsCutOff}

-- what a step leaves of the outlet's files
abbrev pub Leaves : ℕ → Cluster → Result Did SinkFault → (held left : Files) → Type 0
Leaves i s (Ok did) held left = left ≡ with_delivery (file_of (instance_of i s)) (delivery_of i s) held
Leaves i s (Err (World fault)) held left = left ≡ held
Leaves i s (Err Outlet) held left = IsCutOff i s held left

-- what a step does
pub record Steps {D U : Type 0} (G : Ghosts D) (O : outlet.Ghosts U) (i : ℕ) (old new : WorldState D) (before after : U)
    (result : Result Did SinkFault) : Type 0 where
  pub world : ActsOrNot G i old new result
  pub files : (held : Files) → O.files before ≡ Some held →
      (left : Files) × (O.files after ≡ Some left) × Leaves i old.state result held left
  pub told : is_some (O.files after) ≡ is_some (O.files before)
  pub later : O.faults before ≤ O.faults after
  pub counted : IsCounted (O.faults before) (O.faults after) result
