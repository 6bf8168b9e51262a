-- What an instance hands out at its next step, whatever it is: a sink's task may hand out records into its file, and
-- any other nothing.
use Rattle.std.specs.Prelude.{◌≡◌, ℕ, Option, Some, None, if◌then◌else◌}
use Rattle.cw_io.specs.Shelf.{Files}
use Rattle.cw_model.specs.Lookups.{instance_of}
use Rattle.cw_model.specs.Polls.{Delivery}
use Rattle.cw_model.specs.State.{Cluster}
use Rattle.cw_model.specs.Tasks.{is_sink}
use Rattle.cw_edges.specs.Handing.{file_of, hands_out}
use Rattle.cw_edges.specs.Poured.{IsPouredInPart}

-- what an instance hands out at its next step, where it does
abbrev pub delivery_of : ℕ → Cluster → Option Delivery
delivery_of i s = if is_sink (instance_of i s) then hands_out i s else None

-- a first part of it was put into its file
pub record IsCutOff (i : ℕ) (s : Cluster) (held left : Files) : Type 0 where
  pub delivery : Delivery
  pub is : delivery_of i s ≡ Some delivery
  pub part : IsPouredInPart (file_of (instance_of i s)) delivery.lines held left
