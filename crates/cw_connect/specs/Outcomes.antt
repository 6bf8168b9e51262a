-- How a run of the command `drive` ended: nothing was opened, and why; or a cluster was opened, and what was read,
-- written and left is due over it. This project's own rule.
use Rattle.std.specs.Prelude.{◌≡◌, ◌⊎◌, ℕ}
use Rattle.cw_disk.specs.declared.device.Disk.{Ghosts}
use Rattle.cw_disk.specs.declared.disks.Disks.{Disks}
use Rattle.cw_io.specs.declared.outlet.Outlet as outlet
use Rattle.cw_io.specs.declared.shelf.Shelf as shelf
use Rattle.cw_io.specs.declared.traits.Source.{Ghosts as Input}
use Rattle.cw_io.specs.declared.traits.Sink.{Ghosts as Output}
use Rattle.cw_lines.specs.Due.{DrivesOver}
use Rattle.cw_lines.specs.Players.{player_of}
use Rattle.cw_lines.specs.declared.end.DriveEnd.{DriveEnd}
use Rattle.cw_log.specs.declared.fault.Harm.{Harm}
use Rattle.cw_model.specs.State.{Setting}
use Rattle.cw_open.specs.OpenedFrom.{DisksStay}
use Rattle.cw_types.specs.declared.logs.DiskName.{DiskName}
use Rattle.cw_words.specs.declared.command.Options.{Options}
use Rattle.cw_run.specs.Ran.{Ran}
use Rattle.cw_run.specs.Rules.{drive_rules}
use Rattle.cw_cluster.specs.Driven.{IsLeft, IsLeftBroken}
use Rattle.cw_connect.specs.Opening.{IsSetFor, IsOpenedFrom}
use Rattle.cw_connect.specs.Statuses.{status_of_end}
use Rattle.cw_connect.specs.declared.status.Status.{Status}
use Rattle.cw_connect.specs.declared.status.Status.TheVariants.{Done, Usage, BadScript, TooLong, ReadFault, WriteFault}
use Rattle.cw_connect.specs.declared.status.Status.TheVariants.{StoreFault, Damaged, ShelfFault, OutletFault, NetFault}
use Rattle.cw_connect.specs.declared.status.Status.TheVariants.{Full, Memory, Disagree}

-- what was left of the disks where the run ended before a cluster was opened: where the shelf failed they weren't
-- touched, and else a stop leaves of each what it might have left before, or a file of the same list
abbrev pub Leaves : {D : Type 0} → Ghosts D → Status → (old new : Disks D) → Type 0
Leaves G ShelfFault old new = new ≡ old
Leaves G (Damaged disk at harm) old new = DisksStay G old new
Leaves G (StoreFault disk count) old new = DisksStay G old new
Leaves G Memory old new = (new ≡ old) ⊎ DisksStay G old new
Leaves G Done old new = ⊥
Leaves G Usage old new = ⊥
Leaves G (BadScript line kind) old new = ⊥
Leaves G (TooLong count) old new = ⊥
Leaves G ReadFault old new = ⊥
Leaves G WriteFault old new = ⊥
Leaves G OutletFault old new = ⊥
Leaves G NetFault old new = ⊥
Leaves G (Full log length frame) old new = ⊥
Leaves G (Disagree at kept found) old new = ⊥

-- no cluster was opened: nothing was read, written or handed out
pub record IsNotOpened {D : Type 0} (G : Ghosts D) (status : Status) (untouched : Type 0) (old new : Disks D) : Type 0
  where
    pub nothing : untouched
    pub left : Leaves G status old new

-- A cluster was opened from the disks and the shelf, and the script was driven over it: what was read and written is
-- due, and the disks hold what stands in the state that is left, whatever a stop leaves of them.
pub record IsDriven {D I O H U : Type 0} (G : Ghosts D) (i : Input I) (o : Output O) (S : shelf.Ghosts H)
    (u : outlet.Ghosts U) (options : Options) (status : Status) (on : H) (in_old in_new : I) (out_old out_new : O)
    (old new : Disks D) (outlet_old outlet_new : U) : Type 0 where
  pub setting : Setting
  pub ran : Ran
  pub set : IsSetFor S options on setting
  pub from : IsOpenedFrom G old setting ran.cluster ran.tells
  pub files : ran.files ≡ u.files outlet_old
  pub end : DriveEnd
  pub status_is : status ≡ status_of_end end
  pub drives : DrivesOver i o (player_of drive_rules setting) (drive_rules.amid setting) end ran in_old in_new
      out_old out_new (IsLeft G u new outlet_new) (IsLeftBroken G u setting new outlet_new)

-- either way
abbrev pub IsRun : {D I O H U : Type 0} → Ghosts D → Input I → Output O → shelf.Ghosts H → outlet.Ghosts U → Options →
    Status → (on : H) → (in_old in_new : I) → (out_old out_new : O) → (old new : Disks D) →
    (outlet_old outlet_new : U) → Type 0
IsRun G i o S u options status on in_old in_new out_old out_new old new outlet_old outlet_new =
    IsNotOpened G status ((in_new ≡ in_old) × (out_new ≡ out_old) × (outlet_new ≡ outlet_old)) old new
    ⊎ IsDriven G i o S u options status on in_old in_new out_old out_new old new outlet_old outlet_new

-- files whose first harm is this one are refused for it, unless an object failed or memory was wanting before
abbrev pub IsRefusedFor : (at : DiskName) → (place : ℕ) → (harm : Harm) → Status → Type 0
IsRefusedFor at place harm (Damaged disk gate what) = (disk ≡ at) × (gate ≡ place) × (what ≡ harm)
IsRefusedFor at place harm (StoreFault disk count) = Unit {0}
IsRefusedFor at place harm ShelfFault = Unit {0}
IsRefusedFor at place harm Memory = Unit {0}
IsRefusedFor at place harm Done = ⊥
IsRefusedFor at place harm Usage = ⊥
IsRefusedFor at place harm (BadScript line kind) = ⊥
IsRefusedFor at place harm (TooLong count) = ⊥
IsRefusedFor at place harm ReadFault = ⊥
IsRefusedFor at place harm WriteFault = ⊥
IsRefusedFor at place harm OutletFault = ⊥
IsRefusedFor at place harm NetFault = ⊥
IsRefusedFor at place harm (Full log length frame) = ⊥
IsRefusedFor at place harm (Disagree number kept found) = ⊥
