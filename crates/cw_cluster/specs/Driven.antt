-- What a script that was driven over a world leaves: of the eight disks files that stand for the state that is left,
-- whichever images a stop leaves of them, and the outlet with what was handed out. This project's own.
use Rattle.std.specs.Prelude.{◌≡◌, ◌⊎◌, ℕ, true, List, Some, Ok}
use Rattle.cw_disk.specs.declared.device.Disk.{Ghosts}
use Rattle.cw_disk.specs.declared.disks.Disks.{Disks}
use Rattle.cw_io.specs.declared.outlet.Outlet as outlet
use Rattle.cw_script.specs.declared.directive.Directive.{Directive}
use Rattle.cw_script.specs.Lines.{line_of}
use Rattle.cw_lines.specs.Players.{Faults}
use Rattle.cw_model.specs.State.{Setting, Cluster}
use Rattle.cw_model.specs.Reopening.{stored_of}
use Rattle.cw_world.specs.Ending.{disks_of}
use Rattle.cw_world.specs.World.{WorldState}
use Rattle.cw_open.specs.Leaving.{LeaveLists, MayLeaveAll, StandForLists}
use Rattle.cw_open.specs.Reopened.{DiskFiles, disk_in}
use Rattle.cw_run.specs.Flight.{IsInFlight, IsLastWord}
use Rattle.cw_run.specs.Ran.{Ran}

-- the counts of faults of eight disks and an outlet
abbrev pub faults_at : {D U : Type 0} → Ghosts D → outlet.Ghosts U → Disks D → U → Faults
faults_at G O disks out = record { disks = λ name. G.count (disk_in name disks); outlet = O.faults out }

-- the same of a world that has them
abbrev pub faults_of : {D U : Type 0} → Ghosts D → outlet.Ghosts U → WorldState D → U → Faults
faults_of G O world out = faults_at G O (disks_of world.logs) out

-- the disks hold what stands in a running cluster, whatever a stop leaves of them, and the outlet has its files
pub record IsLeft {D U : Type 0} (G : Ghosts D) (O : outlet.Ghosts U) (given : Disks D) (out : U) (ran : Ran) : Type 0
  where
    pub disks : ran.tells ≡ true → LeaveLists G given (stored_of ran.cluster)
    pub files : O.files out ≡ ran.files

-- A disk failed in a line that was played from a running cluster: a stop leaves of the disks just files that stand for
-- the state before the event in flight or for the one behind it.
pub record IsLeftBroken {D U : Type 0} (G : Ghosts D) (O : outlet.Ghosts U) (setting : Setting) (given : Disks D)
    (out : U) (number : ℕ) (line : List ℕ) (ran : Ran) (said : List ℕ) : Type 0 where
  pub directive : Directive
  pub line_is : line_of line ≡ Ok (Some directive)
  pub at : Ran
  pub next : Cluster
  pub in_flight : IsInFlight setting directive ran at next
  pub disks : at.tells ≡ true → (images : DiskFiles) → MayLeaveAll G given images →
      StandForLists images (stored_of at.cluster) ⊎ StandForLists images (stored_of next)
  pub files : O.files out ≡ at.files
  pub last : IsLastWord directive said
