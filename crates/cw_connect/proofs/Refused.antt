-- What the status of a run says of why it ended.
use Rattle.std.proofs.Common.{◌≡◌, ◌≤◌, ℕ, subst, arith}
use Rattle.cw_lines.specs.Players.{Faults, Caused, HasRisen}
use Rattle.cw_lines.specs.declared.end.DriveEnd.{DriveEnd}
use Rattle.cw_lines.specs.declared.end.DriveEnd.TheVariants as end
use Rattle.cw_log.specs.declared.fault.Harm.{Harm}
use Rattle.cw_open.specs.Reopened.{OnReopenCause}
use Rattle.cw_open.specs.declared.reopen_fault.ReopenCause.{ReopenCause}
use Rattle.cw_open.specs.declared.reopen_fault.ReopenCause.TheVariants as cause
use Rattle.cw_types.specs.Faults.{Rose}
use Rattle.cw_types.specs.declared.logs.DiskName.{DiskName}
use Rattle.cw_connect.specs.Statuses.{status_of_cause, status_of_end}
use Rattle.cw_connect.specs.declared.status.Status.TheVariants.{StoreFault, Damaged}

-- disks that weren't opened
module _ (damaged : DiskName → ℕ → Harm → Type 0) (failed : DiskName → ℕ → Type 0) (memory : Type 0) where
  pub damaged_by : (why : ReopenCause) → OnReopenCause damaged failed memory why → (disk : DiskName) (at : ℕ) (harm : Harm) → status_of_cause why ≡ Damaged disk at harm → damaged disk at harm
  damaged_by (cause.Damaged disk' at' harm') on disk at harm is =
      let same_disk : disk' ≡ disk = cc in
      let same_at : at' ≡ at = cc in
      let same_harm : harm' ≡ harm = cc in
      subst (λ (h : Harm). damaged disk at h) same_harm (subst (λ (n : ℕ). damaged disk n harm') same_at (subst (λ (d : DiskName). damaged d at' harm') same_disk on))
  damaged_by (cause.StoreFault disk' count) on disk at harm is = cc
  damaged_by cause.Memory on disk at harm is = cc

-- a count that didn't fall and then rose, rose
pub rose_from : (before mid now : ℕ) → before ≤ mid → Rose mid now → Rose before now
rose_from before mid now later rose = omega (arith, later, rose)

-- a count that fell at neither of two steps fell nowhere
pub later_from : (before mid now : ℕ) → before ≤ mid → mid ≤ now → before ≤ now
later_from before mid now first second = omega (arith, first, second)

-- a script that ended
module _ (read written : Type 0) (old new : Faults) where
  pub ended_store : (e : DriveEnd) → Caused read written old new e → (disk : DiskName) (count : ℕ) → status_of_end e ≡ StoreFault disk count → HasRisen (old.disks disk) (new.disks disk) count
  ended_store (end.StoreFault disk' count') caused disk count is =
      let same_disk : disk' ≡ disk = cc in
      let same_count : count' ≡ count = cc in
      subst (λ (n : ℕ). HasRisen (old.disks disk) (new.disks disk) n) same_count (subst (λ (d : DiskName). HasRisen (old.disks d) (new.disks d) count') same_disk caused)
  ended_store end.Done caused disk count is = cc
  ended_store (end.BadScript line kind) caused disk count is = cc
  ended_store (end.TooLong most) caused disk count is = cc
  ended_store end.ReadFault caused disk count is = cc
  ended_store end.WriteFault caused disk count is = cc
  ended_store end.OutletFault caused disk count is = cc
  ended_store (end.Full log length frame) caused disk count is = cc
  ended_store end.Memory caused disk count is = cc
