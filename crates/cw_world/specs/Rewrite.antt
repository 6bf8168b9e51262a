-- What the replacement of a log's whole list does, as a compaction makes it: the log has the new list on its other
-- side, or why it doesn't. That a log has two sides is this project's own.
use Rattle.std.specs.Prelude.{◌≡◌, ◌⊎◌, ℕ, ◌+◌, ◌-◌, ◌<◌, ◌^◌, false, List, length, Some, None, Option, Result}
use Rattle.std.specs.Prelude.{option_map, MatchResult}
use Rattle.cw_types.specs.declared.logs.LogName.{LogName}
use Rattle.cw_types.specs.declared.logs.DiskName.{DiskName}
use Rattle.cw_disk.specs.declared.device.Disk.{Ghosts}
use Rattle.cw_disk.specs.Disk.{AddsOf}
use Rattle.cw_log.specs.Log.{length_of}
use Rattle.cw_pair.specs.State.{PairState, StandsSince, bodies_of, disks_of, faults_of}
use Rattle.cw_model.specs.declared.fault.WorldFault.{WorldFault}
use Rattle.cw_model.specs.Reopening.{closed_by}
use Rattle.cw_rows.specs.Kept.{Kept}
use Rattle.cw_rows.specs.Writes.{bytes_in}
use Rattle.cw_world.specs.Logs.{PairLeavesNow, HasSameBodies, KeepsOn, view_of_pair}
use Rattle.cw_world.specs.Write.{FailsOn, OnWriteFault, IsWanting}

-- writing goes on, and behind the side with this number there is a next one
pub record MayTurn (closed : Option (DiskName × ℕ)) (side : ℕ) : Type 0 where
  pub alive : closed ≡ None
  pub next : side < 2 ^ 64 - 1

-- the log has just these bodies, on the side with the next number, which is told
pub record IsReplaced {D : Type 0} (G : Ghosts D) (bodies : List (List ℕ)) (side : ℕ) (old new : PairState D)
    (before after : Kept) : Type 0 where
  pub told : bodies_of G new ≡ option_map (λ list. bodies) (bodies_of G old)
  pub size : new.log.count ≡ length bodies
  pub bytes : new.log.length ≡ length_of bodies
  pub number : new.log.number ≡ old.log.number + 1
  pub side_is : side ≡ old.log.number + 1
  pub limit : new.log.limit ≡ old.log.limit
  pub alive : new.log.shut ≡ false
  pub kept : after ≡ before

-- the log's side has the greatest number
pub record IsWorn {D : Type 0} (name : LogName) (old new : PairState D) (before after : Kept) (log : LogName)
    (size frame : ℕ) : Type 0 where
  pub log_is : log ≡ name
  pub size_is : size ≡ bytes_in name before.state
  pub frame_is : frame ≡ 0
  pub greatest : old.log.number ≡ 2 ^ 64 - 1
  pub same : new ≡ old
  pub kept : after ≡ before

-- a disk failed, and all writing has ended; whichever images are left stand for the list before or for the new one
pub record IsLost {D : Type 0} (G : Ghosts D) (name : LogName) (bodies : List (List ℕ)) (old new : PairState D)
    (before after : Kept) (disk : DiskName) (count : ℕ) : Type 0 where
  pub fails : FailsOn name (faults_of G (disks_of old)) (faults_of G (disks_of new)) disk count
  pub same : HasSameBodies (view_of_pair G old) (view_of_pair G new)
  pub state : after.state ≡ closed_by disk count before.state
  pub setting : after.setting ≡ before.setting
  pub left : (list : List (List ℕ)) → bodies_of G old ≡ Some list →
      PairLeavesNow G new (λ left. (left ≡ list) ⊎ (left ≡ bodies))

-- one replacement of the list of the log of a name; a stop at any moment of it leaves the list before or the new one
pub record IsRewrite {D : Type 0} (G : Ghosts D) (name : LogName) (bodies : List (List ℕ)) (old new : PairState D)
    (before after : Kept) (result : Result ℕ WorldFault) : Type 0 where
  pub answer : MatchResult result (λ side. IsReplaced G bodies side old new before after) (OnWriteFault
      (IsWorn name old new before after)
      (IsWanting (view_of_pair G old) (view_of_pair G new) before after)
      (IsLost G name bodies old new before after))
  pub leaves : (list : List (List ℕ)) → bodies_of G old ≡ Some list →
      AddsOf (λ pair. length pair.past) (StandsSince G) old new (λ left. (left ≡ list) ⊎ (left ≡ bodies))
  pub keeps : KeepsOn (view_of_pair G old) (view_of_pair G new) (faults_of G (disks_of old))
      (faults_of G (disks_of new))
