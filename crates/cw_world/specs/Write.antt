-- What one write to a log does: the log has the body, or why it doesn't.
use Rattle.std.specs.Prelude.{◌≡◌, ◌⊎◌, ℕ, ◌+◌, true, false, List, [], ◌∷◌, ◌++◌, Some, Result, option_map, MatchResult}
use Rattle.cw_types.specs.declared.logs.LogName.{LogName}
use Rattle.cw_types.specs.declared.logs.DiskName.{DiskName}
use Rattle.cw_types.specs.Faults.{Rose}
use Rattle.cw_model.specs.declared.fault.WorldFault.{WorldFault}
use Rattle.cw_model.specs.declared.fault.WorldFault.TheVariants.{Fenced, StaleGeneration, PendingFence, BadCut, Gone}
use Rattle.cw_model.specs.declared.fault.WorldFault.TheVariants.{Full, StoreFault, Closed, Dead, Group, TooMany, Memory}
use Rattle.cw_model.specs.Bodies.{frame_of, has_room}
use Rattle.cw_model.specs.Reopening.{closed_by}
use Rattle.cw_rows.specs.Kept.{Kept}
use Rattle.cw_rows.specs.Writes.{bytes_in}
use Rattle.cw_world.specs.Logs.{LogView, HasSameBodies, KeepsOn, disk_of}

-- the log has the body too
pub record HasBody (body : List ℕ) (old new : LogView) : Type 0 where
  pub bodies : new.bodies ≡ option_map (λ list. list ++ body ∷ []) old.bodies
  pub size : new.size ≡ old.size + 1
  pub bytes : new.bytes ≡ old.bytes + frame_of body
  pub limit : new.limit ≡ old.limit
  pub number : new.number ≡ old.number
  pub alive : new.shut ≡ false

-- a disk of the log failed: its count of faults rose to what is told
pub record FailsOn (log : LogName) (before now : ℕ → ℕ) (disk : DiskName) (count : ℕ) : Type 0 where
  pub side : ℕ
  pub disk_is : disk ≡ disk_of log side
  pub count_is : count ≡ now side
  pub rose : Rose (before side) (now side)

-- what a write says of each of its faults
abbrev pub OnWriteFault : (full : LogName → ℕ → ℕ → Type 0) → (memory : Type 0) →
    (failed : DiskName → ℕ → Type 0) → WorldFault → Type 0
OnWriteFault full memory failed (Fenced own current) = ⊥
OnWriteFault full memory failed (StaleGeneration own current) = ⊥
OnWriteFault full memory failed PendingFence = ⊥
OnWriteFault full memory failed (BadCut from to) = ⊥
OnWriteFault full memory failed (Gone i) = ⊥
OnWriteFault full memory failed (Full log size frame) = full log size frame
OnWriteFault full memory failed (StoreFault disk count) = failed disk count
OnWriteFault full memory failed (Closed disk count) = ⊥
OnWriteFault full memory failed (Dead w) = ⊥
OnWriteFault full memory failed (Group fault) = ⊥
OnWriteFault full memory failed TooMany = ⊥
OnWriteFault full memory failed Memory = memory

-- the body stands in the log, which had room for it
pub record IsAppended (name : LogName) (body : List ℕ) (old new : LogView) (before after : Kept) : Type 0 where
  pub has : HasBody body old new
  pub room : has_room (bytes_in name before.state) (frame_of body) ≡ true
  pub kept : after ≡ before

-- the log has no room
pub record IsFull (name : LogName) (body : List ℕ) (old new : LogView) (before after : Kept) (log : LogName)
    (size frame : ℕ) : Type 0 where
  pub log_is : log ≡ name
  pub size_is : size ≡ bytes_in name before.state
  pub frame_is : frame ≡ frame_of body
  pub none : has_room (bytes_in name before.state) (frame_of body) ≡ false
  pub same : HasSameBodies old new
  pub shut : new.shut ≡ old.shut
  pub kept : after ≡ before

-- memory is wanting
pub record IsWanting (old new : LogView) (before after : Kept) : Type 0 where
  pub same : HasSameBodies old new
  pub shut : new.shut ≡ old.shut
  pub kept : after ≡ before

-- a disk failed, and all writing has ended; whichever image is left stands for the list before or the one with the body
pub record IsBroken (name : LogName) (body : List ℕ) (old new : LogView) (faults_old faults_new : ℕ → ℕ)
    (leaves_now : (List (List ℕ) → Type 0) → Type 0) (before after : Kept) (disk : DiskName) (count : ℕ) : Type 0 where
  pub room : has_room (bytes_in name before.state) (frame_of body) ≡ true
  pub fails : FailsOn name faults_old faults_new disk count
  pub same : HasSameBodies old new
  pub state : after.state ≡ closed_by disk count before.state
  pub setting : after.setting ≡ before.setting
  pub left : (list : List (List ℕ)) → old.bodies ≡ Some list →
      leaves_now (λ left. (left ≡ list) ⊎ (left ≡ list ++ body ∷ []))

-- one write of a body to the log of a name, between what the log told before and now, and the cluster; a stop at any
-- moment of it adds only the list before, or, where there was room, the one with the body
pub record IsWrite (name : LogName) (body : List ℕ) (old new : LogView) (faults_old faults_new : ℕ → ℕ)
    (adds leaves_now : (List (List ℕ) → Type 0) → Type 0) (before after : Kept) (result : Result (Unit {0}) WorldFault)
    : Type 0 where
  pub answer : MatchResult result (λ done. IsAppended name body old new before after) (OnWriteFault
      (IsFull name body old new before after)
      (IsWanting old new before after)
      (IsBroken name body old new faults_old faults_new leaves_now before after))
  pub leaves : (list : List (List ℕ)) → old.bodies ≡ Some list →
      adds (λ left. (left ≡ list) ⊎
      ((has_room (bytes_in name before.state) (frame_of body) ≡ true) × (left ≡ list ++ body ∷ [])))
  pub keeps : KeepsOn old new faults_old faults_new
