-- What a directive does to a world, to an outlet, and to the answers that wait to be written. It is done, or refused,
-- as the definitions say; or memory is wanting or the outlet fails, and it is left on its way without an answer; or a
-- disk fails. This project's own.
use Rattle.std.specs.Prelude.{◌≡◌, ◌⊎◌, ◌≤◌, ℕ, List, [], ◌++◌, true, Option, Some, None, is_some, Result, Ok, Err}
use Rattle.std.specs.Prelude.{MatchResult}
use Rattle.cw_types.specs.Faults.{Rose}
use Rattle.cw_types.specs.declared.logs.LogName.{LogName}
use Rattle.cw_types.specs.declared.logs.DiskName.{DiskName}
use Rattle.cw_disk.specs.declared.device.Disk.{Ghosts}
use Rattle.cw_io.specs.declared.outlet.Outlet as outlet
use Rattle.cw_io.specs.Shelf.{Files}
use Rattle.cw_script.specs.declared.directive.Directive.{Directive}
use Rattle.cw_model.specs.State.{Setting}
use Rattle.cw_world.specs.Logs.{KeepsOn, view_in, faults_in}
use Rattle.cw_world.specs.World.{WorldState}
use Rattle.cw_world.specs.Write.{FailsOn}
use Rattle.cw_lines.specs.declared.end.DriveEnd.{DriveEnd}
use Rattle.cw_lines.specs.declared.end.DriveEnd.TheVariants.{StoreFault, OutletFault}
use Rattle.cw_lines.specs.Players.{is_amid, is_own}
use Rattle.cw_lines.specs.Plays.{Played}
use Rattle.cw_run.specs.Amid.{IsRanAmid, ran_behind}
use Rattle.cw_run.specs.Directives.{does}
use Rattle.cw_run.specs.Ran.{Ran}
use Rattle.cw_run.specs.Run.{played}
use Rattle.cw_cluster.specs.Breaking.{IsAlive, IsBrokenWith, ran_with}

-- what a directive plays: its answer, and how far it ran behind it
abbrev pub ran_played : Setting → Directive → Ran → Played Ran
ran_played setting directive r = played (does setting directive r.cluster).0 (ran_behind setting directive r)

-- it was left before it did anything, or on its way
abbrev pub IsLeftAmid : Setting → Directive → (r t : Ran) → Type 0
IsLeftAmid setting directive r t = (t ≡ r) ⊎ IsRanAmid setting directive r t

-- it was played, and the script goes on
pub record HasPlayed (played : Played Ran) (before after : List ℕ) (t : Ran) : Type 0 where
  pub goes_on : played.stop ≡ None
  pub store : t ≡ played.store
  pub text : after ≡ before ++ played.text

-- it was played, and ends the script
pub record HasEnded (played : Played Ran) (before after : List ℕ) (t : Ran) (alive : Type 0) (end : DriveEnd) : Type 0
  where
    pub own : is_own end ≡ true
    pub stop : played.stop ≡ Some end
    pub silent : played.text ≡ []
    pub store : t ≡ played.store
    pub text : after ≡ before
    pub lives : alive

-- for want of memory, or since the outlet failed, it was left on its way, and nothing is said
pub record HasLeft (amid : Ran → Type 0) (before after : List ℕ) (t : Ran) (alive : Type 0) (end : DriveEnd) : Type 0
  where
    pub because : is_amid end ≡ true
    pub is_amid : amid t
    pub text : after ≡ before
    pub lives : alive

-- a disk failed on its way: its count of faults rose in this call, and all writing has ended; this is left, and some
-- last words are said
pub record HasFailed {D : Type 0} (G : Ghosts D) (broken : List ℕ → Type 0) (old new : WorldState D)
    (before after : List ℕ) (end : DriveEnd) : Type 0 where
  pub log : LogName
  pub disk : DiskName
  pub count : ℕ
  pub fault : end ≡ StoreFault disk count
  pub fails : FailsOn log (faults_in G log old.logs) (faults_in G log new.logs) disk count
  pub said : List ℕ
  pub text : after ≡ before ++ said
  pub left : broken said

-- how it stopped
pub data HasStopped {D : Type 0} (G : Ghosts D) (played : Played Ran) (amid : Ran → Type 0)
    (broken : List ℕ → Type 0) (old new : WorldState D) (before after : List ℕ) (t : Ran) (end : DriveEnd) : Type 0
  where
    ended : HasEnded played before after t (IsAlive G new) end →
        HasStopped G played amid broken old new before after t end
    left : HasLeft amid before after t (IsAlive G new) end →
        HasStopped G played amid broken old new before after t end
    failed : HasFailed G broken old new before after end →
        HasStopped G played amid broken old new before after t end

-- What is played between two worlds, which may be left amid, and between the answers before and after: the running
-- cluster behind it, and what is left where a disk failed. Each log keeps on.
pub record IsPlayed {D : Type 0} (G : Ghosts D) (played : Played Ran) (amid : Ran → Type 0)
    (broken : List ℕ → Type 0) (old new : WorldState D) (t : Ran) (before after : List ℕ)
    (result : Result (Unit {0}) DriveEnd) : Type 0 where
  pub outcome : MatchResult result (λ done. HasPlayed played before after t × IsAlive G new)
      (HasStopped G played amid broken old new before after t)
  pub setting : new.setting ≡ old.setting
  pub name : new.name ≡ old.name
  pub keeps : (any : LogName) → KeepsOn (view_in G any old.logs) (view_in G any new.logs)
      (faults_in G any old.logs) (faults_in G any new.logs)

-- a directive is played between two worlds, and between the files that an outlet tells before and after
abbrev pub PlaysDirective : {D : Type 0} → Ghosts D → Directive → (old new : WorldState D) →
    (held kept : Option Files) → (before after : List ℕ) → Result (Unit {0}) DriveEnd → Type 0
PlaysDirective G directive old new held kept before after result =
    let r = ran_with G old held in
    IsPlayed G (ran_played old.setting directive r) (IsLeftAmid old.setting directive r)
    (IsBrokenWith G old.setting directive r new kept) old new (ran_with G new kept) before after result

-- what an outlet says of a call: it tells its files if it told them before, its count of faults didn't fall, and it
-- rose where the call ends by it
pub record IsOutletKept {U : Type 0} (O : outlet.Ghosts U) (old new : U) (result : Result (Unit {0}) DriveEnd) : Type 0
  where
    pub told : is_some (O.files new) ≡ is_some (O.files old)
    pub later : O.faults old ≤ O.faults new
    pub rose : result ≡ Err OutletFault → Rose (O.faults old) (O.faults new)
