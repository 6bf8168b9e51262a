-- A player in the middle of a script that is made from a number, and what it counted at its end. This project's own.
use Rattle.std.specs.Prelude.{◌≡◌, ℕ, ◌+◌, ◌<◌, ◌≤◌, ◌^◌, true, List, length, min, Some, None, codes}
use Rattle.cw_disk.specs.declared.device.Disk.{Ghosts}
use Rattle.cw_script.specs.declared.directive.Directive.{Directive}
use Rattle.cw_script.specs.Spelling.{IsSayable, spelled}
use Rattle.cw_lines.specs.declared.end.DriveEnd.{DriveEnd}
use Rattle.cw_lines.specs.declared.end.DriveEnd.TheVariants as ends
use Rattle.cw_lines.specs.Lines.{is_line}
use Rattle.cw_lines.specs.Plays.{Played}
use Rattle.cw_model.specs.Facts.{AreFacts}
use Rattle.cw_model.specs.Reopening.{stored_of}
use Rattle.cw_model.specs.State.{Setting, Cluster}
use Rattle.cw_world.specs.World.{WorldState}
use Rattle.cw_open.specs.Leaving.{LeaveLists}
use Rattle.cw_cluster.specs.Breaking.{IsAlive, tell_all}
use Rattle.cw_run.specs.Run.{missing}
use Rattle.cw_gen.specs.Counts.{commit_count, committed_count}
use Rattle.cw_gen.specs.Scripts.{making, next_in, one_if, played_in, run_of, says_fenced}
use Rattle.cw_gen.specs.declared.making.Unfinished.{Unfinished}
use Rattle.cw_gen.specs.declared.making.Unfinished.TheVariants.{Full, Memory}
use Rattle.cw_gen.specs.declared.summing.Behind.{Behind}
use Rattle.cw_gen.specs.declared.summing.Sums.{Sums}

-- the world behind these lines, which didn't end their script: the first three made a worker each
pub record StandsBehind {D : Type 0} (G : Ghosts D) (setting : Setting) (lines : List (List ℕ)) (world : WorldState D)
    : Type 0 where
  pub setting_is : world.setting ≡ setting
  pub alive : IsAlive G world
  pub tells : tell_all G world.logs ≡ true
  pub goes_on : (run_of setting lines).stop ≡ None
  pub state_is : world.state ≡ (run_of setting lines).store
  pub crowd : min (length lines) 3 ≤ length world.state.rows

-- a directive can be played there: one line spells it, which isn't too long, and it names nobody who never was
pub record IsPlayable (d : Directive) (s : Cluster) : Type 0 where
  pub line : is_line (spelled d) ≡ true
  pub short : length (spelled d) ≤ 65536
  pub sayable : IsSayable d
  pub there : missing d s ≡ None

-- a line was played between two worlds, and didn't end the script; and its answer waits
pub record HasPlayed {D : Type 0} (G : Ghosts D) (played : Played Cluster) (old new : WorldState D) (answers : List ℕ)
    : Type 0 where
  pub goes_on : played.stop ≡ None
  pub state_is : new.state ≡ played.store
  pub text : answers ≡ played.text
  pub setting : new.setting ≡ old.setting
  pub alive : IsAlive G new
  pub tells : tell_all G new.logs ≡ tell_all G old.logs

-- a directive more was made and played, and its answer read: the draws went on from one number to another
pub record HasTurned {D : Type 0} (G : Ghosts D) (setting : Setting) (count : ℕ) (s : Cluster) (number after : ℕ)
    (fenced : ℕ) (new : WorldState D) : Type 0 where
  pub number_is : after ≡ (next_in count s number).number
  pub line : is_line (spelled (next_in count s number).directive) ≡ true
  pub goes_on : (played_in setting count s number).stop ≡ None
  pub state_is : new.state ≡ (played_in setting count s number).store
  pub fenced_is : fenced ≡
      one_if (says_fenced (next_in count s number).directive (played_in setting count s number).text)
  pub setting_is : new.setting ≡ setting
  pub alive : IsAlive G new
  pub tells : tell_all G new.logs ≡ true
  pub crowd : min (count + 1) 3 ≤ length new.state.rows

-- what was played ended the script since a log was full; for want of memory nothing is said
abbrev pub EndsSo : Played Cluster → Unfinished → Type 0
EndsSo played (Full log length frame) = played.stop ≡ Some (ends.Full log length frame)
EndsSo played Memory = Unit {0}

-- the directive that was due ended the script so
abbrev pub StopsSo : Setting → (count : ℕ) → Cluster → (number : ℕ) → Unfinished → Type 0
StopsSo setting count s number (Full log length frame) =
    (is_line (spelled (next_in count s number).directive) ≡ true) ×
    EndsSo (played_in setting count s number) (Full log length frame)
StopsSo setting count s number Memory = Unit {0}

-- an end that an event may have, where no disk fails
abbrev pub IsUnfinished : DriveEnd → Type 0
IsUnfinished ends.Done = ⊥
IsUnfinished (ends.BadScript line kind) = ⊥
IsUnfinished (ends.TooLong count) = ⊥
IsUnfinished ends.ReadFault = ⊥
IsUnfinished ends.WriteFault = ⊥
IsUnfinished (ends.StoreFault disk count) = ⊥
IsUnfinished ends.OutletFault = ⊥
IsUnfinished (ends.Full log length frame) = Unit {0}
IsUnfinished ends.Memory = Unit {0}

-- it is this one
abbrev pub IsSame : DriveEnd → Unfinished → Type 0
IsSame end (Full log length frame) = end ≡ ends.Full log length frame
IsSame end Memory = Unit {0}

-- what is behind a whole script: how many answers said that a step was fenced, how many records are committed, and what
-- a stop leaves of the disks
pub record AreBehind {D : Type 0} (G : Ghosts D) (setting : Setting) (start count : ℕ) (behind : Behind D) : Type 0
  where
    pub goes_on : (run_of setting (making setting start count).lines).stop ≡ None
    pub fenced : behind.fenced ≡ (making setting start count).fenced
    pub records : behind.records ≡ committed_count (codes "t")
        (run_of setting (making setting start count).lines).store.entries
        (run_of setting (making setting start count).lines).store.batches
    pub disks : LeaveLists G behind.disks (stored_of (run_of setting (making setting start count).lines).store)
    pub facts : AreFacts setting (run_of setting (making setting start count).lines).store
    pub few : length (run_of setting (making setting start count).lines).store.entries < 2 ^ 64

-- what a run came to
pub record AreSums (setting : Setting) (start count : ℕ) (sums : Sums) : Type 0 where
  pub goes_on : (run_of setting (making setting start count).lines).stop ≡ None
  pub commits : sums.commits ≡ commit_count (run_of setting (making setting start count).lines).store.entries
  pub fenced : sums.fenced ≡ (making setting start count).fenced
  pub records : sums.records ≡ committed_count (codes "t")
      (run_of setting (making setting start count).lines).store.entries
      (run_of setting (making setting start count).lines).store.batches
