-- What a line of a script does to a world, to an outlet, and to the answers that wait to be written: its directive is
-- played, and of a line that is none nothing. This project's own.
use Rattle.std.specs.Prelude.{◌≡◌, ◌⊎◌, ℕ, List, [], ◌∷◌, Option, Some, is_some, decimal, Result, Ok, Err, MatchResult}
use Rattle.std.specs.Prelude.{OnOk, IfErr}
use Rattle.cw_types.specs.Faults.{Rose}
use Rattle.cw_disk.specs.declared.device.Disk.{Ghosts}
use Rattle.cw_io.specs.declared.outlet.Outlet as outlet
use Rattle.cw_script.specs.declared.directive.Directive.{Directive}
use Rattle.cw_script.specs.declared.fault.LineKind.{LineKind}
use Rattle.cw_script.specs.Lines.{line_of}
use Rattle.cw_model.specs.State.{Setting, Cluster}
use Rattle.cw_model.specs.TickText.{words}
use Rattle.cw_world.specs.World.{WorldState}
use Rattle.cw_lines.specs.declared.end.DriveEnd.{DriveEnd}
use Rattle.cw_lines.specs.declared.end.DriveEnd.TheVariants.{StoreFault, OutletFault, Memory}
use Rattle.cw_lines.specs.Players.{Playing, NoneFell, Caused, IsAt}
use Rattle.cw_lines.specs.Players as players
use Rattle.cw_run.specs.Answers.{refusal}
use Rattle.cw_run.specs.Ran.{Ran}
use Rattle.cw_run.specs.Rules.{IsSaidAmid, drive_said}
use Rattle.cw_run.specs.Settling.{is_quiet, quiet_text}
use Rattle.cw_cluster.specs.declared.turn.TurnFault.{TurnFault}
use Rattle.cw_cluster.specs.declared.turn.TurnFault.TheVariants.{Refused, Memory as Wanting, Store, Outlet}
use Rattle.cw_cluster.specs.Breaking.{IsAlive, IsBrokenIn, ran_of}
use Rattle.cw_cluster.specs.Driven.{faults_of}
use Rattle.cw_cluster.specs.Playing.{HasPlayed, HasStopped, IsLeftAmid, ran_played}
use Rattle.cw_cluster.specs.Saying.{Says}

-- ---- a directive

-- A directive that names nobody who never was is played over a world and an outlet. It was played, or how it stopped;
-- no count of faults falls, and the outlet's rose where it ends the script.
pub record PlaysOver {D U : Type 0} (G : Ghosts D) (O : outlet.Ghosts U) (directive : Directive)
    (old new : WorldState D) (out_old out_new : U)
    (before after : List ℕ) (result : Result (Unit {0}) DriveEnd) : Type 0 where
  pub outcome : MatchResult result
      (λ done. HasPlayed (ran_played old.setting directive (ran_of G O old out_old)) before after
      (ran_of G O new out_new) × IsAlive G new)
      (HasStopped G (ran_played old.setting directive (ran_of G O old out_old))
      (IsLeftAmid old.setting directive (ran_of G O old out_old))
      (IsBrokenIn G O old.setting directive (ran_of G O old out_old) new out_new)
      old new before after (ran_of G O new out_new))
  pub setting : new.setting ≡ old.setting
  pub told : is_some (O.files out_new) ≡ is_some (O.files out_old)
  pub later : NoneFell (faults_of G O old out_old) (faults_of G O new out_new)
  pub rose : result ≡ Err OutletFault → Rose (O.faults out_old) (O.faults out_new)

-- ---- a line, by what it says

-- a world and an outlet as a player, with the answers that wait
abbrev pub playing_of : {D U : Type 0} → Ghosts D → outlet.Ghosts U → WorldState D → U → List ℕ → Playing Setting Ran
playing_of G O world out text = record { setting = world.setting; state = ran_of G O world out; text = text }

-- it was left before it did anything, or on its way
abbrev pub IsSaidLeft : Setting → Result (Option Directive) LineKind → (r t : Ran) → Type 0
IsSaidLeft setting said r t = (t ≡ r) ⊎ IsSaidAmid setting said r t

-- a disk failed in it: it says a directive
pub record IsSaidBroken {D U : Type 0} (G : Ghosts D) (O : outlet.Ghosts U) (world : WorldState D) (out : U)
    (said : Result (Option Directive) LineKind) (ran : Ran) (words : List ℕ) : Type 0 where
  pub directive : Directive
  pub says : said ≡ Ok (Some directive)
  pub broken_in : IsBrokenIn G O world.setting directive ran world out words

-- the same of the line of some bytes
abbrev pub IsBrokenInLine : {D U : Type 0} → Ghosts D → outlet.Ghosts U → WorldState D → U → (number : ℕ) →
    List ℕ → Ran → (words : List ℕ) → Type 0
IsBrokenInLine G O world out number line ran words = IsSaidBroken G O world out (line_of line) ran words

-- a line that says this is played
pub record PlaysSaid {D U : Type 0} (G : Ghosts D) (O : outlet.Ghosts U) (number : ℕ)
    (said : Result (Option Directive) LineKind) (old new : WorldState D) (out_old out_new : U) (before after : List ℕ)
    (result : Result (Unit {0}) DriveEnd) : Type 0 where
  pub go : OnOk result (players.HasPlayed (drive_said old.setting number said (ran_of G O old out_old))
      (playing_of G O old out_old before) (playing_of G O new out_new after))
  pub alive : OnOk result (IsAlive G new)
  pub stop : IfErr result (λ end. players.HasStopped end (IsSaidLeft old.setting said)
      (IsAt (IsAlive G new) (playing_of G O new out_new after)) (IsSaidBroken G O new out_new said)
      (drive_said old.setting number said (ran_of G O old out_old)) (playing_of G O old out_old before) after)
  pub setting : new.setting ≡ old.setting
  pub told : is_some (O.files out_new) ≡ is_some (O.files out_old)
  pub later : NoneFell (faults_of G O old out_old) (faults_of G O new out_new)
  pub caused : IfErr result (Caused ⊥ ⊥ (faults_of G O old out_old) (faults_of G O new out_new))

-- ---- settling

-- how often something moved, and whether it is quiet now
abbrev pub moved_text : Setting → (moved : ℕ) → Cluster → List ℕ
moved_text setting moved s = words (quiet_text (is_quiet setting s) ∷ decimal moved ∷ [])

-- how it settled is said; where it was left on its way nothing is
abbrev pub SaysSettled : Setting → Cluster → Result ℕ TurnFault → (before after : List ℕ) → Result (Unit {0}) DriveEnd →
    Type 0
SaysSettled setting s (Ok moved) before after result = Says (Ok (moved_text setting moved s)) before after result
SaysSettled setting s (Err (Refused fault)) before after result = Says (refusal 0 fault) before after result
SaysSettled setting s (Err Wanting) before after result = (after ≡ before) × (result ≡ Err Memory)
SaysSettled setting s (Err (Store disk count)) before after result =
    (after ≡ before) × (result ≡ Err (StoreFault disk count))
SaysSettled setting s (Err Outlet) before after result = (after ≡ before) × (result ≡ Err OutletFault)
