-- What the lines of a cluster's script do to it and to the files of its sinks' tasks, for whoever plays them: each as a
-- run of the script has it, and each may be left on its way where its directive may be. This project's own.
use Rattle.std.specs.Prelude.{◌≡◌, ◌⊎◌, ℕ, List, Option, Some, None, Result, Ok, Err, refl}
use Rattle.cw_io.specs.Shelf.{Files}
use Rattle.cw_script.specs.declared.directive.Directive.{Directive}
use Rattle.cw_script.specs.declared.fault.LineKind.{LineKind}
use Rattle.cw_script.specs.Lines.{line_of}
use Rattle.cw_model.specs.State.{Setting, Cluster}
use Rattle.cw_lines.specs.Players.{Rules}
use Rattle.cw_lines.specs.Plays.{Played}
use Rattle.cw_run.specs.Amid.{IsRanAmid, files_behind}
use Rattle.cw_run.specs.Ran.{Ran}
use Rattle.cw_run.specs.Run.{missing, play_said}

-- ---- what a line does

-- the files behind a directive, unless it names whom there never was
abbrev pub files_unless : Setting → Option LineKind → Directive → Ran → Option Files
files_unless setting (Some kind) directive r = r.files
files_unless setting None directive r = files_behind setting directive r

-- the files behind a line, by what it says
abbrev pub files_said : Setting → Result (Option Directive) LineKind → Ran → Option Files
files_said setting (Ok None) r = r.files
files_said setting (Ok (Some directive)) r = files_unless setting (missing directive r.cluster) directive r
files_said setting (Err kind) r = r.files

-- a line is played by what it says: its answer and its end are those of the cluster's run
abbrev pub drive_said : Setting → (number : ℕ) → Result (Option Directive) LineKind → Ran → Played Ran
drive_said setting number said r =
    let played = play_said setting number said r.cluster in
    record {
      text = played.text;
      store = record r { cluster = played.store; files = files_said setting said r };
      stop = played.stop;
    }

-- what was played, of the cluster alone
abbrev pub in_cluster : Played Ran → Played Cluster
in_cluster played = record { text = played.text; store = played.store.cluster; stop = played.stop }

-- ---- where it may be left

-- a directive that was begun was left on its way
abbrev pub IsSaidAmid : Setting → Result (Option Directive) LineKind → Ran → Ran → Type 0
IsSaidAmid setting (Ok (Some directive)) r t = (missing directive r.cluster ≡ None) × IsRanAmid setting directive r t
IsSaidAmid setting (Ok None) r t = ⊥
IsSaidAmid setting (Err kind) r t = ⊥

-- a line was left before it did anything, or on its way
abbrev pub IsLineAmid : Setting → (number : ℕ) → List ℕ → Ran → Ran → Type 0
IsLineAmid setting number line r t = (t ≡ r) ⊎ IsSaidAmid setting (line_of line) r t

-- what the lines do within the limits, and where they may be left
abbrev pub drive_rules : Rules Setting Ran
drive_rules = record {
  does = λ setting number line r. drive_said setting number (line_of line) r;
  amid = IsLineAmid;
  passes = λ setting number r. refl;
}
