-- The run of a script: each line plays its directive, and its answer is a line. A line that is no directive, one that
-- names a worker or an instance that never was, and a log that is full end it. This project's own.
use Rattle.std.specs.Prelude.{ℕ, List, [], ◌∷◌, ◌++◌, length, nat_lt, Option, Some, None, Result, Ok, Err}
use Rattle.std.specs.Prelude.{if◌then◌else◌}
use Rattle.cw_script.specs.declared.directive.Directive.{Directive}
use Rattle.cw_script.specs.declared.directive.Directive.TheVariants.{Init, Commit, Spawn, Kill, Deaf, Hear, Expire}
use Rattle.cw_script.specs.declared.directive.Directive.TheVariants.{Clock, Tick, Step, Settle, Rest, Held, Member}
use Rattle.cw_script.specs.declared.directive.Directive.TheVariants.{Take, Compact}
use Rattle.cw_script.specs.declared.fault.LineKind.{LineKind}
use Rattle.cw_script.specs.declared.fault.LineKind.TheVariants.{NoWorker, NoInstance}
use Rattle.cw_script.specs.Lines.{line_of}
use Rattle.cw_model.specs.State.{Setting, Cluster}
use Rattle.cw_lines.specs.declared.end.DriveEnd.{DriveEnd}
use Rattle.cw_lines.specs.declared.end.DriveEnd.TheVariants.{BadScript}
use Rattle.cw_lines.specs.Plays as plays
use Rattle.cw_lines.specs.Plays.{Played, passed, stopped, within_limits}
use Rattle.cw_run.specs.Directives.{does}

-- ---- whom a directive names

-- a worker that was made, or none
abbrev pub unless_worker : ℕ → Cluster → Option LineKind
unless_worker w s = if nat_lt w (length s.rows) then None else Some NoWorker

-- an instance that was started, or none
abbrev pub unless_instance : ℕ → Cluster → Option LineKind
unless_instance i s = if nat_lt i (length s.instances) then None else Some NoInstance

-- the fault of a directive that names a worker or an instance that never was
abbrev pub missing : Directive → Cluster → Option LineKind
missing (Init n) s = None
missing (Commit n epoch pairs) s = None
missing Spawn s = None
missing (Kill w) s = unless_worker w s
missing (Deaf w) s = unless_worker w s
missing (Hear w) s = unless_worker w s
missing (Expire w) s = unless_worker w s
missing (Clock to) s = None
missing (Tick w) s = unless_worker w s
missing (Step i) s = unless_instance i s
missing (Settle most) s = None
missing (Rest w method target body) s = unless_worker w s
missing (Held w) s = unless_worker w s
missing (Member w) s = unless_worker w s
missing (Take topic from) s = None
missing (Compact log) s = None

-- ---- lines

-- an answer is a line; where the event can't be answered, the script ends
abbrev pub played : {S : Type 0} → Result (List ℕ) DriveEnd → S → Played S
played (Ok text) s = record { text = text ++ 10 ∷ []; store = s; stop = None }
played (Err end) s = stopped end s

-- a directive is played, unless it names whom there never was
abbrev pub play_unless : Setting → (number : ℕ) → Option LineKind → Directive → Cluster → Played Cluster
play_unless setting number (Some kind) directive s = stopped (BadScript number kind) s
play_unless setting number None directive s = let told = does setting directive s in played told.0 told.1

-- a line by what it says: one that is passed over, a directive, or nothing that there is
abbrev pub play_said : Setting → (number : ℕ) → Result (Option Directive) LineKind → Cluster → Played Cluster
play_said setting number (Ok None) s = passed s
play_said setting number (Ok (Some directive)) s = play_unless setting number (missing directive s) directive s
play_said setting number (Err kind) s = stopped (BadScript number kind) s

-- a whole line, within the limits
abbrev pub play_line : Setting → (number : ℕ) → List ℕ → Cluster → Played Cluster
play_line setting number line s = within_limits number line s (play_said setting number (line_of line) s)

-- ---- a script

-- a whole script over a cluster: the answers, the cluster behind it, and what ended it early
abbrev pub run : Setting → Cluster → List ℕ → Played Cluster
run setting s script = plays.run (play_line setting) s script

-- the same of the script's first lines
abbrev pub run_of_lines : Setting → (count : ℕ) → Cluster → List ℕ → Played Cluster
run_of_lines setting count s script = plays.behind_lines (play_line setting) count script s
