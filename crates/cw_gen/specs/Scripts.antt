-- The script that is made from a number: three workers and a source with four tasks, and then what is drawn. Each
-- directive is due by the cluster that the run of those before it leaves, over empty logs. This project's own.
use Rattle.std.specs.Prelude.{ℕ, zero, suc, ◌+◌, Bool, true, false, List, [], ◌∷◌, ◌++◌, length, nat_eq, codes}
use Rattle.std.specs.Prelude.{decimal, Option, Some, None, if◌then◌else◌}
use Rattle.std.specs.List.{starts_with}
use Rattle.cw_script.specs.declared.directive.Directive.{Directive}
use Rattle.cw_script.specs.declared.directive.Directive.TheVariants.{Step}
use Rattle.cw_script.specs.Spelling.{spelled}
use Rattle.cw_model.specs.Cases.{empty_cluster}
use Rattle.cw_model.specs.State.{Setting, Cluster}
use Rattle.cw_lines.specs.declared.end.DriveEnd.{DriveEnd}
use Rattle.cw_lines.specs.Plays.{Played}
use Rattle.cw_run.specs.Run.{play_line, run}
use Rattle.cw_gen.specs.Directives.{Due, due}
use Rattle.cw_gen.specs.Lines.{text_of}

-- a group with this scheduled delay, and no feeds
abbrev pub setting_of : (group : List ℕ) (delay : ℕ) → Setting
setting_of group delay = record { group = group; delay = delay; feeds = []; agreed = true }

-- the run of these lines over empty logs
abbrev pub run_of : Setting → List (List ℕ) → Played Cluster
run_of setting lines = run setting empty_cluster (text_of lines)

-- how the answer begins that a step was fenced
abbrev pub fenced_front : ℕ → List ℕ
fenced_front i = codes "step " ++ decimal i ++ codes " fenced "

-- whether an answer says so
abbrev pub says_fenced : Directive → List ℕ → Bool
says_fenced (Step i) answer = starts_with nat_eq answer (fenced_front i)
says_fenced _ answer = false

abbrev pub one_if : Bool → ℕ
one_if b = if b then 1 else 0

-- a script in the making: the number of which the next draw is made, the lines so far, and how many of their answers
-- say that a step was fenced
pub record Making : Type 0 where
  pub number : ℕ
  pub lines : List (List ℕ)
  pub fenced : ℕ

-- the directive that is due in this cluster behind so many, from this number
abbrev pub next_in : (count : ℕ) → Cluster → ℕ → Due
next_in count s number = due count (length s.instances) s.moment number

-- what comes of it there: its line is played
abbrev pub played_in : Setting → (count : ℕ) → Cluster → ℕ → Played Cluster
played_in setting count s number = play_line setting (count + 1) (spelled (next_in count s number).directive) s

-- a directive more, which is due in this cluster
abbrev pub with_due : Setting → (count : ℕ) → Cluster → Making → Making
with_due setting count s made = record {
  number = (next_in count s made.number).number;
  lines = made.lines ++ spelled (next_in count s made.number).directive ∷ [];
  fenced = made.fenced + one_if
      (says_fenced (next_in count s made.number).directive (played_in setting count s made.number).text);
}

-- no directive is made behind one that ended the script
abbrev pub unless_ended : Option DriveEnd → Making → Making → Making
unless_ended None made next = next
unless_ended (Some end) made next = made

-- a directive more, behind the run of those before it
abbrev pub with_next : Setting → (count : ℕ) → Making → Making
with_next setting count made =
    let run = run_of setting made.lines in unless_ended run.stop made (with_due setting count run.store made)

-- so many directives, from a number on
unfoldable pub making : Setting → (start count : ℕ) → Making
making setting start zero = record { number = start; lines = []; fenced = 0 }
making setting start (suc count) = with_next setting count (making setting start count)
