-- What the lines of a script do is a run, from the first line on.
use Rattle.std.proofs.Common.{ℕ, ◌+◌, ◌∷◌, [], Bool, true, false, List, Option, Some, None, nat_lt, length, take, if◌then◌else◌}
use Rattle.cw_model.specs.State.{Setting, Cluster}
use Rattle.cw_model.specs.Facts.{AreFacts}
use Rattle.cw_lines.specs.declared.end.DriveEnd.{DriveEnd}
use Rattle.cw_lines.specs.declared.end.DriveEnd.TheVariants.{TooLong}
use Rattle.cw_lines.specs.Lines.{lines_of}
use Rattle.cw_lines.specs.Plays.{Played, passed, stopped, goes_on as played_on, most_lines, most_bytes, play, play_last}
use Rattle.cw_run.specs.Reaches.{Reaches, HaveNames}
use Rattle.cw_run.specs.Run.{play_line, run, run_of_lines}
use Rattle.cw_run.proofs.LineRuns.{line-runs}
use Rattle.cw_run.proofs.Reaching.{stays, goes_on, reached-facts}

module _ (setting : Setting) (feeds : HaveNames setting) (s : Cluster) (f : AreFacts setting s) where
  abbrev At : Cluster → Type 0
  At t = Reaches setting s t

  line-at : (number : ℕ) (line : List ℕ) (t : Cluster) → At t → At (play_line setting number line t).store
  line-at number line t at = goes_on setting s t (play_line setting number line t).store at (line-runs setting feeds number line t (reached-facts setting s t at f))

  last-at : (ended : Bool) (number : ℕ) (line : List ℕ) (t : Cluster) → At t → At (play_last (play_line setting) ended number line t).store
  unfolding play_last
  last-at ended number [] t at = at
  last-at true number (c ∷ cs) t at = line-at number (c ∷ cs) t at
  last-at false number (c ∷ cs) t at = limits (nat_lt most_lines number) (nat_lt most_bytes (length (c ∷ cs))) where
    limits : (a b : Bool) → At (if a then stopped (TooLong (most_lines + 1)) t else if b then stopped (TooLong (most_bytes + 1)) t else passed t).store
    limits true b = at
    limits false true = at
    limits false false = at

  behind-at : (stop : Option DriveEnd) (text : List ℕ) (t : Cluster) (next : Cluster → Played Cluster) → At t → (At t → At (next t).store) → At (played_on stop text t next).store
  behind-at (Some end) text t next at later = at
  behind-at None text t next at later = later at

  play-at : (ended : Bool) (number : ℕ) (lines : List (List ℕ)) (t : Cluster) → At t → At (play (play_line setting) ended number lines t).store
  unfolding play
  play-at ended number [] t at = at
  play-at ended number (line ∷ []) t at = last-at ended number line t at
  play-at ended number (line ∷ next ∷ lines) t at =
      let first : Played Cluster = play_line setting number line t in
      behind-at first.stop first.text first.store (λ after. play (play_line setting) ended (number + 1) (next ∷ lines) after) (line-at number line t at)
      (λ reached. play-at ended (number + 1) (next ∷ lines) first.store reached)

  pub run-runs : (script : List ℕ) → Reaches setting s (run setting s script).store
  run-runs script = play-at true 1 (lines_of script) s (stays setting s)

  pub lines-run : (count : ℕ) (script : List ℕ) → Reaches setting s (run_of_lines setting count s script).store
  lines-run count script = play-at true 1 (take count (lines_of script)) s (stays setting s)
