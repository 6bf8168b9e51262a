-- A script that is played by the rules is, of the cluster alone, the cluster's run.
use Rattle.std.proofs.Common.{◌≡◌, ℕ, ◌+◌, Bool, true, false, List, [], ◌∷◌, Option, Some, None, nat_lt, length, take, if◌then◌else◌, refl, ap, ◌∙◌}
use Rattle.cw_script.specs.Lines.{line_of}
use Rattle.cw_model.specs.State.{Setting, Cluster}
use Rattle.cw_lines.specs.declared.end.DriveEnd.{DriveEnd}
use Rattle.cw_lines.specs.declared.end.DriveEnd.TheVariants.{TooLong}
use Rattle.cw_lines.specs.Lines.{lines_of}
use Rattle.cw_lines.specs.Players.{player_of}
use Rattle.cw_lines.specs.Plays as plays
use Rattle.cw_lines.specs.Plays.{Played, LinePlayer, passed, stopped, with_front, goes_on, behind, within_limits, most_lines, most_bytes, play, play_last}
use Rattle.cw_run.specs.Ran.{Ran}
use Rattle.cw_run.specs.Rules.{drive_said, drive_rules, in_cluster}
use Rattle.cw_run.specs.Run.{play_line, run, run_of_lines}

-- ---- a line

limits-alike : (number : ℕ) (line : List ℕ) (r : Ran) (p : Played Ran) (q : Played Cluster) → in_cluster p ≡ q →
    in_cluster (within_limits number line r p) ≡ within_limits number line r.cluster q
limits-alike number line r p q same = at (nat_lt most_lines number) (nat_lt most_bytes (length line)) where
  at : (a b : Bool) → in_cluster (if a then stopped (TooLong (most_lines + 1)) r else if b then stopped (TooLong (most_bytes + 1)) r else p) ≡
      (if a then stopped (TooLong (most_lines + 1)) r.cluster else if b then stopped (TooLong (most_bytes + 1)) r.cluster else q)
  at true b = refl
  at false true = refl
  at false false = same

pub line-alike : (setting : Setting) (number : ℕ) (line : List ℕ) (r : Ran) → in_cluster (player_of drive_rules setting number line r) ≡ play_line setting number line r.cluster
line-alike setting number line r = limits-alike number line r (drive_said setting number (line_of line) r) _ refl

pub line-tells : (setting : Setting) (number : ℕ) (line : List ℕ) (r : Ran) → (player_of drive_rules setting number line r).store.tells ≡ r.tells
line-tells setting number line r = at (nat_lt most_lines number) (nat_lt most_bytes (length line)) where
  at : (a b : Bool) → (if a then stopped (TooLong (most_lines + 1)) r else if b then stopped (TooLong (most_bytes + 1)) r else drive_said setting number (line_of line) r).store.tells ≡ r.tells
  at true b = refl
  at false true = refl
  at false false = refl

-- ---- lines

module _ (setting : Setting) where
  abbrev P : LinePlayer Ran
  P = player_of drive_rules setting

  abbrev Q : LinePlayer Cluster
  Q = play_line setting

  last-alike : (ended : Bool) (number : ℕ) (line : List ℕ) (r : Ran) → in_cluster (play_last P ended number line r) ≡ play_last Q ended number line r.cluster
  unfolding play_last
  last-alike ended number [] r = refl
  last-alike true number (c ∷ cs) r = line-alike setting number (c ∷ cs) r
  last-alike false number (c ∷ cs) r = limits-alike number (c ∷ cs) r (passed r) (passed r.cluster) refl

  on-alike : (stop : Option DriveEnd) (text : List ℕ) (r : Ran) (next : Ran → Played Ran) (later : Cluster → Played Cluster) → in_cluster (next r) ≡ later r.cluster →
      in_cluster (goes_on stop text r next) ≡ goes_on stop text r.cluster later
  on-alike (Some end) text r next later same = refl
  on-alike None text r next later same = ap (with_front text) same

  play-alike : (ended : Bool) (number : ℕ) (lines : List (List ℕ)) (r : Ran) → in_cluster (play P ended number lines r) ≡ play Q ended number lines r.cluster
  unfolding play
  play-alike ended number [] r = refl
  play-alike ended number (line ∷ []) r = last-alike ended number line r
  play-alike ended number (line ∷ next ∷ lines) r =
      let first : Played Ran = P number line r in
      on-alike first.stop first.text first.store (λ after. play P ended (number + 1) (next ∷ lines) after) (λ after. play Q ended (number + 1) (next ∷ lines) after)
      (play-alike ended (number + 1) (next ∷ lines) first.store)
      ∙ ap (λ (p : Played Cluster). behind p (λ after. play Q ended (number + 1) (next ∷ lines) after)) (line-alike setting number line r)

  pub run-alike : (script : List ℕ) (r : Ran) → in_cluster (plays.run P r script) ≡ run setting r.cluster script
  run-alike script r = play-alike true 1 (lines_of script) r

  pub so-far-alike : (script : List ℕ) (r : Ran) → in_cluster (plays.run_so_far P r script) ≡ plays.run_so_far Q r.cluster script
  so-far-alike script r = play-alike false 1 (lines_of script) r

  pub lines-alike : (count : ℕ) (script : List ℕ) (r : Ran) → in_cluster (plays.behind_lines P count script r) ≡ run_of_lines setting count r.cluster script
  lines-alike count script r = play-alike true 1 (take count (lines_of script)) r
