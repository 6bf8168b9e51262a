-- What the run of a script that is made from a number comes to, in four lines. The format is this project's own.
use Rattle.std.specs.Prelude.{ℕ, List, [], ◌∷◌, ◌++◌, codes, decimal}
use Rattle.cw_model.specs.State.{Cluster}
use Rattle.cw_lines.specs.Plays.{Played}
use Rattle.cw_gen.specs.Counts.{commit_count, committed_count}
use Rattle.cw_gen.specs.Scripts.{making, run_of, setting_of}
use Rattle.cw_gen.specs.declared.end.GenEnd.{GenEnd}
use Rattle.cw_gen.specs.declared.end.GenEnd.TheVariants.{Done, WriteFault, Full, Memory}

-- a word, and a number behind it
abbrev pub count_line : List ℕ → ℕ → List ℕ
count_line word n = word ++ 32 ∷ decimal n ++ 10 ∷ []

-- how many directives there were, and what they came to
abbrev pub lines_of_counts : (directives commits fenced records : ℕ) → List ℕ
lines_of_counts directives commits fenced records =
    count_line (codes "directives") directives ++ count_line (codes "commits") commits ++
    count_line (codes "fenced") fenced ++ count_line (codes "records") records

-- of a script, by the cluster that its run leaves: its commits, the answers that a step was fenced, and the committed
-- records of the topic `t`
abbrev pub summary_of : (count fenced : ℕ) → Cluster → List ℕ
summary_of count fenced s =
    lines_of_counts count (commit_count s.entries) fenced (committed_count (codes "t") s.entries s.batches)

-- the run of the script of so many directives
abbrev pub played : (group : List ℕ) (delay start count : ℕ) → Played Cluster
played group delay start count =
    run_of (setting_of group delay) (making (setting_of group delay) start count).lines

-- what it comes to
abbrev pub summary : (group : List ℕ) (delay start count : ℕ) → List ℕ
summary group delay start count =
    summary_of count (making (setting_of group delay) start count).fenced (played group delay start count).store

-- ---- how it ended

-- something was written
abbrev pub IsTold : GenEnd → Type 0
IsTold Done = Unit {0}
IsTold WriteFault = Unit {0}
IsTold (Full log length frame) = ⊥
IsTold Memory = ⊥

-- nothing was
abbrev pub IsSilent : GenEnd → Type 0
IsSilent Done = ⊥
IsSilent WriteFault = ⊥
IsSilent (Full log length frame) = Unit {0}
IsSilent Memory = Unit {0}
