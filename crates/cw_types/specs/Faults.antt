-- Counts of faults: what reaches outside the program counts its failures, so that an answer that speaks of one can be
-- checked. This project's own rule.
use Rattle.std.specs.Prelude.{ℕ, ◌+◌, ◌-◌, ◌^◌, ◌≤◌, min}

-- a count of faults rose, or stands at the greatest u64
abbrev pub Rose : ℕ → ℕ → Type 0
Rose before now = min (before + 1) (2 ^ 64 - 1) ≤ now
