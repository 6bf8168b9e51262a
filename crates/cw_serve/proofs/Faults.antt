-- Counts of faults that rose.
use Rattle.std.proofs.Common.{ℕ, ◌≤◌, arith}
use Rattle.cw_types.specs.Faults.{Rose}

-- a count that rose since a later moment rose since an earlier one
pub rose_since : (before at now : ℕ) → before ≤ at → Rose at now → Rose before now
rose_since before at now le rose = omega arith

-- and it stays so
pub rose_until : (before at now : ℕ) → Rose before at → at ≤ now → Rose before now
rose_until before at now rose le = omega arith
