use Rattle.std.proofs.Common.{ℕ, ◌<◌, ◌≤◌, get_or}
use Rattle.cw_assign.specs.Plan.{Hand, load_of}
use Rattle.cw_assign.proofs.seat.least.Given as goal

abbrev pub invariant-loop-at : goal.invariant-loop-at
invariant-loop-at l = record {
  within : l.best < l.at;
  least : (k : ℕ) (d : Hand) → k < l.at → load_of (get_or l.seats l.best d) ≤ load_of (get_or l.seats k d);
  first : (k : ℕ) (d : Hand) → k < l.best → load_of (get_or l.seats l.best d) < load_of (get_or l.seats k d);
}
