use Rattle.std.proofs.Common.{ℕ, ◌<◌, ◌≤◌, ◌-◌, length, get_or}
use Rattle.cw_group.specs.declared.member.Member.{Member}
use Rattle.cw_group.proofs.member.first_from.Given as goal

abbrev pub invariant-loop-low : goal.invariant-loop-low
invariant-loop-low l = record {
  order : l.low ≤ l.high;
  within : l.high ≤ length l.members;
  below : (k : ℕ) (d : Member) → k < l.low → (get_or l.members k d).worker < l.worker;
  above : (k : ℕ) (d : Member) → l.high ≤ k → k < length l.members → l.worker ≤ (get_or l.members k d).worker;
}

abbrev pub decreases-loop-low : goal.decreases-loop-low
decreases-loop-low l = l.high - l.low
