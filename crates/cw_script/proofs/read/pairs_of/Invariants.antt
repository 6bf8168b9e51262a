use Rattle.std.proofs.Common.{◌≡◌, ◌-◌, ◌≤◌, map, length, drop, Some}
use Rattle.cw_script.specs.Pairs.{pairs_onto, pairs_of}
use Rattle.cw_script.proofs.read.pairs_of.Given as goal

abbrev pub invariant-loop-at : goal.invariant-loop-at
invariant-loop-at l = (l.at ≤ length l.words) × (pairs_onto (Some l.found.items) (map (λ word. word.now) (drop l.at l.words)) ≡ pairs_of (map (λ word. word.now) l.words))

abbrev pub decreases-loop-at : goal.decreases-loop-at
decreases-loop-at l = length l.words - l.at
