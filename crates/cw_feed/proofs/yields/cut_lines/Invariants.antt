use Rattle.std.proofs.Common.{◌≤◌, ◌-◌, length, take, map}
use Rattle.cw_feed.specs.Yield.{AreLinesOf}
use Rattle.cw_feed.proofs.yields.cut_lines.Given as goal

-- the lines so far are those of the bytes so far
abbrev pub invariant-loop-line : goal.invariant-loop-line
invariant-loop-line l = record {
  within : l.at ≤ length l.bytes;
  so_far : AreLinesOf (take l.at l.bytes) (map (λ line. line.items) l.lines.items);
}

abbrev pub decreases-loop-line : goal.decreases-loop-line
decreases-loop-line l = length l.bytes - l.at
