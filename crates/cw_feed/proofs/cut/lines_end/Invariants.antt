use Rattle.std.proofs.Common.{◌≡◌, ◌+◌, ◌-◌, ◌≤◌, length, take, drop}
use Rattle.cw_feed.specs.Cut.{fitting, line_lengths, most_bytes}
use Rattle.cw_feed.proofs.cut.lines_end.Given as goal

-- what was taken, and what may be taken from there
abbrev pub invariant-loop-taken : goal.invariant-loop-taken
invariant-loop-taken l = record {
  within : l.to ≤ length (take most_bytes l.rest);
  so_far : l.first + fitting (most_bytes - l.first) (take l.more (line_lengths (drop l.first l.rest)))
      ≡ l.to + fitting (most_bytes - l.to) (take (l.more - l.taken) (line_lengths (drop l.to l.rest)));
}
