use Rattle.std.proofs.Common.{length, ◌-◌, ◌≡◌, ◌≤◌, ◌++◌, take}
use Rattle.std.specs.Option.{option_map}
use Rattle.cw_io.proofs.link.send_all.Given as goal

abbrev pub invariant-loop-at : goal.invariant-loop-at
invariant-loop-at g l = record {
  within : l.at ≤ length l.bytes;
  added : g.L.Link.held l.link ≡ option_map (λ before. before ++ take l.at l.bytes) (g.L.Link.held l.fn.link);
  later : g.L.Link.faults l.fn.link ≤ g.L.Link.faults l.link;
  apart : g.L.Link.left l.link ≡ g.L.Link.left l.fn.link;
}

abbrev pub decreases-loop-at : goal.decreases-loop-at
decreases-loop-at g l = length l.bytes - l.at
