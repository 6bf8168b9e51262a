use Rattle.std.proofs.Common.{◌≡◌, ◌-◌, ◌≤◌, max, vec_len}
use Rattle.cw_http.specs.Kept.{Moved}
use Rattle.cw_http.proofs.reading.read_head.Given as goal

abbrev pub invariant-loop-length : goal.invariant-loop-length
invariant-loop-length g l = record {
  moved : Moved l.fn.kept.items l.kept.items (g.L.Link.left l.fn.link) (g.L.Link.left l.link);
  small : vec_len l.kept ≤ max (vec_len l.fn.kept) 8192;
  apart : g.L.Link.held l.link ≡ g.L.Link.held l.fn.link;
  later : g.L.Link.faults l.fn.link ≤ g.L.Link.faults l.link;
}

abbrev pub decreases-loop-length : goal.decreases-loop-length
decreases-loop-length g l = 8192 - vec_len l.kept
