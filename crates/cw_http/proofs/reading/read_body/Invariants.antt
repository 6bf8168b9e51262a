use Rattle.std.proofs.Common.{◌≡◌, ◌-◌, ◌≤◌, max, vec_len}
use Rattle.cw_http.specs.Kept.{Moved}
use Rattle.cw_http.proofs.reading.read_body.Given as goal

abbrev pub invariant-loop-kept : goal.invariant-loop-kept
invariant-loop-kept g l = record {
  moved : Moved l.fn.kept.items l.kept.items (g.L.Link.left l.fn.link) (g.L.Link.left l.link);
  small : vec_len l.kept ≤ max (vec_len l.fn.kept) l.wanted;
  apart : g.L.Link.held l.link ≡ g.L.Link.held l.fn.link;
  later : g.L.Link.faults l.fn.link ≤ g.L.Link.faults l.link;
}

abbrev pub decreases-loop-kept : goal.decreases-loop-kept
decreases-loop-kept g l = l.wanted - vec_len l.kept
