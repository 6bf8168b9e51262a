use Rattle.std.proofs.Common.{◌≡◌, ◌++◌, ◌≤◌, length}
use Rattle.cw_line.specs.Sides.{with_pushed}
use Rattle.cw_line.proofs.accepting.accept_links.Given as goal

abbrev pub invariant-loop-pushed : goal.invariant-loop-pushed
invariant-loop-pushed g l =
    (l.acceptor ≡ with_pushed l.acceptor.pushed l.fn.acceptor)
    × (length l.acceptor.pushed ≡ l.pushed)
    × (g.N.Listener.given l.net ≡ g.N.Listener.given l.fn.net ++ l.acceptor.pushed)
    × (g.N.Listener.faults l.fn.net ≤ g.N.Listener.faults l.net)
