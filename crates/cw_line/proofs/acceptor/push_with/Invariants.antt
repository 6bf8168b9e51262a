use Rattle.std.proofs.Common.{◌≡◌}
use Rattle.crossbeam_queue.specs.Passes.{view, IsPassOf}
use Rattle.cw_line.proofs.acceptor.push_with.Given as goal

abbrev pub invariant-loop : goal.invariant-loop
invariant-loop g l = IsPassOf l.line l.pass × (view l.pass ≡ view l.initial.pass) × (l.ticket ≡ l.fn.ticket)
