use Rattle.std.proofs.Common.{◌≡◌}
use Rattle.cw_compact.proofs.frames.list_of.Given as goal

abbrev pub invariant-loop-frame : goal.invariant-loop-frame
invariant-loop-frame g l = l.list ≡ l.yielded
