use Rattle.std.proofs.Common.{◌≡◌, ◌≤◌, Some, is_some, take}
use Rattle.cw_io.specs.Shelf.{Files}
use Rattle.cw_edges.specs.Poured.{poured}
use Rattle.cw_sinktask.proofs.pouring.pour.Given as goal

-- the lines so far are in the file
abbrev pub invariant-loop-line : goal.invariant-loop-line
invariant-loop-line g l = record {
  poured : (held : Files) → g.U.Outlet.files l.fn.outlet ≡ Some held →
      g.U.Outlet.files l.outlet ≡ Some (poured l.delivery.file (take l.line-index l.delivery.lines) held);
  told : is_some (g.U.Outlet.files l.outlet) ≡ is_some (g.U.Outlet.files l.fn.outlet);
  later : g.U.Outlet.faults l.fn.outlet ≤ g.U.Outlet.faults l.outlet;
}
