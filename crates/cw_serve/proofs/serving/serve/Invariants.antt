use Rattle.cw_line.specs.Sides.{name_of}
use Rattle.cw_turns.specs.Going.{start_of}
use Rattle.cw_serve.proofs.serving.serve.Given as goal

abbrev pub ghosts-serve_named-J-Ledger : goal.ghosts-serve_named-J-Ledger
ghosts-serve_named-J-Ledger g a = record { name = a.blank.name; parts = a.blank.parts }

abbrev pub ghosts-serve_named-J-Seat : goal.ghosts-serve_named-J-Seat
ghosts-serve_named-J-Seat g a = record { table = name_of a.line.now }

abbrev pub ghosts-serve_named-J-Begun : goal.ghosts-serve_named-J-Begun
ghosts-serve_named-J-Begun g a = record {
  start = start_of g.D.Disk a.given.world;
  faults = g.U.Outlet.faults a.given.outlet;
}

abbrev pub ghosts-serve_named-J-BoardNaming : goal.ghosts-serve_named-J-BoardNaming
ghosts-serve_named-J-BoardNaming g a = record { book = a.history.seen.book; workers = a.given.sizes.workers }
