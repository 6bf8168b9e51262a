use Rattle.std.proofs.Common.{◌≡◌, ◌≤◌, ◌<◌, [], Some, length}
use Rattle.cw_lines.specs.Drives.{session_of, room}
use Rattle.cw_lines.specs.Due.{most_piece}
use Rattle.cw_lines.specs.Players.{NoneFell}
use Rattle.cw_lines.proofs.SoFar.{SoFar}
use Rattle.cw_lines.proofs.drive.drive_by.Given as goal

abbrev pub invariant-pieces : goal.invariant-pieces
invariant-pieces g l = record {
  far : SoFar g.P.LinePlayer.rules (g.P.LinePlayer.playing l.fn.player).setting (g.P.LinePlayer.playing l.fn.player).state (session_of g.P.LinePlayer l.player l.reading)
      (g.I.Source.left l.fn.input) (g.I.Source.left l.input) (g.O.Sink.held l.fn.output) (g.O.Sink.held l.output);
  alive : g.P.LinePlayer.alive l.player;
  some : 0 < length l.piece;
  short : length l.piece ≤ most_piece;
  idle : g.I.Source.left l.fn.input ≡ Some [] → (g.I.Source.left l.input ≡ Some []) × (l.player ≡ l.fn.player) × (l.reading.pending.items ≡ []);
  later : NoneFell (g.P.LinePlayer.faults l.fn.player) (g.P.LinePlayer.faults l.player);
  later_in : g.I.Source.faults l.fn.input ≤ g.I.Source.faults l.input;
  later_out : g.O.Sink.faults l.fn.output ≤ g.O.Sink.faults l.output;
}

abbrev pub decreases-pieces : goal.decreases-pieces
decreases-pieces g l = room l.reading
