use Rattle.std.proofs.Common.{◌+◌, ◌≤◌, length}
use Rattle.cw_lines.specs.Drives.{session_of, room}
use Rattle.cw_lines.specs.Players.{NoneFell}
use Rattle.cw_lines.proofs.FeedLemmas.{IsFed}
use Rattle.cw_lines.proofs.reading.Reading.feed.Given as goal

abbrev pub invariant-loop-line : goal.invariant-loop-line
invariant-loop-line g l = record {
  fed : IsFed g.P.LinePlayer.rules l.piece l.rest (session_of g.P.LinePlayer l.fn.player l.fn.self) (session_of g.P.LinePlayer l.player l.self);
  alive : g.P.LinePlayer.alive l.player;
  later : NoneFell (g.P.LinePlayer.faults l.fn.player) (g.P.LinePlayer.faults l.player);
  less : room l.self + length l.piece ≤ room l.fn.self + length l.rest;
}

abbrev pub decreases-loop-line : goal.decreases-loop-line
decreases-loop-line g l = length l.rest
