use Rattle.std.proofs.Common.{◌≡◌, ◌≤◌, Some, length, take}
use Rattle.cw_io.specs.Shelf.{Files}
use Rattle.cw_feed.proofs.Lookups.{AreLoaded}
use Rattle.cw_feed.proofs.feeds.Feeds.load.Given as goal

-- the shelf's files are as they were, and what was loaded is what they hold
abbrev pub invariant-loop-name : goal.invariant-loop-name
invariant-loop-name g l = record {
  kept : g.H.Shelf.files l.shelf ≡ g.H.Shelf.files l.fn.shelf;
  later : g.H.Shelf.faults l.fn.shelf ≤ g.H.Shelf.faults l.shelf;
  loaded : (held : Files) → g.H.Shelf.files l.fn.shelf ≡ Some held → AreLoaded held (take l.name-index l.name-items) l.contents.items;
  count : length l.contents.items ≡ l.name-index;
}
