use Rattle.std.proofs.Common.{◌≡◌, take}
use Rattle.cw_bytes.specs.Frames.{joined}
use Rattle.cw_open.proofs.entries.EntryList.of.Given as goal

abbrev pub invariant-loop-at : goal.invariant-loop-at
invariant-loop-at l = l.list ≡ joined (take l.at l.frames)
