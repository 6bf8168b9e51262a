use Rattle.std.proofs.Common.{◌≡◌, ◌++◌, take}
use Rattle.cw_open.proofs.entries.EntryList.put_all.Given as goal

abbrev pub invariant-loop-at : goal.invariant-loop-at
invariant-loop-at l = l.self ≡ l.initial.self ++ take l.at l.frame
