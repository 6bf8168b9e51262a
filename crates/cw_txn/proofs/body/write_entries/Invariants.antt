use Rattle.std.proofs.Common.{◌≡◌, ◌++◌, All, length, take}
use Rattle.std.specs.List.{flat_map}
use Rattle.cw_bytes.specs.Spelling.{word}
use Rattle.cw_txn.specs.Body.{entry_bytes, IsEntry}
use Rattle.cw_txn.proofs.body.write_entries.Given as goal

abbrev pub invariant-loop-entry : goal.invariant-loop-entry
invariant-loop-entry l =
    (l.into ≡ word (length l.entries) ++ flat_map entry_bytes (take l.entry-index l.entries))
    × All IsEntry (take l.entry-index l.entries)
