-- A body of the transaction log has bytes.
use Rattle.std.proofs.Common.{◌≤◌, List, length, arith, length-append}
use Rattle.std.specs.List.{flat_map}
use Rattle.std.specs.Int.{w32, to_be_bytes}
use Rattle.cw_bytes.specs.Spelling.{word}
use Rattle.cw_txn.specs.declared.entry.Entry.{Entry}
use Rattle.cw_txn.specs.Body.{entry_bytes, entries_bytes}

pub has-bytes : (entries : List Entry) → 1 ≤ length (entries_bytes entries)
unfolding word
has-bytes entries = omega (arith, length-append (to_be_bytes w32 (length entries)) (flat_map entry_bytes entries))
