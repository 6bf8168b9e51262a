use Rattle.std.proofs.Common.{◌≡◌, ◌++◌, All, length, take}
use Rattle.std.specs.List.{flat_map}
use Rattle.cw_bytes.specs.Spelling.{word}
use Rattle.cw_txn.specs.Body.{set_bytes, IsSet}
use Rattle.cw_txn.proofs.body.write_sets.Given as goal

abbrev pub invariant-loop-set : goal.invariant-loop-set
invariant-loop-set l =
    (l.into ≡ l.fn.into ++ (word (length l.list) ++ flat_map set_bytes (take l.set-index l.list)))
    × All IsSet (take l.set-index l.list)
