use Rattle.std.proofs.Common.{◌≡◌, ◌++◌, length, take}
use Rattle.std.specs.List.{flat_map}
use Rattle.cw_bytes.specs.Spelling.{word, text}
use Rattle.cw_data.proofs.body.write_values.Given as goal

abbrev pub invariant-loop-value : goal.invariant-loop-value
invariant-loop-value l = l.into ≡ l.fn.into ++ (word (length l.values) ++ flat_map text (take l.value-index l.values))
