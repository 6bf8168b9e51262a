use Rattle.std.proofs.Common.{◌≡◌, take, length}
use Rattle.std.specs.List.{flat_map}
use Rattle.cw_bytes.specs.Spelling.{text}
use Rattle.cw_rows.proofs.sizes.texts_size.Given as goal

abbrev pub invariant-loop-value : goal.invariant-loop-value
invariant-loop-value l = l.size ≡ length (flat_map text (take l.value-index l.values))
