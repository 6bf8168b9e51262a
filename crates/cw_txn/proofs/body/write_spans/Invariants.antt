use Rattle.std.proofs.Common.{◌≡◌, ◌++◌, All, length, take}
use Rattle.std.specs.List.{flat_map}
use Rattle.cw_bytes.specs.Spelling.{word, span_bytes, IsSpan}
use Rattle.cw_txn.proofs.body.write_spans.Given as goal

abbrev pub invariant-loop-span : goal.invariant-loop-span
invariant-loop-span l =
    (l.into ≡ l.fn.into ++ (word (length l.spans) ++ flat_map span_bytes (take l.span-index l.spans)))
    × All IsSpan (take l.span-index l.spans)
