use Rattle.std.proofs.Common.{◌≡◌, ◌++◌, length, take}
use Rattle.std.specs.List.{flat_map}
use Rattle.cw_bytes.specs.Spelling.{word, record_bytes}
use Rattle.cw_bytes.proofs.writing.write_records.Given as goal

abbrev pub invariant-loop-applied : goal.invariant-loop-applied
invariant-loop-applied l = l.field.items ≡ word (length l.records) ++ flat_map record_bytes (take l.applied-index l.records)
