use Rattle.std.proofs.Common.{◌≡◌, ◌++◌, take}
use Rattle.cw_compact.proofs.keyed.note_frame.Given as goal

abbrev pub invariant-loop-record : goal.invariant-loop-record
invariant-loop-record l = l.lasts ≡ l.initial.lasts ++ take l.record-index (take l.here l.records)
