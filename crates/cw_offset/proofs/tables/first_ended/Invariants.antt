use Rattle.std.proofs.Common.{◌≡◌, None, map}
use Rattle.std.specs.Map.Iter.{deref}
use Rattle.cw_offset.specs.Tables.{first_ended}
use Rattle.cw_offset.proofs.tables.first_ended.Given as goal

-- none so far has ended
abbrev pub invariant-loop-row : goal.invariant-loop-row
invariant-loop-row g l = first_ended (g.T.Decided.verdict_of l.txn) (map deref l.yielded) ≡ None
