use Rattle.std.proofs.Common.{◌≡◌, None, map}
use Rattle.std.specs.Map.Iter.{deref_pair}
use Rattle.cw_data.specs.Unmarked.{first_ended}
use Rattle.cw_data.proofs.unmarked.first_ended.Given as goal

-- none so far has ended
abbrev pub invariant-loop-place : goal.invariant-loop-place
invariant-loop-place g l = first_ended (g.T.Decided.verdict_of l.txn) l.entries (map deref_pair l.yielded) ≡ None
