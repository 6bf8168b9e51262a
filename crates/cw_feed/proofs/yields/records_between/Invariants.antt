use Rattle.std.proofs.Common.{◌≡◌, ◌-◌, map}
use Rattle.std.specs.List.{range_with_len}
use Rattle.cw_feed.specs.Yield.{record_text}
use Rattle.cw_feed.proofs.yields.records_between.Given as goal

-- the records so far
abbrev pub invariant-loop-k : goal.invariant-loop-k
invariant-loop-k l = map (λ text. text.items) l.records.items ≡ map (record_text l.index) (range_with_len l.from (l.k - l.from))
