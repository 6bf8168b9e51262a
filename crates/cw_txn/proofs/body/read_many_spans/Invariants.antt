use Rattle.std.proofs.Common.{◌≡◌, ◌-◌}
use Rattle.cw_bytes.specs.Reading.{many_at, span_at}
use Rattle.cw_bytes.proofs.Many.{with_front}
use Rattle.cw_txn.proofs.body.read_many_spans.Given as goal

abbrev pub invariant-loop : goal.invariant-loop
invariant-loop l = with_front span_at l.spans.items (many_at span_at (l.count - l.counter) l.from) ≡ many_at span_at l.count l.initial.from
