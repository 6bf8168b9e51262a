use Rattle.std.proofs.Common.{◌≡◌, ◌-◌}
use Rattle.cw_bytes.specs.Reading.{many_at}
use Rattle.cw_bytes.proofs.Many.{with_front}
use Rattle.cw_txn.specs.BodyReading.{entry_at}
use Rattle.cw_txn.proofs.body.read_many_entries.Given as goal

abbrev pub invariant-loop : goal.invariant-loop
invariant-loop l = with_front entry_at l.entries.items (many_at entry_at (l.count - l.counter) l.from) ≡ many_at entry_at l.count l.initial.from
