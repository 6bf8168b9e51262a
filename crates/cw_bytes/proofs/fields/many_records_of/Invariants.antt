use Rattle.std.proofs.Common.{◌≡◌, ◌-◌}
use Rattle.cw_bytes.specs.Input.{unread}
use Rattle.cw_bytes.specs.Reading.{record_at, many_at}
use Rattle.cw_bytes.proofs.Many.{with_front}
use Rattle.cw_bytes.proofs.fields.many_records_of.Given as goal

abbrev pub invariant-loop : goal.invariant-loop
invariant-loop l = with_front record_at l.records.items (many_at record_at (l.count - l.counter) (unread l.rest)) ≡ many_at record_at l.count (unread l.from)
