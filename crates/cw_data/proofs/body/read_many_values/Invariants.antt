use Rattle.std.proofs.Common.{◌≡◌, ◌-◌}
use Rattle.cw_bytes.specs.Reading.{many_at, text_at}
use Rattle.cw_bytes.proofs.Many.{with_front}
use Rattle.cw_data.proofs.body.read_many_values.Given as goal

abbrev pub invariant-loop : goal.invariant-loop
invariant-loop l = with_front text_at l.values.items (many_at text_at (l.count - l.counter) l.from) ≡ many_at text_at l.count l.initial.from
