use Rattle.std.proofs.Common.{◌≡◌, map, take}
use Rattle.cw_model.specs.EventsRaw.{raw_span}
use Rattle.cw_rows.proofs.raw.raw_spans.Given as goal

abbrev pub invariant-loop-pair : goal.invariant-loop-pair
invariant-loop-pair l = l.spans.items ≡ map (raw_span l.coordinator.entries) (take l.pair-index l.list)
