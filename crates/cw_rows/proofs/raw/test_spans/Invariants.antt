use Rattle.std.proofs.Common.{◌≡◌, drop}
use Rattle.std.specs.List.{find}
use Rattle.cw_model.specs.EventsRaw.{is_bad_span}
use Rattle.cw_rows.proofs.raw.test_spans.Given as goal

abbrev pub invariant-loop-span : goal.invariant-loop-span
invariant-loop-span l = find is_bad_span l.spans ≡ find is_bad_span (drop l.span-index l.spans)
