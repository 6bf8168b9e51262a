use Rattle.std.proofs.Common.{◌≡◌, take, map}
use Rattle.cw_model.specs.Lookups.{end_or_start}
use Rattle.cw_rows.proofs.steps.ends.Given as goal

abbrev pub invariant-loop-part : goal.invariant-loop-part
invariant-loop-part l = l.ends.items ≡ map (λ part. end_or_start part l.coordinator.entries) (take l.part-index l.parts)
