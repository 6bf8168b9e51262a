use Rattle.std.proofs.Common.{◌≡◌, map, take}
use Rattle.cw_audit.specs.Rows.{with_parts}
use Rattle.cw_audit.proofs.parts.put_spans.Given as goal

abbrev pub invariant-loop-span : goal.invariant-loop-span
invariant-loop-span l = l.rows ≡ with_parts l.coordinator.entries (map (λ span. span.part) (take l.span-index l.spans)) l.initial.rows
