use Rattle.std.proofs.Common.{◌≡◌}
use Rattle.cw_types.specs.declared.ids.PartKey.{PartKey}
use Rattle.cw_offset.specs.Rows.{settled_at, HasPart}
use Rattle.cw_offset.proofs.Changed.{seen}
use Rattle.cw_offset.proofs.tables.settle_all.Given as goal

-- the puts of the parts so far have taken effect
abbrev pub invariant-loop-part : goal.invariant-loop-part
invariant-loop-part l =
    ((q : PartKey) → settled_at l.parts q ≡ seen l.under q (settled_at l.initial.parts q) l.yielded)
    × ((q : PartKey) → HasPart l.initial.parts q → HasPart l.parts q)
