use Rattle.std.proofs.Common.{◌≡◌, [], All, take, fold}
use Rattle.cw_keys.specs.Parts.{IsPart}
use Rattle.cw_reply.specs.Placed.{with_part}
use Rattle.cw_reply.proofs.placed.in_order.Given as goal

abbrev pub invariant-loop-part : goal.invariant-loop-part
invariant-loop-part l =
    (l.placed.keys ≡ fold (with_part l.is_source) [] (take l.part-index l.parts)) × All IsPart (take l.part-index l.parts)
