use Rattle.std.proofs.Common.{◌≡◌, drop}
use Rattle.std.specs.List.{list_any}
use Rattle.cw_types.specs.Same.{same_part}
use Rattle.cw_reply.proofs.alteration.is_among.Given as goal

abbrev pub invariant-loop-other : goal.invariant-loop-other
invariant-loop-other l = list_any (same_part l.part) (drop l.other-index l.others) ≡ list_any (same_part l.part) l.others
