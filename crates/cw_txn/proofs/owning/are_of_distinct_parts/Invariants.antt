use Rattle.std.proofs.Common.{map, take}
use Rattle.std.specs.List.{IsDistinct}
use Rattle.cw_types.specs.Same.{same_part}
use Rattle.cw_txn.specs.Walk.{AreNoted}
use Rattle.cw_txn.proofs.Noted.{part_set}
use Rattle.cw_txn.proofs.owning.are_of_distinct_parts.Given as goal

abbrev pub invariant-loop-set : goal.invariant-loop-set
invariant-loop-set l = record {
  distinct : IsDistinct same_part (map part_set (take l.set-index l.list));
  noted : AreNoted l.noted (take l.set-index l.list);
}
