use Rattle.std.proofs.Common.{◌≡◌, take, drop, map}
use Rattle.cw_group.specs.Members.{unjoined}
use Rattle.cw_group.proofs.member.unjoin.Given as goal

abbrev pub invariant-loop-at : goal.invariant-loop-at
invariant-loop-at l = record {
  done : take l.at l.members ≡ map unjoined (take l.at l.initial.members);
  rest : drop l.at l.members ≡ drop l.at l.initial.members;
}
