use Rattle.std.proofs.Common.{◌≡◌, drop}
use Rattle.cw_group.specs.Members.{lowest_missing_in}
use Rattle.cw_group.proofs.member.lowest_missing.Given as goal

abbrev pub invariant-loop-member : goal.invariant-loop-member
invariant-loop-member l = lowest_missing_in (drop l.member-index l.members) ≡ lowest_missing_in l.members
