use Rattle.std.proofs.Common.{◌≡◌, take}
use Rattle.cw_group.specs.Members.{holders_of}
use Rattle.cw_group.proofs.member.holders.Given as goal

abbrev pub invariant-loop-member : goal.invariant-loop-member
invariant-loop-member l = l.holders.items ≡ holders_of (take l.member-index l.members)
