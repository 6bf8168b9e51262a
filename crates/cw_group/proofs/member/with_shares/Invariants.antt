use Rattle.std.proofs.Common.{◌≡◌, drop, ◌++◌}
use Rattle.cw_group.specs.Members.{with_shares}
use Rattle.cw_group.proofs.member.with_shares.Given as goal

abbrev pub invariant-loop-at : goal.invariant-loop-at
invariant-loop-at l = l.shared.items ++ with_shares (drop l.at l.members) (drop l.at l.shares) ≡ with_shares l.members l.shares
