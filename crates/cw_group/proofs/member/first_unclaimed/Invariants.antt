use Rattle.std.proofs.Common.{◌≡◌, drop, not}
use Rattle.std.specs.List.{find}
use Rattle.cw_assign.specs.Items.{has}
use Rattle.cw_group.proofs.member.first_unclaimed.Given as goal

abbrev pub invariant-loop-item : goal.invariant-loop-item
invariant-loop-item l = find (λ x. not (has l.claim x)) (drop l.item-index l.held) ≡ find (λ x. not (has l.claim x)) l.held
