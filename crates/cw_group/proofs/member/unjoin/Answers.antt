use Rattle.std.proofs.Common.{get_or, ap, arith, length, ◌<◌}
use Rattle.cw_group.specs.declared.member.Member.{Member}
use Rattle.cw_group.proofs.PlaceLemmas.{unjoin-more}
use Rattle.cw_group.proofs.member.unjoin.Goals as goal

pub loop-at-preserved : goal.loop-at-preserved
loop-at-preserved c =
    let within : c.loop-at.at < length c.loop-at.members = omega (arith, c.loop-at.auto.members, c.loop-at-test.true) in
    let step = unjoin-more c.args.members.now c.loop-at.members c.loop-at.at (get_or c.loop-at.members c.loop-at.at c.index-members-at.result)
    within c.loop-at.invariant.done c.loop-at.invariant.rest (ap (λ (d : Member). get_or c.loop-at.members c.loop-at.at d) c.index-members-at.is) in
    record { done = step.0; rest = step.1 }
