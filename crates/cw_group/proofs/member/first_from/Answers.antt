use Rattle.std.proofs.Common.{ℕ, ◌+◌, ◌-◌, ◌/◌, ◌<◌, ◌≤◌, ap, arith, length}
use Rattle.cw_group.specs.declared.member.Member.{Member}
use Rattle.cw_group.proofs.PlaceLemmas.{below_middle, from_middle}
use Rattle.cw_group.proofs.member.first_from.Goals as goal

pub loop-low-preserved-then-members-middle : goal.loop-low-preserved-then-members-middle
loop-low-preserved-then-members-middle c =
    let middle : ℕ = c.loop-low.low + (c.loop-low.high - c.loop-low.low) / 2 in
    let within : c.loop-low.low + (c.loop-low.high - c.loop-low.low) / 2 < length c.args.members.now = omega (arith, c.loop-low.invariant.within, c.loop-low-test.true) in
    let low : c.index-members-middle.result.worker < c.args.worker = omega (arith, ap (λ (o : Member). o.worker) c.index-members-middle.is, c.if-members-middle.true) in
    record {
      order = omega (arith, c.loop-low-test.true);
      within = c.loop-low.invariant.within;
      below = below_middle c.args.worker c.args.members.now middle c.index-members-middle.result c.requires within c.index-members-middle.is low;
      above = c.loop-low.invariant.above;
    }

pub loop-low-preserved : goal.loop-low-preserved
loop-low-preserved c =
    let middle : ℕ = c.loop-low.low + (c.loop-low.high - c.loop-low.low) / 2 in
    let within : c.loop-low.low + (c.loop-low.high - c.loop-low.low) / 2 < length c.args.members.now = omega (arith, c.loop-low.invariant.within, c.loop-low-test.true) in
    let high : c.args.worker ≤ c.index-members-middle.result.worker = omega (arith, ap (λ (o : Member). o.worker) c.index-members-middle.is, c.if-members-middle.false) in
    record {
      order = omega arith;
      within = omega (arith, within);
      below = c.loop-low.invariant.below;
      above = from_middle c.args.worker c.args.members.now middle c.index-members-middle.result c.requires within c.index-members-middle.is high;
    }
