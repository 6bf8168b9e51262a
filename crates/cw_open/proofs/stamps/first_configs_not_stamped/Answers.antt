use Rattle.std.proofs.Common.{[], ◌≤◌, ◌↔◌, IsTrue, All, subst}
use Rattle.cw_bytes.specs.declared.applied.Applied.{Applied}
use Rattle.cw_open.proofs.Firsts.{ends}
use Rattle.cw_open.proofs.StampLemmas.{HasStamps, stamped_more, stamp_lacks}
use Rattle.cw_open.proofs.stamps.first_configs_not_stamped.Goals as goal

pub loop-at-init : goal.loop-at-init
loop-at-init c = tt

pub returns-then-not-are_stamped : goal.returns-then-not-are_stamped
returns-then-not-are_stamped c =
    stamp_lacks c.args.entries.now c.length-end.result c.length-end.ensures c.args.frames.now c.loop-at.at c.loop-at.invariant c.index-frames-at.result c.loop-at-test.true c.index-frames-at.is
    c.are_stamped.result (subst (λ l. IsTrue c.are_stamped.result ↔ All (λ (a : Applied). a.stamp ≤ c.length-end.result) l) c.as_slice.ensures c.are_stamped.ensures) c.if-not-are_stamped.true

pub loop-at-preserved : goal.loop-at-preserved
loop-at-preserved c =
    stamped_more c.args.entries.now c.length-end.result c.length-end.ensures c.args.frames.now c.loop-at.at c.loop-at.invariant c.index-frames-at.result c.loop-at-test.true c.index-frames-at.is
    c.are_stamped.result (subst (λ l. IsTrue c.are_stamped.result ↔ All (λ (a : Applied). a.stamp ≤ c.length-end.result) l) c.as_slice.ensures c.are_stamped.ensures) c.if-not-are_stamped.false

pub returns : goal.returns
returns c = ends (HasStamps c.args.entries.now) [] c.args.frames.now c.loop-at.at c.loop-at.invariant c.loop-at-test.false
