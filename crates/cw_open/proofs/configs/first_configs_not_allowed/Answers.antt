use Rattle.std.proofs.Common.{[], subst, sym}
use Rattle.cw_open.specs.PassedConfigs.{TakesConfigs}
use Rattle.cw_open.proofs.Firsts.{ends}
use Rattle.cw_open.proofs.ConfigLemmas.{InConfigs, WalkedConfigLog, log_begins, log_more, log_lacks, walked_allowed}
use Rattle.cw_open.proofs.configs.first_configs_not_allowed.Goals as goal

pub loop-at-init : goal.loop-at-init
loop-at-init c = subst (WalkedConfigLog c.args.frames.now 0) (sym c.new-passed.ensures) (log_begins c.args.frames.now)

pub take_frame-requires : goal.take_frame-requires
take_frame-requires c = walked_allowed c.args.frames.now c.loop-at.at c.loop-at.passed c.loop-at.invariant

pub returns-then-not-branch : goal.returns-then-not-branch
returns-then-not-branch c =
    log_lacks c.args.frames.now c.loop-at.at c.loop-at.passed c.loop-at.invariant c.index-frames-at.result c.loop-at-test.true c.index-frames-at.is
    c.take_frame.new.passed c.in_ok-take_frame.field-0
    (subst (λ l. TakesConfigs c.loop-at.passed l c.take_frame.new.passed c.in_ok-take_frame.field-0) c.as_slice.ensures c.in_ok-take_frame.ensures) c.if-not-branch.true

pub loop-at-preserved : goal.loop-at-preserved
loop-at-preserved c =
    log_more c.args.frames.now c.loop-at.at c.loop-at.passed c.loop-at.invariant c.index-frames-at.result c.loop-at-test.true c.index-frames-at.is
    c.take_frame.new.passed c.in_ok-take_frame.field-0
    (subst (λ l. TakesConfigs c.loop-at.passed l c.take_frame.new.passed c.in_ok-take_frame.field-0) c.as_slice.ensures c.in_ok-take_frame.ensures) c.if-not-branch.false

pub returns : goal.returns
returns c = ends InConfigs [] c.args.frames.now c.loop-at.at c.loop-at.invariant.each c.loop-at-test.false
