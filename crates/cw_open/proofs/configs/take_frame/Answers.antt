use Rattle.cw_open.proofs.ConfigLemmas.{configs_begin, configs_more, configs_not, configs_taken}
use Rattle.cw_open.proofs.configs.take_frame.Goals as goal

pub loop-at-init : goal.loop-at-init
loop-at-init c = configs_begin c.args.passed.now c.args.frame.now c.requires

pub take_config-requires : goal.take_config-requires
take_config-requires c = c.loop-at.invariant.allowed

pub returns-then-not-branch : goal.returns-then-not-branch
returns-then-not-branch c =
    configs_not c.args.passed.now c.args.frame.now c.loop-at.at c.loop-at.passed c.loop-at.invariant c.index-frame-at.result c.loop-at-test.true c.index-frame-at.is
    c.take_config.new.passed c.take_config.new.passed c.in_ok-take_config.field-0 c.in_ok-take_config.ensures c.if-not-branch.true

pub loop-at-preserved : goal.loop-at-preserved
loop-at-preserved c =
    configs_more c.args.passed.now c.args.frame.now c.loop-at.at c.loop-at.passed c.loop-at.invariant c.index-frame-at.result c.loop-at-test.true c.index-frame-at.is
    c.take_config.new.passed c.in_ok-take_config.field-0 c.in_ok-take_config.ensures c.if-not-branch.false

pub returns : goal.returns
returns c = configs_taken c.args.passed.now c.args.frame.now c.loop-at.at c.loop-at.passed c.loop-at.invariant c.loop-at-test.false
