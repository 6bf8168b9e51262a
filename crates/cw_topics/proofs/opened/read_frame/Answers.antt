use Rattle.std.proofs.Common.{◌++◌, [], ap, ◌∙◌}
use Rattle.std.specs.List.{cons_option}
use Rattle.std.specs.Prelude.{Option}
use Rattle.cw_config.specs.declared.records.ConfigRecord.{ConfigRecord}
use Rattle.cw_topics.proofs.Taking.{none-read, record-read, all-read}
use Rattle.cw_topics.proofs.opened.read_frame.Goals as goal

pub loop-applied-init : goal.loop-applied-init
loop-applied-init c = none-read c.args.records.now.items c.args.frame.now

pub loop-applied-preserved : goal.loop-applied-preserved
loop-applied-preserved c =
    record-read c.args.records.now.items c.args.frame.now c.loop-applied.applied-index c.loop-applied.records.items c.loop-applied.invariant c.applied-item.result
    c.loop-applied-test.true c.applied-item.is c.push_some.new.records.items
    (c.in_ok-push_some.ensures ∙ ap (λ (o : Option ConfigRecord). c.loop-applied.records.items ++ cons_option o []) c.in_ok-found.ensures)

pub returns : goal.returns
returns c = all-read c.args.records.now.items c.args.frame.now c.loop-applied.applied-index c.loop-applied.records.items c.loop-applied.invariant c.loop-applied-test.false
