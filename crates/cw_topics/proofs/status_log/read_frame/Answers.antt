use Rattle.std.proofs.Common.{[], ◌++◌, ap, ◌∙◌}
use Rattle.std.specs.Prelude.{Option}
use Rattle.std.specs.List.{cons_option}
use Rattle.cw_model.specs.State.{StampedStatus}
use Rattle.cw_topics.specs.Statuses.{StatusList}
use Rattle.cw_topics.proofs.Opening.{listed, none-listed, more-listed, all-listed}
use Rattle.cw_topics.proofs.status_log.read_frame.Goals as goal

pub loop-applied-init : goal.loop-applied-init
loop-applied-init c = none-listed c.args.log.now c.args.frame.now c.requires

pub add_some-requires : goal.add_some-requires
add_some-requires c = ap (λ (l : StatusList). l.reserved) c.loop-applied.invariant

pub loop-applied-preserved : goal.loop-applied-preserved
loop-applied-preserved c =
    more-listed c.args.log.now.list c.args.frame.now c.loop-applied.applied-index c.loop-applied.log c.loop-applied.invariant c.applied-item.result
    c.loop-applied-test.true c.applied-item.is c.add_some.new.log
    (c.in_ok-add_some.ensures ∙ ap (λ (o : Option StampedStatus). listed (c.loop-applied.log.list ++ cons_option o [])) c.in_ok-found.ensures)

pub returns : goal.returns
returns c = all-listed c.args.log.now.list c.args.frame.now c.loop-applied.applied-index c.loop-applied.log c.loop-applied.invariant c.loop-applied-test.false
