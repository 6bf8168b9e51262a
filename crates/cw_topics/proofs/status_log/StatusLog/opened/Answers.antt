use Rattle.std.proofs.Common.{List, ◌++◌, ap, ◌∙◌}
use Rattle.std.specs.List.{filter_map}
use Rattle.cw_bytes.specs.declared.applied.Applied.{Applied}
use Rattle.cw_model.specs.Bodies.{status_in}
use Rattle.cw_topics.specs.Statuses.{StatusList}
use Rattle.cw_topics.proofs.Opening.{listed, more-framed, all-framed}
use Rattle.cw_topics.proofs.status_log.StatusLog.opened.Goals as goal

pub read_frame-requires : goal.read_frame-requires
read_frame-requires c = ap (λ (l : StatusList). l.reserved) c.loop-frame.invariant

pub loop-frame-preserved : goal.loop-frame-preserved
loop-frame-preserved c =
    more-framed c.args.frames.now c.loop-frame.frame-index c.loop-frame.log c.loop-frame.invariant c.frame-item.result
    c.loop-frame-test.true c.frame-item.is c.read_frame.new.log
    (c.in_ok-read_frame.ensures ∙ ap (λ (l : List Applied). listed (c.loop-frame.log.list ++ filter_map status_in l)) c.as_slice.ensures)

pub returns : goal.returns
returns c = all-framed c.args.frames.now c.loop-frame.frame-index c.loop-frame.log c.loop-frame.invariant c.loop-frame-test.false
