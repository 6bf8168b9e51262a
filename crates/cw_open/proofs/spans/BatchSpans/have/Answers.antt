use Rattle.std.specs.List.{Any}
use Rattle.cw_types.specs.declared.ids.Span.{Span}
use Rattle.cw_model.specs.Committed.{batches_of}
use Rattle.cw_model.specs.StandsFor.{IsBatchFor}
use Rattle.cw_open.proofs.Tested.{each_more, each_not, each_all}
use Rattle.cw_open.proofs.spans.BatchSpans.have.Goals as goal

pub loop-at-init : goal.loop-at-init
loop-at-init c = λ log kept. tt

pub returns-then-not-branch : goal.returns-then-not-branch
returns-then-not-branch c = λ log kept.
    each_not (λ (span : Span). Any (IsBatchFor c.args.tag.now span) (batches_of log)) c.args.spans.now c.loop-at.at c.index-spans-at.result c.loop-at-test.true c.index-spans-at.is
    c.in_ok-has.field-0 (c.in_ok-has.ensures log kept) c.if-not-branch.true

pub loop-at-preserved : goal.loop-at-preserved
loop-at-preserved c = λ log kept.
    each_more (λ (span : Span). Any (IsBatchFor c.args.tag.now span) (batches_of log)) c.args.spans.now c.loop-at.at c.index-spans-at.result c.loop-at-test.true c.index-spans-at.is
    (c.loop-at.invariant log kept) c.in_ok-has.field-0 (c.in_ok-has.ensures log kept) c.if-not-branch.false

pub returns : goal.returns
returns c = λ log kept.
    each_all (λ (span : Span). Any (IsBatchFor c.args.tag.now span) (batches_of log)) c.args.spans.now c.loop-at.at (c.loop-at.invariant log kept) c.loop-at-test.false
