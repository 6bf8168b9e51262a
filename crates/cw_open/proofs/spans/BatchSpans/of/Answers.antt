use Rattle.std.proofs.Common.{is_some, ap}
use Rattle.std.specs.Map.{lookup}
use Rattle.std.specs.BTreeMap.{is_at}
use Rattle.cw_open.specs.Backing.{span_order}
use Rattle.cw_open.proofs.SpanLemmas.{spans_more, spans_all}
use Rattle.cw_open.proofs.spans.BatchSpans.of.Goals as goal

pub loop-at-init : goal.loop-at-init
loop-at-init c = record { rows = λ key. ap (λ es. is_some (lookup (is_at (span_order key)) es)) c.new.ensures.empty }

pub loop-at-preserved : goal.loop-at-preserved
loop-at-preserved c =
    spans_more c.args.log.now c.loop-at.at c.loop-at.spans c.put.new.spans c.loop-at.invariant c.index-log-at.result c.loop-at-test.true c.index-log-at.is c.in_ok-put.ensures

pub returns : goal.returns
returns c = spans_all c.args.log.now c.loop-at.at c.loop-at.spans c.loop-at.invariant c.loop-at-test.false
