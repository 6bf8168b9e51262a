use Rattle.std.proofs.Common.{length}
use Rattle.cw_bytes.specs.Spelling.{word, span_bytes, IsSpan}
use Rattle.cw_txn.proofs.Written.{written_more, all_more, all_written}
use Rattle.cw_txn.proofs.body.write_spans.Goals as goal

pub loop-span-preserved : goal.loop-span-preserved
loop-span-preserved c = (
  written_more span_bytes IsSpan c.args.spans.now c.loop-span.span-index c.span-item.result c.loop-span-test.true c.span-item.is c.args.into.now (word (length c.args.spans.now)) c.loop-span.into c.write_span.new.into c.loop-span.invariant.0 c.in_ok-write_span.ensures.ok,
  all_more span_bytes IsSpan c.args.spans.now c.loop-span.span-index c.span-item.result c.loop-span-test.true c.span-item.is c.loop-span.invariant.1 c.in_ok-write_span.ensures.fits,
)

pub returns-clause-fits : goal.returns-clause-fits
returns-clause-fits c =
    let done = all_written IsSpan c.args.spans.now c.loop-span.span-index c.loop-span-test.false c.loop-span.invariant.1 in
    (c.requires, done)
