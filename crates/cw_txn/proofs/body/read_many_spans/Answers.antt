use Rattle.std.proofs.lemmas.Result.{err_from_is_err_and}
use Rattle.cw_bytes.specs.Reading.{many_at, span_at}
use Rattle.cw_bytes.proofs.Many.{goes_on, ends, is_done}
use Rattle.cw_txn.proofs.body.read_many_spans.Goals as goal

pub returns-in_err-span : goal.returns-in_err-span
returns-in_err-span c =
    let p = err_from_is_err_and c.from_residual-in_err-span.result c.from_residual-in_err-span.ensures.1 in
    rw (p.1, p.2) (ends span_at c.in_err-span.field-0.0 c.loop.spans.items c.args.count c.loop.counter c.loop.from (many_at span_at c.args.count c.args.from.now) c.loop-test.true c.in_err-span.ensures.value c.loop.invariant)

pub loop-preserved : goal.loop-preserved
loop-preserved c =
    rw c.in_ok-push.ensures.items (goes_on span_at c.loop.spans.items c.args.count c.loop.counter c.loop.from c.in_ok-span.span c.read_span.new.from (many_at span_at c.args.count c.args.from.now) c.loop-test.true c.in_ok-span.ensures.value c.loop.invariant)

pub returns : goal.returns
returns c = is_done span_at c.loop.spans.items c.args.count c.loop.counter c.loop.from (many_at span_at c.args.count c.args.from.now) c.loop-test.false c.loop.invariant
