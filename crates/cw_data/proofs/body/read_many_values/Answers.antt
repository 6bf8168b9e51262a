use Rattle.std.proofs.lemmas.Result.{err_from_is_err_and}
use Rattle.cw_bytes.specs.Reading.{many_at, text_at}
use Rattle.cw_bytes.proofs.Many.{goes_on, ends, is_done}
use Rattle.cw_data.proofs.body.read_many_values.Goals as goal

pub returns-in_err-value : goal.returns-in_err-value
returns-in_err-value c =
    let p = err_from_is_err_and c.from_residual.result c.from_residual.ensures.1 in
    rw (p.1, p.2) (ends text_at c.in_err-value.field-0.0 c.loop.values.items c.args.count c.loop.counter c.loop.from (many_at text_at c.args.count c.args.from.now) c.loop-test.true c.in_err-value.ensures c.loop.invariant)

pub loop-preserved : goal.loop-preserved
loop-preserved c =
    rw c.in_ok-push.ensures.items (goes_on text_at c.loop.values.items c.args.count c.loop.counter c.loop.from c.in_ok-value.value c.read_value.new.from (many_at text_at c.args.count c.args.from.now) c.loop-test.true c.in_ok-value.ensures c.loop.invariant)

pub returns : goal.returns
returns c = is_done text_at c.loop.values.items c.args.count c.loop.counter c.loop.from (many_at text_at c.args.count c.args.from.now) c.loop-test.false c.loop.invariant
