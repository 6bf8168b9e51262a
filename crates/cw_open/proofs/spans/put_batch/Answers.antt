use Rattle.cw_open.proofs.SpanLemmas.{spans_batch}
use Rattle.cw_open.proofs.spans.put_batch.Goals as goal

pub returns : goal.returns
returns c = λ log kept. spans_batch log c.args.batch.now c.in_ok-key.key c.args.spans.now _ kept c.in_ok-key.ensures c.in_ok-note.ensures
