use Rattle.cw_open.proofs.SpanLemmas.{has_span}
use Rattle.cw_open.proofs.spans.BatchSpans.has.Goals as goal

pub returns : goal.returns
returns c = λ log kept. has_span c.args.self.now log kept c.args.tag.now c.args.span.now c.in_ok-key.key c.in_ok-key.ensures c.contains_key.result c.contains_key.ensures
