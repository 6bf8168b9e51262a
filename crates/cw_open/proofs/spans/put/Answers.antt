use Rattle.std.proofs.Common.{[], ◌∷◌, ◌++◌, subst, sym}
use Rattle.cw_data.specs.declared.entry.DataEntry.{DataEntry}
use Rattle.cw_open.specs.Backing.{AreBatchSpans}
use Rattle.cw_open.proofs.SpanLemmas.{spans_mark}
use Rattle.cw_open.proofs.spans.put.Goals as goal

pub returns-in-Mark : goal.returns-in-Mark
returns-in-Mark c = λ log kept. subst (λ (e : DataEntry). AreBatchSpans c.args.spans.now (log ++ e ∷ [])) (sym c.in-Mark.is) (spans_mark log c.in-Mark.tag c.in-Mark.committed c.args.spans.now kept)
