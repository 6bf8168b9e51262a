use Rattle.std.proofs.Common.{◌↔◌, List, IsTrue, ap, subst, ◌∙◌}
use Rattle.cw_bytes.specs.Frames.{joined}
use Rattle.cw_data.specs.declared.entry.DataEntry.{DataEntry}
use Rattle.cw_model.specs.Committed.{Agrees}
use Rattle.cw_txn.specs.declared.entry.Entry.{Entry}
use Rattle.cw_audit.proofs.auditing.agree.Goals as goal

pub returns : goal.returns
returns c =
    subst (λ (l : List DataEntry). IsTrue c.in_ok-agrees.agrees ↔ Agrees c.args.feeds.now (joined c.args.frames.now.txn) l) c.batches.ensures
    (subst (λ (l : List Entry). IsTrue c.in_ok-agrees.agrees ↔ Agrees c.args.feeds.now l c.batches.result.now) (c.in_ok-entries.ensures ∙ ap joined c.entries.ensures) c.in_ok-agrees.ensures)
