use Rattle.std.proofs.Common.{List, subst}
use Rattle.cw_txn.specs.declared.entry.Entry.{Entry}
use Rattle.cw_data.specs.declared.entry.DataEntry.{DataEntry}
use Rattle.cw_model.specs.Allowed.{IsAllowedData}
use Rattle.cw_model.specs.StandsFor.{judged}
use Rattle.cw_open.specs.Judging.{Says}
use Rattle.cw_open.proofs.first_harm.batch_not_allowed.Goals as goal

pub returns : goal.returns
returns c =
    subst (λ (e : List Entry). Says (judged (IsAllowedData e) c.args.frames.now.batches) c.in_ok-first.first) c.requires
    (subst (λ (l : List DataEntry). Says (judged (IsAllowedData c.args.entries.now) l) c.in_ok-first.first) c.batches.ensures c.in_ok-first.ensures)
