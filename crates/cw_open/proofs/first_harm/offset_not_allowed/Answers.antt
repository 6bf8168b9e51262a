use Rattle.std.proofs.Common.{List, subst}
use Rattle.cw_txn.specs.declared.entry.Entry.{Entry}
use Rattle.cw_offset.specs.declared.body.OffsetEntry.{OffsetEntry}
use Rattle.cw_offset.specs.Acceptance.{IsAllowedStored}
use Rattle.cw_model.specs.StandsFor.{judged}
use Rattle.cw_open.specs.Judging.{Says}
use Rattle.cw_open.proofs.first_harm.offset_not_allowed.Goals as goal

pub returns : goal.returns
returns c =
    subst (λ (e : List Entry). Says (judged (IsAllowedStored e) c.args.frames.now.offsets) c.in_ok-first.first) c.requires
    (subst (λ (l : List OffsetEntry). Says (judged (IsAllowedStored c.args.entries.now) l) c.in_ok-first.first) c.offsets.ensures c.in_ok-first.ensures)
