use Rattle.std.proofs.Common.{List, subst}
use Rattle.cw_bytes.specs.Frames.{EachFrom, joined}
use Rattle.cw_txn.specs.declared.entry.Entry.{Entry}
use Rattle.cw_txn.specs.Allowed.{IsAllowedBehind}
use Rattle.cw_model.specs.StandsFor.{judged}
use Rattle.cw_open.specs.Judging.{Says}
use Rattle.cw_open.proofs.first_harm.entry_not_allowed.Goals as goal

pub returns : goal.returns
returns c = subst (λ (l : List (List Entry)). Says (judged (λ before frame. EachFrom IsAllowedBehind (joined before) frame) l) c.in_ok-first.first) c.entries.ensures c.in_ok-first.ensures
