use Rattle.std.proofs.Common.{◌∙◌, sym}
use Rattle.cw_txn.proofs.Ended.{is_of-Decides}
use Rattle.cw_txn.proofs.owning.is_owned.Goals as goal

pub returns : goal.returns
returns c = (
  λ yes. (is_of-Decides c.args.connector.now c.args.part.now).0 (sym c.is_of.ensures ∙ yes),
  λ own. c.is_of.ensures ∙ (is_of-Decides c.args.connector.now c.args.part.now).1 own,
)
