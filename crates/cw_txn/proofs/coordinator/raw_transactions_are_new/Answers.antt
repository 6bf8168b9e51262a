use Rattle.cw_txn.specs.declared.entry.Entry.TheVariants.{Bump, Commit, Set}
use Rattle.cw_txn.specs.Legal.{IsNumberedBehind}
use Rattle.cw_txn.proofs.Walks.{Each-push}
use Rattle.cw_txn.proofs.Numbered.{is_committed-numbered}
use Rattle.cw_txn.proofs.coordinator.raw_transactions_are_new.Goals as goal

pub returns-clause-new : goal.returns-clause-new
returns-clause-new c entries tag n each raw last = is_committed-numbered tag n raw entries each last

pub returns-clause-commit : goal.returns-clause-commit
returns-clause-commit c entries tag generation spans each last = Each-push IsNumberedBehind entries (Commit tag generation spans) each (λ n raw. last)

pub returns-clause-bump : goal.returns-clause-bump
returns-clause-bump c entries tid each = Each-push IsNumberedBehind entries (Bump tid) each tt

pub returns-clause-set : goal.returns-clause-set
returns-clause-set c entries tid epoch list each = Each-push IsNumberedBehind entries (Set tid epoch list) each tt
