use Rattle.std.proofs.Common.{◌≡◌, ◌∙◌, ◌+◌, ap, cond, Bool, true}
use Rattle.cw_types.proofs.SameLemmas.{same_tid-Decides}
use Rattle.std.proofs.Common.{refl}
use Rattle.cw_types.specs.Same.{same_tid}
use Rattle.cw_txn.specs.declared.entry.Entry.TheVariants.{Bump}
use Rattle.cw_txn.specs.Legal.{epoch_of}
use Rattle.cw_txn.proofs.Walks.{epoch_of-push}
use Rattle.cw_txn.proofs.coordinator.Coordinator.bump.Goals as goal

pub returns-clause-epoch : goal.returns-clause-epoch
returns-clause-epoch c =
    let tid = c.args.tid.now in
    let own : same_tid tid tid ≡ true = (same_tid-Decides tid tid).1 refl in
    c.epoch_of.ensures ∙ ap (epoch_of tid) c.in_ok-append.ensures.ok.entries ∙ epoch_of-push tid c.args.self.now.entries (Bump tid)
    ∙ ap (λ (b : Bool). epoch_of tid c.args.self.now.entries + cond b 1 0) own
