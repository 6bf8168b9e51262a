use Rattle.std.proofs.Common.{IsTrue, ◌↔◌, map, subst, sym}
use Rattle.cw_types.specs.declared.ids.Tid.{Tid}
use Rattle.cw_txn.specs.Allowed.{IsSinkOf, SetsOwn}
use Rattle.cw_txn.proofs.Noted.{part_set}
use Rattle.cw_txn.proofs.Mapped.{iff-map}
use Rattle.cw_txn.proofs.owning.sets_own.Goals as goal

pub returns-in-Task : goal.returns-in-Task
returns-in-Task c =
    subst (λ (tid : Tid). IsTrue c.are_sinks_of.result ↔ SetsOwn tid (map part_set c.args.list.now)) (sym c.in-Task.is)
    (iff-map (IsSinkOf c.in-Task.id.connector) part_set c.args.list.now c.are_sinks_of.result c.are_sinks_of.ensures)
