use Rattle.std.proofs.Common.{IsTrue, ◌↔◌, map, subst, sym}
use Rattle.cw_types.specs.declared.ids.Tid.{Tid}
use Rattle.cw_txn.specs.Allowed.{IsRaw, IsSourceOf, CommitsOwn}
use Rattle.cw_txn.proofs.Chained.{part_of}
use Rattle.cw_txn.proofs.Mapped.{iff-map}
use Rattle.cw_txn.proofs.owning.commits_own.Goals as goal

pub returns-in-Task : goal.returns-in-Task
returns-in-Task c =
    subst (λ (tid : Tid). IsTrue c.are_sources_of.result ↔ CommitsOwn tid c.args.number c.args.place (map part_of c.args.spans.now)) (sym c.in-Task.is)
    (iff-map (IsSourceOf c.in-Task.id.connector) part_of c.args.spans.now c.are_sources_of.result c.are_sources_of.ensures)

pub returns-then-number-place : goal.returns-then-number-place
returns-then-number-place c =
    let raw = iff-map IsRaw part_of c.args.spans.now c.are_raw.result c.are_raw.ensures in
    subst (λ (tid : Tid). IsTrue c.are_raw.result ↔ CommitsOwn tid c.args.number c.args.place (map part_of c.args.spans.now)) (sym c.in-Raw.is)
    (λ yes. (c.if-number-place.true, raw.0 yes), λ own. raw.1 own.1)
