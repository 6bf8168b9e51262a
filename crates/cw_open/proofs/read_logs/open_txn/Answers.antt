use Rattle.std.proofs.Common.{◌≡◌, ◌∷◌, [], Some, refl, ap, subst, sym}
use Rattle.cw_types.specs.declared.logs.LogName.TheVariants.{Config, Offsets, Status, Txn, Batches}
use Rattle.cw_txn.specs.BodyReading.{entries_at}
use Rattle.cw_open.specs.OpenedLogs.{OpensTopic}
use Rattle.cw_open.specs.declared.read_logs.ReadLogs.{ReadLogs}
use Rattle.cw_open.proofs.CauseLemmas.{cause-behind, kept-part, topic-cause}
use Rattle.cw_open.specs.OpenedFrom.{PairStays}
use Rattle.cw_open.proofs.StayLemmas.{topic-stays-of, topic-untouched}
use Rattle.cw_open.proofs.read_logs.open_txn.Goals as goal

pub returns-in-Ok-clause-txn : goal.returns-in-Ok-clause-txn
returns-in-Ok-clause-txn g c =
    kept-part c.open_batches.result (λ (l : ReadLogs g.row.D.Denot). l.txn) c.in-Ok.txn (OpensTopic entries_at g.D.Disk Txn c.args.txn) c.open_batches.ensures.txn c.in-Ok.ensures.opened

pub returns-in-Ok-clause-cause : goal.returns-in-Ok-clause-cause
returns-in-Ok-clause-cause g c = λ all same_txn same_batches.
    cause-behind g.D.Disk Txn (Batches ∷ []) all
    (λ files told. let f = c.in-Ok.ensures.opened.files files.txn (subst (λ d. g.D.Disk.holds d ≡ Some files.txn) same_txn told) in (f.bodies, f.stands))
    c.open_batches.result (c.open_batches.ensures.cause all same_batches)

pub returns-in-Err-clause-cause : goal.returns-in-Err-clause-cause
returns-in-Err-clause-cause g c = λ all same_txn same_batches.
    topic-cause g.D.Disk Txn (Batches ∷ []) all _ c.args.txn c.in-Err.fault.disk (λ f. f.txn)
    (λ files told. (subst (λ d. g.D.Disk.holds d ≡ Some files.txn) same_txn told)) (λ files at place harm has. has)
    (ap g.D.Disk.count same_txn) refl c.in-Err.fault.cause c.cause_of_topic-cause.result c.in-Err.ensures.cause c.cause_of_topic-cause.ensures

pub returns-in-Ok-clause-stay : goal.returns-in-Ok-clause-stay
returns-in-Ok-clause-stay g c = λ all config offsets status same_txn same_batches.
    c.open_batches.ensures.stay all config offsets status (topic-stays-of g.D.Disk Txn c.args.txn all.txn _ same_txn c.in-Ok.ensures.opened.from.stays) same_batches

pub returns-in-Err-clause-stay : goal.returns-in-Err-clause-stay
returns-in-Err-clause-stay g c = λ all config offsets status same_txn same_batches. record {
  config = subst (PairStays g.D.Disk Config all.config_a all.config_b) (sym c.give_back-config_a.ensures.disks) config;
  offsets = subst (PairStays g.D.Disk Offsets all.offsets_a all.offsets_b) (sym c.give_back-offsets_a.ensures.disks) offsets;
  status = subst (PairStays g.D.Disk Status all.status_a all.status_b) (sym c.give_back-status_a.ensures.disks) status;
  txn = topic-stays-of g.D.Disk Txn c.args.txn all.txn _ same_txn c.in-Err.ensures.stays;
  batches = topic-untouched g.D.Disk Batches c.args.batches all.batches same_batches;
}
