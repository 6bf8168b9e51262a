use Rattle.std.proofs.Common.{◌≡◌, ◌∷◌, [], Some, subst, ◌∙◌, sym}
use Rattle.cw_types.specs.declared.logs.LogName.TheVariants.{Config, Offsets, Status, Txn, Batches}
use Rattle.cw_pair.specs.State.{faults_of}
use Rattle.cw_bytes.specs.Reading.{records_at}
use Rattle.cw_open.specs.OpenedLogs.{OpensPair}
use Rattle.cw_open.specs.declared.read_logs.ReadLogs.{ReadLogs}
use Rattle.cw_open.proofs.CauseLemmas.{cause-behind, kept-part, pair-cause, status-count}
use Rattle.cw_open.specs.OpenedFrom.{PairStays}
use Rattle.cw_open.proofs.StayLemmas.{pair-stays-of, topic-untouched}
use Rattle.cw_open.proofs.read_logs.open_status.Goals as goal

pub returns-in-Ok-clause-status : goal.returns-in-Ok-clause-status
returns-in-Ok-clause-status g c =
    kept-part c.open_txn.result (λ (l : ReadLogs g.row.D.Denot). l.status) c.in-Ok.status (OpensPair records_at g.D.Disk Status c.args.status_a c.args.status_b) c.open_txn.ensures.status c.in-Ok.ensures.opened

pub returns-in-Ok-clause-cause : goal.returns-in-Ok-clause-cause
returns-in-Ok-clause-cause g c = λ all same_status_a same_status_b same_txn same_batches.
    cause-behind g.D.Disk Status (Txn ∷ Batches ∷ []) all
    (λ files told. let f = c.in-Ok.ensures.opened.files files.status_a files.status_b (subst (λ d. g.D.Disk.holds d ≡ Some files.status_a) same_status_a told.0) (subst (λ d. g.D.Disk.holds d ≡ Some files.status_b) same_status_b told.1) in (f.bodies, f.stands))
    c.open_txn.result (c.open_txn.ensures.cause all same_txn same_batches)

pub returns-in-Err-clause-cause : goal.returns-in-Err-clause-cause
returns-in-Err-clause-cause g c = λ all same_status_a same_status_b same_txn same_batches.
    pair-cause g.D.Disk Status (Txn ∷ Batches ∷ []) all _ c.args.status_a c.args.status_b c.in-Err.fault.a c.in-Err.fault.b c.in-Err.fault.side (λ f. f.status_a) (λ f. f.status_b)
    (λ files told. ((subst (λ d. g.D.Disk.holds d ≡ Some files.status_a) same_status_a told.0), (subst (λ d. g.D.Disk.holds d ≡ Some files.status_b) same_status_b told.1))) (λ files at place harm has. has)
    (status-count g.D.Disk all c.in-Err.fault.side ∙ (λ i. faults_of g.D.Disk (record { a = same_status_a i; b = same_status_b i }) c.in-Err.fault.side)) (status-count g.D.Disk _ c.in-Err.fault.side)
    c.in-Err.fault.cause c.cause_of_pair-cause.result c.in-Err.ensures.cause c.cause_of_pair-cause.ensures

pub returns-in-Ok-clause-stay : goal.returns-in-Ok-clause-stay
returns-in-Ok-clause-stay g c = λ all config offsets same_status_a same_status_b same_txn same_batches.
    c.open_txn.ensures.stay all config offsets (pair-stays-of g.D.Disk Status c.args.status_a c.args.status_b all.status_a all.status_b _ same_status_a same_status_b c.in-Ok.ensures.opened.from.stays)
    same_txn same_batches

pub returns-in-Err-clause-stay : goal.returns-in-Err-clause-stay
returns-in-Err-clause-stay g c = λ all config offsets same_status_a same_status_b same_txn same_batches. record {
  config = subst (PairStays g.D.Disk Config all.config_a all.config_b) (sym c.give_back-config_a.ensures.disks) config;
  offsets = subst (PairStays g.D.Disk Offsets all.offsets_a all.offsets_b) (sym c.give_back-offsets_a.ensures.disks) offsets;
  status = pair-stays-of g.D.Disk Status c.args.status_a c.args.status_b all.status_a all.status_b _ same_status_a same_status_b c.in-Err.ensures.stays;
  txn = topic-untouched g.D.Disk Txn c.args.txn all.txn same_txn;
  batches = topic-untouched g.D.Disk Batches c.args.batches all.batches same_batches;
}
