use Rattle.std.proofs.Common.{◌≡◌, ◌∷◌, [], Some, subst, ◌∙◌, sym}
use Rattle.cw_types.specs.declared.logs.LogName.TheVariants.{Config, Offsets, Status, Txn, Batches}
use Rattle.cw_pair.specs.State.{faults_of}
use Rattle.cw_offset.specs.BodyReading.{entry_at as stored_at}
use Rattle.cw_open.specs.OpenedLogs.{OpensPair}
use Rattle.cw_open.specs.declared.read_logs.ReadLogs.{ReadLogs}
use Rattle.cw_open.proofs.CauseLemmas.{cause-behind, kept-part, pair-cause, offsets-count}
use Rattle.cw_open.specs.OpenedFrom.{PairStays}
use Rattle.cw_open.proofs.StayLemmas.{pair-stays-of, pair-untouched, topic-untouched}
use Rattle.cw_open.proofs.read_logs.open_offsets.Goals as goal

pub returns-in-Ok-clause-offsets : goal.returns-in-Ok-clause-offsets
returns-in-Ok-clause-offsets g c =
    kept-part c.open_status.result (λ (l : ReadLogs g.row.D.Denot). l.offsets) c.in-Ok.offsets (OpensPair stored_at g.D.Disk Offsets c.args.offsets_a c.args.offsets_b) c.open_status.ensures.offsets c.in-Ok.ensures.opened

pub returns-in-Ok-clause-cause : goal.returns-in-Ok-clause-cause
returns-in-Ok-clause-cause g c = λ all same_offsets_a same_offsets_b same_status_a same_status_b same_txn same_batches.
    cause-behind g.D.Disk Offsets (Status ∷ Txn ∷ Batches ∷ []) all
    (λ files told. let f = c.in-Ok.ensures.opened.files files.offsets_a files.offsets_b (subst (λ d. g.D.Disk.holds d ≡ Some files.offsets_a) same_offsets_a told.0) (subst (λ d. g.D.Disk.holds d ≡ Some files.offsets_b) same_offsets_b told.1) in (f.bodies, f.stands))
    c.open_status.result (c.open_status.ensures.cause all same_status_a same_status_b same_txn same_batches)

pub returns-in-Err-clause-cause : goal.returns-in-Err-clause-cause
returns-in-Err-clause-cause g c = λ all same_offsets_a same_offsets_b same_status_a same_status_b same_txn same_batches.
    pair-cause g.D.Disk Offsets (Status ∷ Txn ∷ Batches ∷ []) all _ c.args.offsets_a c.args.offsets_b c.in-Err.fault.a c.in-Err.fault.b c.in-Err.fault.side (λ f. f.offsets_a) (λ f. f.offsets_b)
    (λ files told. ((subst (λ d. g.D.Disk.holds d ≡ Some files.offsets_a) same_offsets_a told.0), (subst (λ d. g.D.Disk.holds d ≡ Some files.offsets_b) same_offsets_b told.1))) (λ files at place harm has. has)
    (offsets-count g.D.Disk all c.in-Err.fault.side ∙ (λ i. faults_of g.D.Disk (record { a = same_offsets_a i; b = same_offsets_b i }) c.in-Err.fault.side)) (offsets-count g.D.Disk _ c.in-Err.fault.side)
    c.in-Err.fault.cause c.cause_of_pair-cause.result c.in-Err.ensures.cause c.cause_of_pair-cause.ensures

pub returns-in-Ok-clause-stay : goal.returns-in-Ok-clause-stay
returns-in-Ok-clause-stay g c = λ all config same_offsets_a same_offsets_b same_status_a same_status_b same_txn same_batches.
    c.open_status.ensures.stay all config (pair-stays-of g.D.Disk Offsets c.args.offsets_a c.args.offsets_b all.offsets_a all.offsets_b _ same_offsets_a same_offsets_b c.in-Ok.ensures.opened.from.stays)
    same_status_a same_status_b same_txn same_batches

pub returns-in-Err-clause-stay : goal.returns-in-Err-clause-stay
returns-in-Err-clause-stay g c = λ all config same_offsets_a same_offsets_b same_status_a same_status_b same_txn same_batches. record {
  config = subst (PairStays g.D.Disk Config all.config_a all.config_b) (sym c.give_back-config_a.ensures.disks) config;
  offsets = pair-stays-of g.D.Disk Offsets c.args.offsets_a c.args.offsets_b all.offsets_a all.offsets_b _ same_offsets_a same_offsets_b c.in-Err.ensures.stays;
  status = pair-untouched g.D.Disk Status g.met.D.Disk.only_now c.args.status_a c.args.status_b all.status_a all.status_b same_status_a same_status_b;
  txn = topic-untouched g.D.Disk Txn c.args.txn all.txn same_txn;
  batches = topic-untouched g.D.Disk Batches c.args.batches all.batches same_batches;
}
