use Rattle.std.proofs.Common.{◌≡◌, [], Some, refl, ap, subst, sym}
use Rattle.cw_types.specs.declared.logs.LogName.TheVariants.{Config, Offsets, Status, Txn, Batches}
use Rattle.cw_open.proofs.CauseLemmas.{topic-cause}
use Rattle.cw_open.specs.OpenedFrom.{PairStays, TopicStays}
use Rattle.cw_open.proofs.StayLemmas.{topic-stays-of}
use Rattle.cw_open.proofs.read_logs.open_batches.Goals as goal

pub returns-in-Err-clause-cause : goal.returns-in-Err-clause-cause
returns-in-Err-clause-cause g c = λ all same.
    topic-cause g.D.Disk Batches [] all _ c.args.batches c.in-Err.fault.disk (λ f. f.batches)
    (λ files tell. subst (λ d. g.D.Disk.holds d ≡ Some files.batches) same tell) (λ files at place harm has. has)
    (ap g.D.Disk.count same) refl c.in-Err.fault.cause c.cause_of_topic-cause.result c.in-Err.ensures.cause c.cause_of_topic-cause.ensures

pub returns-in-Err-clause-stay : goal.returns-in-Err-clause-stay
returns-in-Err-clause-stay g c = λ all config offsets status txn same_batches. record {
  config = subst (PairStays g.D.Disk Config all.config_a all.config_b) (sym c.give_back-config_a.ensures.disks) config;
  offsets = subst (PairStays g.D.Disk Offsets all.offsets_a all.offsets_b) (sym c.give_back-offsets_a.ensures.disks) offsets;
  status = subst (PairStays g.D.Disk Status all.status_a all.status_b) (sym c.give_back-status_a.ensures.disks) status;
  txn = subst (TopicStays g.D.Disk Txn all.txn) (sym c.give_back.ensures.disk) txn;
  batches = topic-stays-of g.D.Disk Batches c.args.batches all.batches _ same_batches c.in-Err.ensures.stays;
}
