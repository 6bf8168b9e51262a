use Rattle.std.proofs.Common.{◌∷◌, [], refl}
use Rattle.cw_types.specs.declared.logs.LogName.TheVariants.{Config, Offsets, Status, Txn, Batches}
use Rattle.cw_bytes.specs.Reading.{records_at}
use Rattle.cw_open.specs.OpenedLogs.{OpensPair}
use Rattle.cw_open.specs.declared.read_logs.ReadLogs.{ReadLogs}
use Rattle.cw_open.proofs.CauseLemmas.{cause-behind, kept-part, pair-cause, config-count}
use Rattle.cw_open.proofs.StayLemmas.{pair-untouched, topic-untouched}
use Rattle.cw_open.proofs.read_logs.open_logs.Goals as goal

pub returns-in-Ok-clause-config : goal.returns-in-Ok-clause-config
returns-in-Ok-clause-config g c =
    kept-part c.open_offsets.result (λ (l : ReadLogs g.row.D.Denot). l.config) c.in-Ok.config (OpensPair records_at g.D.Disk Config c.args.disks.config_a c.args.disks.config_b) c.open_offsets.ensures.config c.in-Ok.ensures.opened

pub returns-in-Ok-clause-cause : goal.returns-in-Ok-clause-cause
returns-in-Ok-clause-cause g c =
    cause-behind g.D.Disk Config (Offsets ∷ Status ∷ Txn ∷ Batches ∷ []) c.args.disks
    (λ files told. let f = c.in-Ok.ensures.opened.files files.config_a files.config_b told.0 told.1 in (f.bodies, f.stands))
    c.open_offsets.result (c.open_offsets.ensures.cause c.args.disks refl refl refl refl refl refl)

pub returns-in-Err-clause-cause : goal.returns-in-Err-clause-cause
returns-in-Err-clause-cause g c =
    pair-cause g.D.Disk Config (Offsets ∷ Status ∷ Txn ∷ Batches ∷ []) c.args.disks _ c.args.disks.config_a c.args.disks.config_b c.in-Err.fault.a c.in-Err.fault.b c.in-Err.fault.side (λ f. f.config_a) (λ f. f.config_b)
    (λ files told. (told.0, told.1)) (λ files at place harm has. has)
    (config-count g.D.Disk c.args.disks c.in-Err.fault.side) (config-count g.D.Disk _ c.in-Err.fault.side)
    c.in-Err.fault.cause c.cause_of_pair-cause.result c.in-Err.ensures.cause c.cause_of_pair-cause.ensures

pub returns-in-Ok-clause-stay : goal.returns-in-Ok-clause-stay
returns-in-Ok-clause-stay g c = c.open_offsets.ensures.stay c.args.disks c.in-Ok.ensures.opened.from.stays refl refl refl refl refl refl

pub returns-in-Err-clause-stay : goal.returns-in-Err-clause-stay
returns-in-Err-clause-stay g c = let d = c.args.disks in record {
  config = c.in-Err.ensures.stays;
  offsets = pair-untouched g.D.Disk Offsets g.met.D.Disk.only_now d.offsets_a d.offsets_b d.offsets_a d.offsets_b refl refl;
  status = pair-untouched g.D.Disk Status g.met.D.Disk.only_now d.status_a d.status_b d.status_a d.status_b refl refl;
  txn = topic-untouched g.D.Disk Txn d.txn d.txn refl;
  batches = topic-untouched g.D.Disk Batches d.batches d.batches refl;
}
