-- What follows of an audit that ended.
use Rattle.std.proofs.Common.{◌≡◌, ◌⊎◌, ℕ, Some, inl, inr, refl, ap}
use Rattle.cw_audit.specs.Audited.{HasReportOf, IsRefused, Writes}
use Rattle.cw_audit.specs.declared.end.AuditEnd.{AuditEnd}
use Rattle.cw_audit.specs.declared.end.AuditEnd.TheVariants as end
use Rattle.cw_disk.specs.declared.device.Disk.{Ghosts}
use Rattle.cw_disk.specs.declared.disks.Disks.{Disks}
use Rattle.cw_io.specs.Shelf.{Files}
use Rattle.cw_io.specs.declared.shelf.Shelf as shelf
use Rattle.cw_io.specs.declared.traits.Sink.{Ghosts as Output}
use Rattle.cw_log.specs.declared.fault.Harm.{Harm}
use Rattle.cw_open.specs.OpenedFrom.{DisksStay}
use Rattle.cw_types.specs.declared.logs.DiskName.{DiskName}
use Rattle.cw_words.specs.declared.command.Options.{Options}
use Rattle.cw_connect.specs.Audited.{IsAudited}
use Rattle.cw_connect.specs.Outcomes.{IsRefusedFor}
use Rattle.cw_connect.specs.Statuses.{status_of_audit}
use Rattle.cw_connect.specs.declared.status.Status.TheVariants.{Done, WriteFault, StoreFault, Damaged, Memory}

module _ {D O H : Type 0} (G : Ghosts D) (o : Output O) (S : shelf.Ghosts H) (options : Options) (on : H) (out_old out_new : O) (old new : Disks D) (feeds : Files)
    (loaded : (held : Files) → S.files on ≡ Some held → feeds ≡ held) (stay : DisksStay G old new) where
  pub audited : (e : AuditEnd) → Writes o (HasReportOf G old feeds options.group) out_old out_new e → IsAudited G o S options (status_of_audit e) on out_old out_new old new
  audited end.Done has = (record { feeds = feeds; loaded = loaded; report = has }, stay)
  audited end.WriteFault has = (record { feeds = feeds; loaded = loaded; report = has }, stay)
  audited (end.StoreFault disk count) same = (same, stay)
  audited (end.Damaged disk at harm) same = (same, stay)
  audited end.Memory same = (same, inr stay)

-- ---- which end has which status

pub is_damaged : (e : AuditEnd) (disk : DiskName) (at : ℕ) (harm : Harm) → status_of_audit e ≡ Damaged disk at harm → e ≡ end.Damaged disk at harm
is_damaged (end.Damaged disk' at' harm') disk at harm is = cc
is_damaged end.Done disk at harm is = cc
is_damaged end.WriteFault disk at harm is = cc
is_damaged (end.StoreFault disk' count) disk at harm is = cc
is_damaged end.Memory disk at harm is = cc

pub is_store : (e : AuditEnd) (disk : DiskName) (count : ℕ) → status_of_audit e ≡ StoreFault disk count → e ≡ end.StoreFault disk count
is_store (end.StoreFault disk' count') disk count is = cc
is_store end.Done disk count is = cc
is_store end.WriteFault disk count is = cc
is_store (end.Damaged disk' at harm) disk count is = cc
is_store end.Memory disk count is = cc

pub is_write : (e : AuditEnd) → status_of_audit e ≡ WriteFault → e ≡ end.WriteFault
is_write end.WriteFault is = refl
is_write end.Done is = cc
is_write (end.StoreFault disk count) is = cc
is_write (end.Damaged disk at harm) is = cc
is_write end.Memory is = cc

pub done_or_memory : (e : AuditEnd) → (e ≡ end.Done) ⊎ (e ≡ end.Memory) → (status_of_audit e ≡ Done) ⊎ (status_of_audit e ≡ Memory)
done_or_memory e (inl is) = inl (ap status_of_audit is)
done_or_memory e (inr is) = inr (ap status_of_audit is)

-- files with a harm are refused for it
pub refused_for : (at : DiskName) (place : ℕ) (harm : Harm) (e : AuditEnd) → IsRefused e → ((disk : DiskName) (gate : ℕ) (what : Harm) → e ≡ end.Damaged disk gate what → (disk ≡ at) × (gate ≡ place) × (what ≡ harm)) →
    IsRefusedFor at place harm (status_of_audit e)
refused_for at place harm (end.Damaged disk gate what) refused one = one disk gate what refl
refused_for at place harm (end.StoreFault disk count) refused one = tt
refused_for at place harm end.Memory refused one = tt
refused_for at place harm end.Done refused one = absurd refused
refused_for at place harm end.WriteFault refused one = absurd refused
