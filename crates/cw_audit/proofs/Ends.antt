-- What follows of how an audit ended.
use Rattle.std.proofs.Common.{◌≡◌, ◌⊎◌, ◌↔◌, inl, inr, ℕ, Bool, List, IsTrue, refl, ap, subst}
use Rattle.cw_disk.specs.declared.device.Disk.{Ghosts}
use Rattle.cw_disk.specs.declared.disks.Disks.{Disks}
use Rattle.cw_io.specs.Shelf.{Files}
use Rattle.cw_io.specs.Told.{with_back}
use Rattle.cw_io.specs.Written.{IsWrittenInPart}
use Rattle.cw_io.specs.declared.traits.Sink.{Ghosts as Output}
use Rattle.cw_log.specs.declared.fault.Harm.{Harm}
use Rattle.cw_model.specs.Committed.{Agrees}
use Rattle.cw_model.specs.Reopening.{stored_of}
use Rattle.cw_model.specs.StandsFor.{Stored, StandFor}
use Rattle.cw_model.specs.State.{Cluster}
use Rattle.cw_open.specs.Judged.{HasFirstHarm, IsSoundly, IsWhyNot, stored_by}
use Rattle.cw_open.specs.Leaving.{IsSameBesidesSides, StandForLists}
use Rattle.cw_open.specs.Opened.{opened_by}
use Rattle.cw_open.specs.Reopened.{DiskFiles, FailedAt, FilesHold, TellAll}
use Rattle.cw_open.specs.declared.judged_disks.JudgedDisks.{JudgedDisks}
use Rattle.cw_open.specs.declared.reopen_fault.ReopenCause.{ReopenCause}
use Rattle.cw_open.specs.declared.reopen_fault.ReopenCause.TheVariants as cause
use Rattle.cw_open.proofs.ReopenLemmas.{judged-stand}
use Rattle.cw_types.specs.declared.logs.DiskName.{DiskName}
use Rattle.cw_audit.specs.Report.{audit_text, log_lines}
use Rattle.cw_audit.specs.Audited.{HasReport, HasReportOf, IsOpen, IsRefused, IsStoppedOn, Writes, end_of}
use Rattle.cw_audit.specs.declared.end.AuditEnd.{AuditEnd}
use Rattle.cw_audit.specs.declared.end.AuditEnd.TheVariants.{Done, WriteFault, StoreFault, Damaged, Memory}
use Rattle.cw_open.proofs.LeavingLemmas.{holds-lists}

-- ---- the report

-- what was made as the report is written as the report
reported : (feeds : Files) (group : List ℕ) (s : Cluster) (P : List ℕ → Type 0) (text : List ℕ) → HasReport feeds group s (λ all. text ≡ all) → P text → HasReport feeds group s P
reported feeds group s P text has holds = record { agrees = has.agrees; agrees_is = has.agrees_is; holds = subst P has.holds holds }

module _ {D O : Type 0} (G : Ghosts D) (o : Output O) (disks : Disks D) (feeds : Files) (group : List ℕ) (s : Cluster) (stopped : IsStoppedOn G disks s) (old new : O) where
  of-state : (P : List ℕ → Type 0) → HasReport feeds group s P → HasReportOf G disks feeds group P
  of-state P has = record { state = s; stopped = stopped; report = has }

  pub written-of : (end : AuditEnd) → Writes o (HasReport feeds group s) old new end → Writes o (HasReportOf G disks feeds group) old new end
  written-of Done has = of-state _ has
  written-of WriteFault has = of-state _ has
  written-of (StoreFault disk count) same = same
  written-of (Damaged disk at harm) same = same
  written-of Memory same = same

-- a text that was made as the report
module _ {O : Type 0} (o : Output O) (feeds : Files) (group : List ℕ) (s : Cluster) (old new : O) (text shown : List ℕ) (same : shown ≡ text) (has : HasReport feeds group s (λ all. text ≡ all)) where
  pub written-text : (end : AuditEnd) → Writes o (λ (P : List ℕ → Type 0). P shown) old new end → Writes o (HasReport feeds group s) old new end
  written-text Done holds = reported feeds group s (λ all. o.held new ≡ with_back all (o.held old)) text has (subst (λ all. o.held new ≡ with_back all (o.held old)) same holds)
  written-text WriteFault holds = reported feeds group s (λ all. IsWrittenInPart all (o.held old) (o.held new)) text has (subst (λ all. IsWrittenInPart all (o.held old) (o.held new)) same holds)
  written-text (StoreFault disk count) is = is
  written-text (Damaged disk at harm) is = is
  written-text Memory is = is

-- nothing was written where the disks were not opened
pub unwritten : {O : Type 0} (o : Output O) (has : (List ℕ → Type 0) → Type 0) (output : O) (why : ReopenCause) → Writes o has output output (end_of why)
unwritten o has output (cause.Damaged disk at harm) = refl
unwritten o has output (cause.StoreFault disk count) = refl
unwritten o has output cause.Memory = refl

-- the state of disks that were judged
pub stopped-on : {D : Type 0} (G : Ghosts D) (disks : Disks D) (judged : JudgedDisks D) → IsSoundly (stored_by judged) judged.frames →
    ((files : DiskFiles) → TellAll G disks files → FilesHold files (stored_by judged)) → IsStoppedOn G disks (opened_by judged)
stopped-on G disks judged sound files = record { stands = judged-stand judged sound; files = files }

-- ---- the harms

-- disks that were opened have no harm
pub open-refuses : (end : AuditEnd) → IsOpen end → ⊥ → IsRefused end
open-refuses end is none = absurd none

pub is-refused : (why : ReopenCause) → IsRefused (end_of why)
is-refused (cause.Damaged disk at harm) = tt
is-refused (cause.StoreFault disk count) = tt
is-refused cause.Memory = tt

-- the ends of disks that were opened are no fault of theirs
pub open-undamaged : {A : Type 0} (end : AuditEnd) (disk : DiskName) (at : ℕ) (harm : Harm) → IsOpen end → end ≡ Damaged disk at harm → A
open-undamaged {A} end disk at harm is same = absurd (subst IsOpen same is)

pub open-unfailed : {A : Type 0} (end : AuditEnd) (disk : DiskName) (count : ℕ) → IsOpen end → end ≡ StoreFault disk count → A
open-unfailed {A} end disk count is same = absurd (subst IsOpen same is)

-- ---- why the disks were not opened

module _ {D : Type 0} (G : Ghosts D) (disks now : Disks D) where
  abbrev Why : ReopenCause → Type 0
  Why why = IsWhyNot G disks (record { disks = now; cause = why })

  pub damaged-why : (why : ReopenCause) → Why why → (disk : DiskName) (at : ℕ) (harm : Harm) → end_of why ≡ Damaged disk at harm →
      (files : DiskFiles) → TellAll G disks files → HasFirstHarm files disk at harm
  damaged-why (cause.Damaged disk at harm) why disk' at' harm' is files tell =
      let same_disk : disk ≡ disk' = (cc) in
      let same_at : at ≡ at' = (cc) in
      let same_harm : harm ≡ harm' = (cc) in
      subst (λ (d : DiskName). HasFirstHarm files d at' harm') same_disk
      (subst (λ (n : ℕ). HasFirstHarm files disk n harm') same_at (subst (HasFirstHarm files disk at) same_harm (why files tell)))
  damaged-why (cause.StoreFault disk count) why disk' at' harm' is files tell = absurd (cc)
  damaged-why cause.Memory why disk' at' harm' is files tell = absurd (cc)

  pub failed-why : (why : ReopenCause) → Why why → (disk : DiskName) (count : ℕ) → end_of why ≡ StoreFault disk count → FailedAt G.count disks now disk count
  failed-why (cause.Damaged disk at harm) why disk' count' is = absurd (cc)
  failed-why (cause.StoreFault disk count) why disk' count' is =
      let same_disk : disk ≡ disk' = (cc) in
      let same_count : count ≡ count' = (cc) in
      subst (λ (d : DiskName). FailedAt G.count disks now d count') same_disk (subst (FailedAt G.count disks now disk) same_count why)
  failed-why cause.Memory why disk' count' is = absurd (cc)

-- disks that were not opened end in none of the other ways
pub undone : (why : ReopenCause) → end_of why ≡ Done → ⊥
undone (cause.Damaged disk at harm) is = cc
undone (cause.StoreFault disk count) is = cc
undone cause.Memory is = cc

pub unwriting : (why : ReopenCause) → end_of why ≡ WriteFault → ⊥
unwriting (cause.Damaged disk at harm) is = cc
unwriting (cause.StoreFault disk count) is = cc
unwriting cause.Memory is = cc

-- ---- all is printed where nothing failed

pub calm-open : (end : AuditEnd) → IsOpen end → (end ≡ WriteFault → ⊥) → (end ≡ Done) ⊎ (end ≡ Memory)
calm-open Done is written = inl refl
calm-open WriteFault is written = absurd (written refl)
calm-open (StoreFault disk count) is written = absurd is
calm-open (Damaged disk at harm) is written = absurd is
calm-open Memory is written = inr refl

pub calm-why : (why : ReopenCause) → ((disk : DiskName) (at : ℕ) (harm : Harm) → end_of why ≡ Damaged disk at harm → ⊥) → ((disk : DiskName) (count : ℕ) → end_of why ≡ StoreFault disk count → ⊥) →
    (end_of why ≡ Done) ⊎ (end_of why ≡ Memory)
calm-why (cause.Damaged disk at harm) unharmed unfailed = absurd (unharmed disk at harm refl)
calm-why (cause.StoreFault disk count) unharmed unfailed = absurd (unfailed disk count refl)
calm-why cause.Memory unharmed unfailed = inr refl

-- ---- one text

-- the report doesn't speak of the numbers of the sides
same-text : (group : List ℕ) (s t : Cluster) (agrees : Bool) → IsSameBesidesSides s t → audit_text group t agrees ≡ audit_text group s agrees
unfolding audit_text log_lines
same-text group s t agrees same = ap (λ (u : Cluster). audit_text group u agrees) same

same-report : (feeds : Files) (group : List ℕ) (s t : Cluster) (P : List ℕ → Type 0) → IsSameBesidesSides s t → HasReport feeds group t P → HasReport feeds group s P
same-report feeds group s t P same has = record {
  agrees = has.agrees;
  agrees_is = subst (λ (u : Cluster). IsTrue has.agrees ↔ Agrees feeds u.entries u.batches) same has.agrees_is;
  holds = subst P (same-text group s t has.agrees same) has.holds;
}

module _ {D : Type 0} (G : Ghosts D) (disks : Disks D) (feeds : Files) (group : List ℕ) (files : DiskFiles) (tell : TellAll G disks files) (stored : Stored) (s : Cluster)
    (one : (other : Stored) (t : Cluster) → StandForLists files other → StandFor other t → IsSameBesidesSides s t) where
  pub one-report : (P : List ℕ → Type 0) → HasReportOf G disks feeds group P → HasReport feeds group s P
  one-report P has = same-report feeds group s has.state P
      (one (stored_of has.state) has.state (holds-lists files (stored_of has.state) (has.stopped.files files tell)) has.stopped.stands) has.report
