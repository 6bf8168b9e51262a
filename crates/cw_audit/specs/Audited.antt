-- What an audit of eight disks gave: of which state it is, how it ended, and what was then written. This project's own.
use Rattle.std.specs.Prelude.{◌≡◌, ◌↔◌, ℕ, Bool, List, IsTrue}
use Rattle.cw_disk.specs.declared.device.Disk.{Ghosts}
use Rattle.cw_disk.specs.declared.disks.Disks.{Disks}
use Rattle.cw_io.specs.Shelf.{Files}
use Rattle.cw_io.specs.Told.{with_back}
use Rattle.cw_io.specs.Written.{IsWrittenInPart}
use Rattle.cw_io.specs.declared.traits.Sink.{Ghosts as Output}
use Rattle.cw_model.specs.Committed.{Agrees}
use Rattle.cw_model.specs.Reopening.{stored_of}
use Rattle.cw_model.specs.StandsFor.{StandFor}
use Rattle.cw_model.specs.State.{Cluster}
use Rattle.cw_open.specs.Reopened.{DiskFiles, FilesHold, TellAll}
use Rattle.cw_open.specs.declared.reopen_fault.ReopenCause.{ReopenCause}
use Rattle.cw_open.specs.declared.reopen_fault.ReopenCause.TheVariants as cause
use Rattle.cw_audit.specs.Report.{audit_text}
use Rattle.cw_audit.specs.declared.end.AuditEnd.{AuditEnd}
use Rattle.cw_audit.specs.declared.end.AuditEnd.TheVariants.{Done, WriteFault, StoreFault, Damaged, Memory}

-- the state of a stopped cluster, as its disks held it: it stands for what its logs hold, and the files hold just this
pub record IsStoppedOn {D : Type 0} (G : Ghosts D) (disks : Disks D) (s : Cluster) : Type 0 where
  pub stands : StandFor (stored_of s) s
  pub files : (files : DiskFiles) → TellAll G disks files → FilesHold files (stored_of s)

-- a fact of the report on a state, which says of these feeds whether they agree with what is committed there
pub record HasReport (feeds : Files) (group : List ℕ) (s : Cluster) (P : List ℕ → Type 0) : Type 0 where
  pub agrees : Bool
  pub agrees_is : IsTrue agrees ↔ Agrees feeds s.entries s.batches
  pub holds : P (audit_text group s agrees)

-- the same of the state that the disks held
pub record HasReportOf {D : Type 0} (G : Ghosts D) (disks : Disks D) (feeds : Files) (group : List ℕ)
    (P : List ℕ → Type 0) : Type 0 where
  pub state : Cluster
  pub stopped : IsStoppedOn G disks state
  pub report : HasReport feeds group state P

-- what was written at each end: the whole report, a first part of it, or nothing
abbrev pub Writes : {O : Type 0} → Output O → ((List ℕ → Type 0) → Type 0) → (old new : O) → AuditEnd → Type 0
Writes o has old new Done = has (λ text. o.held new ≡ with_back text (o.held old))
Writes o has old new WriteFault = has (λ text. IsWrittenInPart text (o.held old) (o.held new))
Writes o has old new (StoreFault disk count) = new ≡ old
Writes o has old new (Damaged disk at harm) = new ≡ old
Writes o has old new Memory = new ≡ old

-- the ends of an audit whose disks were opened
abbrev pub IsOpen : AuditEnd → Type 0
IsOpen Done = Unit {0}
IsOpen WriteFault = Unit {0}
IsOpen (StoreFault disk count) = ⊥
IsOpen (Damaged disk at harm) = ⊥
IsOpen Memory = Unit {0}

-- the ends of one whose disks may have a harm: it was told, a disk failed, or memory was wanting before
abbrev pub IsRefused : AuditEnd → Type 0
IsRefused Done = ⊥
IsRefused WriteFault = ⊥
IsRefused (StoreFault disk count) = Unit {0}
IsRefused (Damaged disk at harm) = Unit {0}
IsRefused Memory = Unit {0}

-- the end of an audit whose disks were not opened
abbrev pub end_of : ReopenCause → AuditEnd
end_of (cause.Damaged disk at harm) = Damaged disk at harm
end_of (cause.StoreFault disk count) = StoreFault disk count
end_of cause.Memory = Memory
