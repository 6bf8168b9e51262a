-- What is due where the command `audit` ended: the report on what the logs of a stopped cluster hold, or why there is
-- none. The command is this project's own.
use Rattle.std.specs.Prelude.{◌≡◌, ◌⊎◌, ℕ, List, Some}
use Rattle.cw_audit.specs.Audited.{HasReportOf}
use Rattle.cw_disk.specs.declared.device.Disk.{Ghosts}
use Rattle.cw_disk.specs.declared.disks.Disks.{Disks}
use Rattle.cw_io.specs.Shelf.{Files}
use Rattle.cw_io.specs.Told.{with_back}
use Rattle.cw_io.specs.Written.{IsWrittenInPart}
use Rattle.cw_io.specs.declared.shelf.Shelf as shelf
use Rattle.cw_io.specs.declared.traits.Sink.{Ghosts as Output}
use Rattle.cw_open.specs.OpenedFrom.{DisksStay}
use Rattle.cw_words.specs.declared.command.Options.{Options}
use Rattle.cw_connect.specs.declared.status.Status.{Status}
use Rattle.cw_connect.specs.declared.status.Status.TheVariants.{Done, Usage, BadScript, TooLong, ReadFault, WriteFault}
use Rattle.cw_connect.specs.declared.status.Status.TheVariants.{StoreFault, Damaged, ShelfFault, OutletFault, NetFault}
use Rattle.cw_connect.specs.declared.status.Status.TheVariants.{Full, Memory, Disagree}

-- a fact of the report on the state that the disks held and on the feeds that were loaded, which are those of the
-- shelf, where it tells them
pub record IsReported {D H : Type 0} (G : Ghosts D) (S : shelf.Ghosts H) (options : Options) (on : H) (disks : Disks D)
    (P : List ℕ → Type 0) : Type 0 where
  pub feeds : Files
  pub loaded : (held : Files) → S.files on ≡ Some held → feeds ≡ held
  pub report : HasReportOf G disks feeds options.group P

-- The report was written, or a first part of it, or nothing was. Of the disks a stop leaves what it might have left
-- before, or a file of the same list.
abbrev pub IsAudited : {D O H : Type 0} → Ghosts D → Output O → shelf.Ghosts H → Options → Status → (on : H) →
    (out_old out_new : O) → (old new : Disks D) → Type 0
IsAudited G o S options Done on out_old out_new old new =
    IsReported G S options on old (λ text. o.held out_new ≡ with_back text (o.held out_old)) × DisksStay G old new
IsAudited G o S options WriteFault on out_old out_new old new =
    IsReported G S options on old (λ text. IsWrittenInPart text (o.held out_old) (o.held out_new)) × DisksStay G old new
IsAudited G o S options (Damaged disk at harm) on out_old out_new old new = (out_new ≡ out_old) × DisksStay G old new
IsAudited G o S options (StoreFault disk count) on out_old out_new old new = (out_new ≡ out_old) × DisksStay G old new
IsAudited G o S options Memory on out_old out_new old new =
    (out_new ≡ out_old) × ((new ≡ old) ⊎ DisksStay G old new)
IsAudited G o S options ShelfFault on out_old out_new old new = (out_new ≡ out_old) × (new ≡ old)
IsAudited G o S options Usage on out_old out_new old new = ⊥
IsAudited G o S options (BadScript line kind) on out_old out_new old new = ⊥
IsAudited G o S options (TooLong count) on out_old out_new old new = ⊥
IsAudited G o S options ReadFault on out_old out_new old new = ⊥
IsAudited G o S options OutletFault on out_old out_new old new = ⊥
IsAudited G o S options NetFault on out_old out_new old new = ⊥
IsAudited G o S options (Full log length frame) on out_old out_new old new = ⊥
IsAudited G o S options (Disagree at kept found) on out_old out_new old new = ⊥
