-- How a run of the program ended, for its words and over what it was handed: what is due for each command, why a run
-- ends otherwise, and that no count of faults falls. This project's own rule.
use Rattle.std.specs.Prelude.{◌≡◌, ◌≢◌, ◌≤◌, ◌⊎◌, ℕ, Bool, List, [], None, Some}
use Rattle.cw_disk.specs.declared.device.Disk.{Ghosts}
use Rattle.cw_disk.specs.declared.disks.Disks.{Disks}
use Rattle.cw_io.specs.declared.outlet.Outlet as outlet
use Rattle.cw_io.specs.declared.shelf.Shelf as shelf
use Rattle.cw_io.specs.declared.traits.Source.{Ghosts as Input}
use Rattle.cw_io.specs.declared.traits.Sink.{Ghosts as Output}
use Rattle.cw_log.specs.declared.fault.Harm.{Harm}
use Rattle.cw_model.specs.StandsFor.{Stored, StandFor}
use Rattle.cw_model.specs.State.{Cluster, Setting}
use Rattle.cw_io.specs.declared.link.Link as link
use Rattle.cw_net.specs.declared.listener.Listener as listener
use Rattle.cw_open.specs.Judged.{HasFirstHarm}
use Rattle.cw_open.specs.Leaving.{StandForLists}
use Rattle.cw_open.specs.Reopened.{DiskFiles, FailedAt, NoneFell, TellAll, disk_in}
use Rattle.cw_types.specs.Faults.{Rose}
use Rattle.cw_types.specs.declared.logs.DiskName.{DiskName}
use Rattle.cw_words.specs.Asked.{command_of}
use Rattle.cw_words.specs.declared.command.Command.{Command}
use Rattle.cw_words.specs.declared.command.Command.TheVariants.{Drive, Audit, Gen, Serve}
use Rattle.cw_words.specs.declared.command.GenOptions.{GenOptions}
use Rattle.cw_words.specs.declared.command.Options.{Options}
use Rattle.cw_words.specs.declared.command.ServeOptions.{ServeOptions}
use Rattle.cw_world.specs.Receipts.{JournalState, ReceiptState}
use Rattle.cw_run.specs.Run.{run}
use Rattle.cw_connect.specs.Audited.{IsAudited}
use Rattle.cw_connect.specs.Generated.{IsGenerated, run_asked}
use Rattle.cw_connect.specs.Making.{AreMade, AreUnmade}
use Rattle.cw_connect.specs.Opening.{IsSetFor, IsOpenedFrom}
use Rattle.cw_connect.specs.Outcomes.{IsRefusedFor, IsRun}
use Rattle.cw_connect.specs.Served.{IsServedWhole, IsServeRun, NothingServed}
use Rattle.cw_connect.specs.Statuses.{status_of_stop}
use Rattle.cw_connect.specs.declared.status.Status.{Status}
use Rattle.cw_connect.specs.declared.status.Status.TheVariants.{Done, Usage, ReadFault, WriteFault, StoreFault, Damaged}
use Rattle.cw_connect.specs.declared.status.Status.TheVariants.{ShelfFault, OutletFault, NetFault, Memory}

-- the commands that open the disks
abbrev pub OpensDisks : Command → Type 0
OpensDisks (Drive options) = Unit {0}
OpensDisks (Audit options) = Unit {0}
OpensDisks (Gen options) = ⊥
OpensDisks (Serve options) = Unit {0}

-- what the program is handed, and gives back
pub record Handed (D I O H U N : Type 0) : Type 0 where
  pub disks : Disks D
  pub input : I
  pub output : O
  pub shelf : H
  pub outlet : U
  pub net : N

pub record HasEnded {D I O H U N L : Type 0} (G : Ghosts D) (i : Input I) (o : Output O) (S : shelf.Ghosts H)
    (u : outlet.Ghosts U) (n : listener.Ghosts N L) (k : link.Ghosts L) (words : List (List ℕ)) (status : Status)
    (old new : Handed D I O H U N) (journal : JournalState) (receipts : List ReceiptState) : Type 0 where
  -- Either no cluster was opened, or what was read, written and left is due over the one that the disks held.
  pub drives : (options : Options) → command_of words ≡ Some (Drive options) →
      IsRun G i o S u options status old.shelf old.input new.input old.output new.output old.disks new.disks
      old.outlet new.outlet
  -- What the logs hold was written, or a first part of it, or nothing, and why.
  pub audits : (options : Options) → command_of words ≡ Some (Audit options) →
      IsAudited G o S options status old.shelf old.output new.output old.disks new.disks
  pub audits_apart : (options : Options) → command_of words ≡ Some (Audit options) →
      (new.input ≡ old.input) × (new.outlet ≡ old.outlet)
  -- What the script that was made comes to was written, or a first part of it, or nothing, and why. All else that was
  -- handed in is as it was.
  pub generates : (options : GenOptions) → command_of words ≡ Some (Gen options) →
      IsGenerated o options status old.output new.output
  pub generates_apart : (options : GenOptions) → command_of words ≡ Some (Gen options) →
      new ≡ record old { output = new.output }
  -- Either no cluster was opened, or a server ran over the one that the disks held, and what is left is due; nothing
  -- is read or written.
  pub serves : (options : ServeOptions) → command_of words ≡ Some (Serve options) →
      IsServeRun G S n k options status old.shelf old.disks new.disks old.outlet new.outlet old.net new.net journal
      receipts
  pub serves_apart : (options : ServeOptions) → command_of words ≡ Some (Serve options) →
      (new.input ≡ old.input) × (new.output ≡ old.output)
  -- Without a server no link is accepted, and no journal is given back.
  pub net_apart : ((options : ServeOptions) → command_of words ≢ Some (Serve options)) →
      NothingServed old.net new.net journal receipts
  -- Over unmade disks a script without a byte leaves made ones: of a log of two sides side a.
  pub makes : (options : Options) → command_of words ≡ Some (Drive options) → i.left old.input ≡ Some [] →
      status ≡ Done → (files : DiskFiles) → TellAll G old.disks files → AreUnmade files → AreMade G files new.disks
  -- Usage comes exactly where the words are no command, unless memory was wanting for reading them. Nothing is then
  -- touched.
  pub usage : status ≡ Usage → command_of words ≡ None
  pub no_command : command_of words ≡ None → (status ≡ Usage) ⊎ (status ≡ Memory)
  pub untouched : command_of words ≡ None → new ≡ old
  -- Damaged comes exactly where the files have a harm, and tells their first, of which there is one.
  pub damaged_only : (disk : DiskName) (at : ℕ) (harm : Harm) → status ≡ Damaged disk at harm →
      (files : DiskFiles) → TellAll G old.disks files → HasFirstHarm files disk at harm
  pub damaged : (command : Command) → command_of words ≡ Some command → OpensDisks command →
      (files : DiskFiles) → TellAll G old.disks files → (at : DiskName) (place : ℕ) (harm : Harm) →
      HasFirstHarm files at place harm → IsRefusedFor at place harm status
  -- A fault comes only where its object's count of faults rose, and no count falls.
  pub store_fault : (disk : DiskName) (count : ℕ) → status ≡ StoreFault disk count →
      FailedAt G.count old.disks new.disks disk count
  pub shelf_fault : status ≡ ShelfFault → Rose (S.faults old.shelf) (S.faults new.shelf)
  pub outlet_fault : status ≡ OutletFault → Rose (u.faults old.outlet) (u.faults new.outlet)
  pub net_fault : status ≡ NetFault → Rose (n.faults old.net) (n.faults new.net)
  pub read_fault : status ≡ ReadFault → Rose (i.faults old.input) (i.faults new.input)
  pub write_fault : status ≡ WriteFault → Rose (o.faults old.output) (o.faults new.output)
  pub later_in : i.faults old.input ≤ i.faults new.input
  pub later_out : o.faults old.output ≤ o.faults new.output
  pub later_shelf : S.faults old.shelf ≤ S.faults new.shelf
  pub later_outlet : u.faults old.outlet ≤ u.faults new.outlet
  pub later_net : n.faults old.net ≤ n.faults new.net
  pub later_disks : NoneFell G old.disks new.disks
  -- A script that runs to its end over the state for which the disks stand is done where no count rises, unless memory
  -- is wanting.
  pub complete : (options : Options) → command_of words ≡ Some (Drive options) →
      (bytes : List ℕ) → i.left old.input ≡ Some bytes → (files : DiskFiles) → TellAll G old.disks files →
      (stored : Stored) (s : Cluster) → StandForLists files stored → StandFor stored s →
      ((setting : Setting) (t : Cluster) (tells : Bool) → IsSetFor S options old.shelf setting →
      IsOpenedFrom G old.disks setting t tells → (run setting t bytes).stop ≡ None) →
      ¬ Rose (i.faults old.input) (i.faults new.input) → ¬ Rose (o.faults old.output) (o.faults new.output) →
      ¬ Rose (S.faults old.shelf) (S.faults new.shelf) → ¬ Rose (u.faults old.outlet) (u.faults new.outlet) →
      ((disk : DiskName) → ¬ Rose (G.count (disk_in disk old.disks)) (G.count (disk_in disk new.disks))) →
      (status ≡ Done) ⊎ (status ≡ Memory)
  -- So is a report on disks that stand for a state.
  pub reported : (options : Options) → command_of words ≡ Some (Audit options) →
      (files : DiskFiles) → TellAll G old.disks files →
      (stored : Stored) (s : Cluster) → StandForLists files stored → StandFor stored s →
      ¬ Rose (o.faults old.output) (o.faults new.output) → ¬ Rose (S.faults old.shelf) (S.faults new.shelf) →
      ((disk : DiskName) → ¬ Rose (G.count (disk_in disk old.disks)) (G.count (disk_in disk new.disks))) →
      (status ≡ Done) ⊎ (status ≡ Memory)
  -- A script that was made is done where its run comes to its end and writing doesn't fail, and else tells what ended
  -- it, unless memory is wanting.
  pub summed : (options : GenOptions) → command_of words ≡ Some (Gen options) →
      ¬ Rose (o.faults old.output) (o.faults new.output) →
      (status ≡ status_of_stop (run_asked options).stop) ⊎ (status ≡ Memory)
  -- A server over disks that stand for a state is done where no count rises, unless memory is wanting or its receipts
  -- disagree with its journal.
  pub served_complete : (options : ServeOptions) → command_of words ≡ Some (Serve options) →
      (files : DiskFiles) → TellAll G old.disks files →
      (stored : Stored) (s : Cluster) → StandForLists files stored → StandFor stored s →
      ¬ Rose (S.faults old.shelf) (S.faults new.shelf) → ¬ Rose (u.faults old.outlet) (u.faults new.outlet) →
      ¬ Rose (n.faults old.net) (n.faults new.net) →
      ((disk : DiskName) → ¬ Rose (G.count (disk_in disk old.disks)) (G.count (disk_in disk new.disks))) →
      IsServedWhole status
