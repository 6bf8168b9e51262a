-- How a run of the command `serve` ended: nothing was opened, and why; or a cluster was opened, workers served Kafka
-- Connect's REST API over it, and what they left is due. This project's own rule, as is the journal of the calls.
use Rattle.std.specs.Prelude.{◌≡◌, ◌≢◌, ◌≤◌, ◌+◌, ◌⊎◌, ℕ, Bool, true, List, [], length, Option, Some, None}
use Rattle.logbook.specs.Pages.{Book}
use Rattle.cw_desk.specs.Comparing.{AreTheJournal, IsFound}
use Rattle.cw_desk.specs.declared.comparing.Member.{Member}
use Rattle.cw_desk.specs.declared.comparing.Member.TheVariants as member
use Rattle.cw_disk.specs.declared.device.Disk.{Ghosts}
use Rattle.cw_disk.specs.declared.disks.Disks.{Disks}
use Rattle.cw_io.specs.declared.shelf.Shelf as shelf
use Rattle.cw_model.specs.Reopening.{stored_of}
use Rattle.cw_model.specs.State.{Cluster, Setting}
use Rattle.cw_io.specs.declared.link.Link as link
use Rattle.cw_net.specs.declared.listener.Listener as listener
use Rattle.cw_open.specs.Leaving.{LeaveLists, MayLeaveAll, StandForLists}
use Rattle.cw_open.specs.Reopened.{DiskFiles}
use Rattle.cw_types.specs.declared.logs.DiskName.{DiskName}
use Rattle.cw_words.specs.declared.command.ServeOptions.{ServeOptions}
use Rattle.cw_world.specs.Receipts.{JournalState, ReceiptState}
use Rattle.cw_run.specs.Reaches.{Reaches}
use Rattle.cw_serve.specs.Talking.{HaveTalked}
use Rattle.cw_connect.specs.Opening.{IsSetFor, IsOpenedFrom}
use Rattle.cw_connect.specs.Outcomes.{IsNotOpened}
use Rattle.cw_connect.specs.declared.status.Status.{Status}
use Rattle.cw_connect.specs.declared.status.Status.TheVariants.{Done, Usage, BadScript, TooLong, ReadFault, WriteFault}
use Rattle.cw_connect.specs.declared.status.Status.TheVariants.{StoreFault, Damaged, ShelfFault, OutletFault, NetFault}
use Rattle.cw_connect.specs.declared.status.Status.TheVariants.{Full, Memory, Disagree}

-- no link was accepted, and there is no journal and no receipt
pub record NothingServed {N : Type 0} (net_old net_new : N) (journal : JournalState) (receipts : List ReceiptState)
    : Type 0 where
  pub same_net : net_new ≡ net_old
  pub no_journal : journal ≡ record { entries = []; name = None }
  pub no_receipts : receipts ≡ []

-- A disk failed where the cluster was to come from one state to another, both of them behind runs of the events. A stop
-- leaves of the disks just files that stand for the one or for the other.
pub record IsCutOff {D : Type 0} (G : Ghosts D) (setting : Setting) (opened left : Cluster) (tells : Bool)
    (new : Disks D) : Type 0 where
  pub before : Cluster
  pub next : Cluster
  pub before_reached : Reaches setting opened before
  pub next_reached : Reaches setting opened next
  pub same : stored_of left ≡ stored_of before
  pub disks : tells ≡ true → (images : DiskFiles) → MayLeaveAll G new images →
      StandForLists images (stored_of before) ⊎ StandForLists images (stored_of next)

-- a second receipt is of the world that the first is of
abbrev pub IsOfItsWorld : (kept : ReceiptState) → Option Member → Type 0
IsOfItsWorld kept (Some (member.Receipt other)) = other.name ≡ kept.name
IsOfItsWorld kept (Some member.Entry) = Unit {0}
IsOfItsWorld kept None = Unit {0}

-- a receipt of the journal's own world isn't its entry, or it is one of two of its number
pub record IsAtOdds (journal : JournalState) (at : ℕ) (kept : ReceiptState) (found : Option Member) : Type 0 where
  pub at_is : at ≡ kept.number
  pub name_is : journal.name ≡ Some kept.name
  pub found_is : IsFound journal.entries kept found
  pub of_world : IsOfItsWorld kept found

-- all links were given: as many as were asked for, or the listener has ended
abbrev pub AllGiven : {N L : Type 0} → listener.Ghosts N L → (conns : ℕ) → (net_old net_new : N) → Type 0
AllGiven n conns net_old net_new =
    (length (n.given net_new) ≡ length (n.given net_old) + conns) ⊎ (n.ended net_new ≡ true)

-- no disk failed, and the receipts are the journal
pub record IsKept (left : Cluster) (journal : JournalState) (receipts : List ReceiptState) : Type 0 where
  pub alive : left.closed ≡ None
  pub ledger : AreTheJournal journal.entries receipts

-- What is due at each end: the receipts of the answered calls are the journal, or two of them show that they aren't; no
-- disk has failed, or just the one that is told; and a server is done only where all links were given.
abbrev pub IsServeDue : {N L : Type 0} → listener.Ghosts N L → (conns : ℕ) → Status → (left : Cluster) →
    (net_old net_new : N) → JournalState → List ReceiptState → Type 0
IsServeDue n conns Done left net_old net_new journal receipts =
    IsKept left journal receipts × AllGiven n conns net_old net_new
IsServeDue n conns (StoreFault disk count) left net_old net_new journal receipts =
    (left.closed ≡ Some (disk, count)) × AreTheJournal journal.entries receipts
IsServeDue n conns OutletFault left net_old net_new journal receipts = IsKept left journal receipts
IsServeDue n conns NetFault left net_old net_new journal receipts = IsKept left journal receipts
IsServeDue n conns Memory left net_old net_new journal receipts = IsKept left journal receipts
IsServeDue n conns (Disagree at kept found) left net_old net_new journal receipts = IsAtOdds journal at kept found
IsServeDue n conns Usage left net_old net_new journal receipts = ⊥
IsServeDue n conns (BadScript line kind) left net_old net_new journal receipts = ⊥
IsServeDue n conns (TooLong count) left net_old net_new journal receipts = ⊥
IsServeDue n conns ReadFault left net_old net_new journal receipts = ⊥
IsServeDue n conns WriteFault left net_old net_new journal receipts = ⊥
IsServeDue n conns (Damaged disk at harm) left net_old net_new journal receipts = ⊥
IsServeDue n conns ShelfFault left net_old net_new journal receipts = ⊥
IsServeDue n conns (Full log length frame) left net_old net_new journal receipts = ⊥

-- the receipts were found to be the journal
abbrev pub IsAgreed : Status → Type 0
IsAgreed status = (at : ℕ) (kept : ReceiptState) (found : Option Member) → status ≢ Disagree at kept found

-- A server ran over a cluster. What it left is behind a run of the events, and a stop leaves of the disks just files
-- that stand for it, or where a disk failed for the states before and behind the event in flight. Over each link that
-- was accepted there was one connection.
pub record IsServedOver {D N L : Type 0} (G : Ghosts D) (n : listener.Ghosts N L) (k : link.Ghosts L) (conns : ℕ)
    (setting : Setting) (opened : Cluster) (tells : Bool) (status : Status) (new : Disks D) (net_old net_new : N)
    (journal : JournalState) (receipts : List ReceiptState) : Type 0 where
  pub left : Cluster
  pub name : Book
  pub reached : Reaches setting opened left
  pub journal_is : journal ≡ record { entries = left.journal; name = Some name }
  pub whole : left.closed ≡ None → tells ≡ true → LeaveLists G new (stored_of left)
  pub cut_off : (disk : DiskName) (count : ℕ) → left.closed ≡ Some (disk, count) →
      IsCutOff G setting opened left tells new
  pub few : length (n.given net_new) ≤ length (n.given net_old) + conns
  pub talked : HaveTalked n k (IsAgreed status) net_old net_new receipts
  pub due : IsServeDue n conns status left net_old net_new journal receipts

-- a cluster was opened from the disks and the shelf, and a server ran over it
pub record IsServed {D H N L : Type 0} (G : Ghosts D) (S : shelf.Ghosts H) (n : listener.Ghosts N L) (k : link.Ghosts L)
    (options : ServeOptions) (status : Status) (on : H) (old new : Disks D) (net_old net_new : N)
    (journal : JournalState) (receipts : List ReceiptState) : Type 0 where
  pub setting : Setting
  pub opened : Cluster
  pub tells : Bool
  pub set : IsSetFor S options.shared on setting
  pub from : IsOpenedFrom G old setting opened tells
  pub over : IsServedOver G n k options.conns setting opened tells status new net_old net_new journal receipts

-- either way
abbrev pub IsServeRun : {D H U N L : Type 0} → Ghosts D → shelf.Ghosts H → listener.Ghosts N L → link.Ghosts L →
    ServeOptions → Status → (on : H) → (old new : Disks D) → (outlet_old outlet_new : U) → (net_old net_new : N) →
    JournalState → List ReceiptState → Type 0
IsServeRun G S n k options status on old new outlet_old outlet_new net_old net_new journal receipts =
    IsNotOpened G status ((outlet_new ≡ outlet_old) × NothingServed net_old net_new journal receipts) old new
    ⊎ IsServed G S n k options status on old new net_old net_new journal receipts

-- all was done, or memory was wanting, or the receipts disagree with the journal
abbrev pub IsServedWhole : Status → Type 0
IsServedWhole Done = Unit {0}
IsServedWhole Memory = Unit {0}
IsServedWhole (Disagree at kept found) = Unit {0}
IsServedWhole Usage = ⊥
IsServedWhole (BadScript line kind) = ⊥
IsServedWhole (TooLong count) = ⊥
IsServedWhole ReadFault = ⊥
IsServedWhole WriteFault = ⊥
IsServedWhole (StoreFault disk count) = ⊥
IsServedWhole (Damaged disk at harm) = ⊥
IsServedWhole ShelfFault = ⊥
IsServedWhole OutletFault = ⊥
IsServedWhole NetFault = ⊥
IsServedWhole (Full log length frame) = ⊥
