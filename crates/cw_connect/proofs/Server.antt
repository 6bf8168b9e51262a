-- What follows of a server that ended.
use Rattle.std.proofs.Common.{◌≡◌, ⊎_elim, ℕ, All, List, [], length, map, Option, None, Some, inl, refl, sym, ap, subst, ◌∙◌}
use Rattle.std.specs.List.{range_with_len}
use Rattle.std.proofs.lemmas.List.Elements.{All-head}
use Rattle.cw_desk.specs.Comparing.{AreTheJournal, IsFound, receipts_in}
use Rattle.cw_desk.specs.declared.comparing.Disagree.{Disagree as Odds}
use Rattle.cw_desk.specs.declared.comparing.Member.{Member}
use Rattle.cw_desk.specs.declared.comparing.Member.TheVariants as member
use Rattle.cw_disk.specs.declared.device.Disk.{Ghosts}
use Rattle.cw_disk.specs.declared.disks.Disks.{Disks}
use Rattle.cw_io.specs.declared.shelf.Shelf as shelf
use Rattle.cw_io.specs.declared.shelf.ShelfFault.{ShelfFault as OfShelf}
use Rattle.cw_io.specs.declared.shelf.ShelfFault.TheVariants as of_shelf
use Rattle.cw_log.specs.declared.fault.Harm.{Harm}
use Rattle.cw_model.specs.Facts.{AreFacts}
use Rattle.cw_model.specs.Reopening.{stored_of}
use Rattle.cw_model.specs.State.{Cluster, Setting}
use Rattle.cw_io.specs.declared.link.Link as link
use Rattle.cw_net.specs.declared.listener.Listener as listener
use Rattle.cw_open.specs.Judged.{HasFirstHarm}
use Rattle.cw_open.specs.Leaving.{StandForLists}
use Rattle.cw_open.specs.Reopened.{DiskFiles, TellAll, disk_in}
use Rattle.cw_serve.specs.Serving.{Differs, IsAgreed}
use Rattle.cw_serve.specs.Talking.{HaveTalked}
use Rattle.cw_serve.specs.declared.ends.ServeEnd.{ServeEnd}
use Rattle.cw_serve.specs.declared.ends.ServeEnd.TheVariants as end
use Rattle.cw_turns.specs.Going.{Start}
use Rattle.cw_turns.specs.Left.{IsLeftBroken}
use Rattle.cw_types.specs.Faults.{Rose}
use Rattle.cw_types.specs.declared.logs.DiskName.{DiskName}
use Rattle.cw_words.specs.declared.command.ServeOptions.{ServeOptions}
use Rattle.cw_world.specs.Receipts.{JournalState, ReceiptState}
use Rattle.cw_world.specs.World.{WorldState}
use Rattle.cw_connect.specs.Outcomes.{IsRefusedFor, Leaves}
use Rattle.cw_connect.specs.Served.{AllGiven, IsKept, IsOfItsWorld, IsServedWhole, IsServeDue, IsServeRun, IsAgreed as HasAgreed}
use Rattle.cw_connect.specs.Statuses.{status_of_serve, status_of_shelf}
use Rattle.cw_connect.specs.declared.status.Status.{Status}
use Rattle.cw_connect.specs.declared.status.Status.TheVariants.{Done, Usage, BadScript, TooLong, ReadFault, WriteFault, StoreFault, Damaged, ShelfFault, OutletFault, NetFault, Full, Memory, Disagree}
use Rattle.cw_connect.proofs.FirstHarm.{first_harm_is_one}
use Rattle.cw_connect.proofs.Runs.{refused_by}
use Rattle.cw_open.proofs.LeavingLemmas.{holds-lists}

-- ---- which end has which status

pub is_store : (e : ServeEnd) (disk : DiskName) (count : ℕ) → status_of_serve e ≡ StoreFault disk count → e ≡ end.StoreFault disk count
is_store (end.StoreFault disk' count') disk count is = cc
is_store end.Done disk count is = cc
is_store end.OutletFault disk count is = cc
is_store end.NetFault disk count is = cc
is_store end.Memory disk count is = cc
is_store (end.Disagree d) disk count is = cc

pub is_outlet : (e : ServeEnd) → status_of_serve e ≡ OutletFault → e ≡ end.OutletFault
is_outlet end.OutletFault is = refl
is_outlet end.Done is = cc
is_outlet (end.StoreFault disk count) is = cc
is_outlet end.NetFault is = cc
is_outlet end.Memory is = cc
is_outlet (end.Disagree d) is = cc

pub is_net : (e : ServeEnd) → status_of_serve e ≡ NetFault → e ≡ end.NetFault
is_net end.NetFault is = refl
is_net end.Done is = cc
is_net (end.StoreFault disk count) is = cc
is_net end.OutletFault is = cc
is_net end.Memory is = cc
is_net (end.Disagree d) is = cc

-- ---- what is due

-- a pair that isn't told isn't there
none_told : (o : Option (DiskName × ℕ)) → ((disk : DiskName) (count : ℕ) → o ≡ Some (disk, count) → ⊥) → o ≡ None
none_told None never = refl
none_told (Some p) never = absurd (never p.0 p.1 refl)

of_its_world : {D : Type 0} (world : WorldState D) (kept : ReceiptState) (found : Option Member) → kept.name ≡ world.name
    → All (λ (r : ReceiptState). r.name ≡ world.name) (receipts_in found) → IsOfItsWorld kept found
of_its_world world kept (Some (member.Receipt other)) named all =
    All-head (λ (r : ReceiptState). r.name ≡ world.name) other [] all ∙ sym named
of_its_world world kept (Some member.Entry) named all = tt
of_its_world world kept None named all = tt

done_or_odds : (d : Odds) → end.Done ≡ end.Disagree d → ⊥
done_or_odds d is = cc

store_or_odds : (disk : DiskName) (count : ℕ) (d : Odds) → end.StoreFault disk count ≡ end.Disagree d → ⊥
store_or_odds disk count d is = cc

outlet_or_odds : (d : Odds) → end.OutletFault ≡ end.Disagree d → ⊥
outlet_or_odds d is = cc

net_or_odds : (d : Odds) → end.NetFault ≡ end.Disagree d → ⊥
net_or_odds d is = cc

memory_or_odds : (d : Odds) → end.Memory ≡ end.Disagree d → ⊥
memory_or_odds d is = cc

outlet_or_store : (disk : DiskName) (count : ℕ) → end.OutletFault ≡ end.StoreFault disk count → ⊥
outlet_or_store disk count is = cc

net_or_store : (disk : DiskName) (count : ℕ) → end.NetFault ≡ end.StoreFault disk count → ⊥
net_or_store disk count is = cc

memory_or_store : (disk : DiskName) (count : ℕ) → end.Memory ≡ end.StoreFault disk count → ⊥
memory_or_store disk count is = cc

module _ {D N L : Type 0} (n : listener.Ghosts N L) (conns : ℕ) (world : WorldState D) (net_old net_new : N) (journal : JournalState) (receipts : List ReceiptState)
    (is : journal ≡ record { entries = world.state.journal; name = Some world.name }) where
  entries_are : journal.entries ≡ world.state.journal
  entries_are = ap (λ (j : JournalState). j.entries) is

  name_is : journal.name ≡ Some world.name
  name_is = ap (λ (j : JournalState). j.name) is

  in_journal : AreTheJournal world.state.journal receipts → AreTheJournal journal.entries receipts
  in_journal the = record { entries = the.entries ∙ sym entries_are; numbers = subst (λ entries. map (λ r. r.number) receipts ≡ range_with_len 0 (length entries)) (sym entries_are) the.numbers }

  at_odds : (d : Odds) → Differs world d → IsServeDue n conns (Disagree d.at d.kept d.found) world.state net_old net_new journal receipts
  at_odds d differs = record {
    at_is = differs.at;
    name_is = name_is ∙ ap Some (sym differs.name);
    found_is = subst (λ entries. IsFound entries d.kept d.found) (sym entries_are) differs.found;
    of_world = of_its_world world d.kept d.found differs.name differs.other;
  }

  kept : AreTheJournal world.state.journal receipts → ((disk : DiskName) (count : ℕ) → world.state.closed ≡ Some (disk, count) → ⊥) → IsKept world.state journal receipts
  kept the never = record { alive = none_told world.state.closed never; ledger = in_journal the }

  pub serve_due : (e : ServeEnd) → (IsAgreed e → AreTheJournal world.state.journal receipts) → ((d : Odds) → e ≡ end.Disagree d → Differs world d) → (e ≡ end.Done → (world.state.closed ≡ None) × AllGiven n conns net_old net_new) →
      ((disk : DiskName) (count : ℕ) → e ≡ end.StoreFault disk count → world.state.closed ≡ Some (disk, count)) → ((disk : DiskName) (count : ℕ) → world.state.closed ≡ Some (disk, count) → IsAgreed e → e ≡ end.StoreFault disk count) →
      IsServeDue n conns (status_of_serve e) world.state net_old net_new journal receipts
  serve_due end.Done ledger differs done store closed = (record { alive = (done refl).0; ledger = in_journal (ledger (λ d it. done_or_odds d it)) }, (done refl).1)
  serve_due (end.StoreFault disk count) ledger differs done store closed = (store disk count refl, in_journal (ledger (λ d it. store_or_odds disk count d it)))
  serve_due end.OutletFault ledger differs done store closed = kept (ledger (λ d it. outlet_or_odds d it)) (λ disk count it. outlet_or_store disk count (closed disk count it (λ d is. outlet_or_odds d is)))
  serve_due end.NetFault ledger differs done store closed = kept (ledger (λ d it. net_or_odds d it)) (λ disk count it. net_or_store disk count (closed disk count it (λ d is. net_or_odds d is)))
  serve_due end.Memory ledger differs done store closed = kept (ledger (λ d it. memory_or_odds d it)) (λ disk count it. memory_or_store disk count (closed disk count it (λ d is. memory_or_odds d is)))
  serve_due (end.Disagree d) ledger differs done store closed = at_odds d (differs d refl)

-- ---- what was said on the links

-- where the status tells of no receipt that is at odds, the receipts were found to be the journal
has_agreed : (e : ServeEnd) (status : Status) → status ≡ status_of_serve e → HasAgreed status → IsAgreed e
has_agreed e status is agreed d odds = agreed d.at d.kept d.found (is ∙ ap status_of_serve odds)

pub talked_under : {N L : Type 0} (n : listener.Ghosts N L) (k : link.Ghosts L) (old new : N) (receipts : List ReceiptState) (e : ServeEnd) (status : Status) → status ≡ status_of_serve e → HaveTalked n k (IsAgreed e) old new receipts
    → HaveTalked n k (HasAgreed status) old new receipts
talked_under n k old new receipts e status is talked = record {
  links = talked.links;
  tickets = talked.tickets;
  entries = talked.entries;
  given = talked.given;
  once = talked.once;
  talks = talked.talks;
  answered = λ agreed. talked.answered (has_agreed e status is agreed);
}

-- ---- the disks

-- a disk that failed in a server, failed in the run
pub failed_at : {D : Type 0} (G : Ghosts D) (start : Start) (left : Cluster) (disks : Disks D) (old : D) (disk : DiskName) (count : ℕ) → IsLeftBroken G start disks left disk count → start.counts disk ≡ G.count old →
    (count ≡ G.count (disk_in disk disks)) × Rose (G.count old) (G.count (disk_in disk disks))
failed_at G start left disks old disk count broken is =
    (broken.count_is, subst (λ (k : ℕ). Rose (G.count old) k) broken.count_is (subst (λ (k : ℕ). Rose k count) is broken.rose))

-- ---- how a run of `serve` ended

-- where the runners' feeds couldn't be loaded, the disks weren't touched
pub unloaded : {D : Type 0} (G : Ghosts D) (old : Disks D) (fault : OfShelf) (status : Status) → status ≡ status_of_shelf fault → Leaves G status old old
unloaded G old of_shelf.Failed status is = subst (λ (s : Status). Leaves G s old old) (sym is) refl
unloaded G old of_shelf.Memory status is = subst (λ (s : Status). Leaves G s old old) (sym is) (inl refl)

-- where no cluster was opened, the disks were refused, or an object failed, or memory was wanting
whole_unopened : {D : Type 0} (G : Ghosts D) (old new : Disks D) (status : Status) → Leaves G status old new → ((disk : DiskName) (at : ℕ) (harm : Harm) → status ≡ Damaged disk at harm → ⊥) → (status ≡ ShelfFault → ⊥) →
    ((disk : DiskName) (count : ℕ) → status ≡ StoreFault disk count → ⊥) → IsServedWhole status
whole_unopened G old new Memory left unharmed no_shelf no_store = tt
whole_unopened G old new (Damaged disk at harm) left unharmed no_shelf no_store = absurd (unharmed disk at harm refl)
whole_unopened G old new (StoreFault disk count) left unharmed no_shelf no_store = absurd (no_store disk count refl)
whole_unopened G old new ShelfFault left unharmed no_shelf no_store = absurd (no_shelf refl)
whole_unopened G old new Done left unharmed no_shelf no_store = absurd left
whole_unopened G old new Usage left unharmed no_shelf no_store = absurd left
whole_unopened G old new (BadScript line kind) left unharmed no_shelf no_store = absurd left
whole_unopened G old new (TooLong count) left unharmed no_shelf no_store = absurd left
whole_unopened G old new ReadFault left unharmed no_shelf no_store = absurd left
whole_unopened G old new WriteFault left unharmed no_shelf no_store = absurd left
whole_unopened G old new OutletFault left unharmed no_shelf no_store = absurd left
whole_unopened G old new NetFault left unharmed no_shelf no_store = absurd left
whole_unopened G old new (Full log length frame) left unharmed no_shelf no_store = absurd left
whole_unopened G old new (Disagree at kept found) left unharmed no_shelf no_store = absurd left

module _ {N L : Type 0} (n : listener.Ghosts N L) (conns : ℕ) (left : Cluster) (net_old net_new : N) (journal : JournalState) (receipts : List ReceiptState) where
  whole_served : (status : Status) → IsServeDue n conns status left net_old net_new journal receipts → (status ≡ OutletFault → ⊥) → (status ≡ NetFault → ⊥) →
      ((disk : DiskName) (count : ℕ) → status ≡ StoreFault disk count → ⊥) → IsServedWhole status
  whole_served Done due no_outlet no_net no_store = tt
  whole_served Memory due no_outlet no_net no_store = tt
  whole_served (Disagree at kept found) due no_outlet no_net no_store = tt
  whole_served (StoreFault disk count) due no_outlet no_net no_store = absurd (no_store disk count refl)
  whole_served OutletFault due no_outlet no_net no_store = absurd (no_outlet refl)
  whole_served NetFault due no_outlet no_net no_store = absurd (no_net refl)
  whole_served Usage due no_outlet no_net no_store = absurd due
  whole_served (BadScript line kind) due no_outlet no_net no_store = absurd due
  whole_served (TooLong count) due no_outlet no_net no_store = absurd due
  whole_served ReadFault due no_outlet no_net no_store = absurd due
  whole_served WriteFault due no_outlet no_net no_store = absurd due
  whole_served (Damaged disk at harm) due no_outlet no_net no_store = absurd due
  whole_served ShelfFault due no_outlet no_net no_store = absurd due
  whole_served (Full log length frame) due no_outlet no_net no_store = absurd due

  -- which statuses a server never has
  pub never_damaged : (status : Status) (disk : DiskName) (at : ℕ) (harm : Harm) → status ≡ Damaged disk at harm → IsServeDue n conns status left net_old net_new journal receipts → ⊥
  never_damaged status disk at harm is due = subst (λ (s : Status). IsServeDue n conns s left net_old net_new journal receipts) is due

  pub never_shelf : (status : Status) → status ≡ ShelfFault → IsServeDue n conns status left net_old net_new journal receipts → ⊥
  never_shelf status is due = subst (λ (s : Status). IsServeDue n conns s left net_old net_new journal receipts) is due

  never_usage : (status : Status) → status ≡ Usage → IsServeDue n conns status left net_old net_new journal receipts → ⊥
  never_usage status is due = subst (λ (s : Status). IsServeDue n conns s left net_old net_new journal receipts) is due

  never_read : (status : Status) → status ≡ ReadFault → IsServeDue n conns status left net_old net_new journal receipts → ⊥
  never_read status is due = subst (λ (s : Status). IsServeDue n conns s left net_old net_new journal receipts) is due

  never_write : (status : Status) → status ≡ WriteFault → IsServeDue n conns status left net_old net_new journal receipts → ⊥
  never_write status is due = subst (λ (s : Status). IsServeDue n conns s left net_old net_new journal receipts) is due

module _ {D H U N L : Type 0} (G : Ghosts D) (S : shelf.Ghosts H) (n : listener.Ghosts N L) (k : link.Ghosts L) (options : ServeOptions) (status : Status) (on : H) (old new : Disks D) (outlet_old outlet_new : U) (net_old net_new : N)
    (journal : JournalState) (receipts : List ReceiptState) (ran : IsServeRun G S n k options status on old new outlet_old outlet_new net_old net_new journal receipts) where
  -- files with a harm are refused
  pub serve_refused : ((disk : DiskName) (gate : ℕ) (what : Harm) → status ≡ Damaged disk gate what → (files : DiskFiles) → TellAll G old files → HasFirstHarm files disk gate what) → ((setting : Setting) (s : Cluster) (files : DiskFiles) (at : DiskName) (place : ℕ) (harm : Harm) → AreFacts setting s → StandForLists files (stored_of s) → HasFirstHarm files at place harm → ⊥) →
      (files : DiskFiles) → TellAll G old files → (at : DiskName) (place : ℕ) (harm : Harm) → HasFirstHarm files at place harm → IsRefusedFor at place harm status
  serve_refused only harmless files tell at place harm has = ⊎_elim
      (λ unopened. refused_by G old new at place harm status unopened.left (λ disk gate what is. first_harm_is_one files disk at gate place what harm (only disk gate what is files tell) has))
      (λ served. absurd (harmless served.setting served.opened files at place harm served.from.facts (holds-lists files (stored_of served.opened) (served.from.files files tell)) has)) ran

  -- files without one are served
  pub serve_completed : ((disk : DiskName) (at : ℕ) (harm : Harm) → status ≡ Damaged disk at harm → ⊥) → (status ≡ ShelfFault → ⊥) → (status ≡ OutletFault → ⊥) → (status ≡ NetFault → ⊥) →
      ((disk : DiskName) (count : ℕ) → status ≡ StoreFault disk count → ⊥) → IsServedWhole status
  serve_completed unharmed no_shelf no_outlet no_net no_store = ⊎_elim
      (λ unopened. whole_unopened G old new status unopened.left unharmed no_shelf no_store)
      (λ served. whole_served n options.conns served.over.left net_old net_new journal receipts status served.over.due no_outlet no_net no_store) ran

  -- and no run of `serve` ends as one that reads or writes, or has no command
  pub no_usage : status ≡ Usage → ⊥
  no_usage is = ⊎_elim (λ unopened. subst (λ (s : Status). Leaves G s old new) is unopened.left)
      (λ served. never_usage n options.conns served.over.left net_old net_new journal receipts status is served.over.due) ran

  pub no_read : status ≡ ReadFault → ⊥
  no_read is = ⊎_elim (λ unopened. subst (λ (s : Status). Leaves G s old new) is unopened.left)
      (λ served. never_read n options.conns served.over.left net_old net_new journal receipts status is served.over.due) ran

  pub no_write : status ≡ WriteFault → ⊥
  no_write is = ⊎_elim (λ unopened. subst (λ (s : Status). Leaves G s old new) is unopened.left)
      (λ served. never_write n options.conns served.over.left net_old net_new journal receipts status is served.over.due) ran
