-- What follows of how a run ended.
use Rattle.std.proofs.Common.{◌≡◌, ◌⊎◌, ⊎_elim, inl, inr, ℕ, Bool, List, Option, Some, None, refl, sym, ap, subst, ◌∙◌}
use Rattle.cw_disk.specs.declared.device.Disk.{Ghosts}
use Rattle.cw_disk.specs.declared.disks.Disks.{Disks}
use Rattle.cw_io.specs.declared.outlet.Outlet as outlet
use Rattle.cw_io.specs.declared.shelf.Shelf as shelf
use Rattle.cw_io.specs.declared.traits.Source.{Ghosts as Input}
use Rattle.cw_io.specs.declared.traits.Sink.{Ghosts as Output}
use Rattle.cw_lines.specs.Due.{IsDue}
use Rattle.cw_lines.specs.Players.{player_of}
use Rattle.cw_lines.specs.Plays as plays
use Rattle.cw_lines.specs.declared.end.DriveEnd.{DriveEnd}
use Rattle.cw_lines.specs.declared.end.DriveEnd.TheVariants as end
use Rattle.cw_log.specs.declared.fault.Harm.{Harm}
use Rattle.cw_model.specs.Facts.{AreFacts}
use Rattle.cw_model.specs.Reopening.{stored_of}
use Rattle.cw_model.specs.State.{Cluster, Setting}
use Rattle.cw_open.specs.Judged.{HasFirstHarm}
use Rattle.cw_open.specs.Leaving.{StandForLists}
use Rattle.cw_open.specs.Reopened.{DiskFiles, TellAll}
use Rattle.cw_types.specs.declared.logs.DiskName.{DiskName}
use Rattle.cw_words.specs.declared.command.Command.{Command}
use Rattle.cw_words.specs.declared.command.Command.TheVariants.{Drive}
use Rattle.cw_words.specs.declared.command.Options.{Options}
use Rattle.cw_run.specs.Ran.{Ran}
use Rattle.cw_run.specs.Rules.{drive_rules, in_cluster}
use Rattle.cw_run.specs.Run.{run}
use Rattle.cw_connect.specs.Opening.{IsSetFor, IsOpenedFrom}
use Rattle.cw_connect.specs.Outcomes.{Leaves, IsRun, IsRefusedFor}
use Rattle.cw_connect.specs.Statuses.{status_of_end}
use Rattle.cw_connect.specs.declared.status.Status.{Status}
use Rattle.cw_connect.specs.declared.status.Status.TheVariants.{Done, Usage, BadScript, TooLong, ReadFault, WriteFault, StoreFault, Damaged, ShelfFault, OutletFault, NetFault, Full, Memory, Disagree}
use Rattle.cw_connect.proofs.FirstHarm.{first_harm_is_one}
use Rattle.cw_open.proofs.LeavingLemmas.{holds-lists}

-- all was done, or an object failed, or memory was wanting
abbrev pub IsDoneUnlessFailed : Status → Type 0
IsDoneUnlessFailed Done = Unit {0}
IsDoneUnlessFailed ReadFault = Unit {0}
IsDoneUnlessFailed WriteFault = Unit {0}
IsDoneUnlessFailed (StoreFault disk count) = Unit {0}
IsDoneUnlessFailed ShelfFault = Unit {0}
IsDoneUnlessFailed OutletFault = Unit {0}
IsDoneUnlessFailed Memory = Unit {0}
IsDoneUnlessFailed Usage = ⊥
IsDoneUnlessFailed (Damaged disk at harm) = ⊥
IsDoneUnlessFailed (BadScript line kind) = ⊥
IsDoneUnlessFailed (TooLong count) = ⊥
IsDoneUnlessFailed NetFault = ⊥
IsDoneUnlessFailed (Full log length frame) = ⊥
IsDoneUnlessFailed (Disagree at kept found) = ⊥

-- and no object failed
pub calm : (status : Status) → IsDoneUnlessFailed status → (status ≡ ReadFault → ⊥) → (status ≡ WriteFault → ⊥) → (status ≡ ShelfFault → ⊥) → (status ≡ OutletFault → ⊥) →
    ((disk : DiskName) (count : ℕ) → status ≡ StoreFault disk count → ⊥) → (status ≡ Done) ⊎ (status ≡ Memory)
calm Done done no_read no_write no_shelf no_outlet no_store = inl refl
calm Memory done no_read no_write no_shelf no_outlet no_store = inr refl
calm ReadFault done no_read no_write no_shelf no_outlet no_store = absurd (no_read refl)
calm WriteFault done no_read no_write no_shelf no_outlet no_store = absurd (no_write refl)
calm ShelfFault done no_read no_write no_shelf no_outlet no_store = absurd (no_shelf refl)
calm OutletFault done no_read no_write no_shelf no_outlet no_store = absurd (no_outlet refl)
calm (StoreFault disk count) done no_read no_write no_shelf no_outlet no_store = absurd (no_store disk count refl)
calm Usage done no_read no_write no_shelf no_outlet no_store = absurd done
calm (Damaged disk at harm) done no_read no_write no_shelf no_outlet no_store = absurd done
calm (BadScript line kind) done no_read no_write no_shelf no_outlet no_store = absurd done
calm (TooLong count) done no_read no_write no_shelf no_outlet no_store = absurd done
calm NetFault done no_read no_write no_shelf no_outlet no_store = absurd done
calm (Disagree at kept found) done no_read no_write no_shelf no_outlet no_store = absurd done
calm (Full log length frame) done no_read no_write no_shelf no_outlet no_store = absurd done

no_stop : (e : DriveEnd) → Some e ≡ None → ⊥
no_stop e is = cc

-- the words are one command
pub same_options : (asked : Option Command) (a b : Options) (command : Command) → asked ≡ Some command → command ≡ Drive a → asked ≡ Some (Drive b) → a ≡ b
same_options asked a b command one is two = cc

-- where no cluster was opened, the disks were refused for their first harm
module _ {D : Type 0} (G : Ghosts D) (old new : Disks D) where
  pub refused_by : (at : DiskName) (place : ℕ) (harm : Harm) (status : Status) → Leaves G status old new → ((disk : DiskName) (gate : ℕ) (what : Harm) → status ≡ Damaged disk gate what → (disk ≡ at) × (gate ≡ place) × (what ≡ harm)) →
      IsRefusedFor at place harm status
  refused_by at place harm (Damaged disk gate what) left one = one disk gate what refl
  refused_by at place harm (StoreFault disk count) left one = tt
  refused_by at place harm ShelfFault left one = tt
  refused_by at place harm Memory left one = tt
  refused_by at place harm Done left one = left
  refused_by at place harm Usage left one = left
  refused_by at place harm (BadScript line kind) left one = left
  refused_by at place harm (TooLong count) left one = left
  refused_by at place harm ReadFault left one = left
  refused_by at place harm WriteFault left one = left
  refused_by at place harm OutletFault left one = left
  refused_by at place harm NetFault left one = left
  refused_by at place harm (Full log length frame) left one = left
  refused_by at place harm (Disagree number kept found) left one = left

  -- and where they have no harm, an object failed or memory was wanting
  refused_unharmed : (status : Status) → Leaves G status old new → ((disk : DiskName) (at : ℕ) (harm : Harm) → status ≡ Damaged disk at harm → ⊥) → IsDoneUnlessFailed status
  refused_unharmed (Damaged disk at harm) left unharmed = absurd (unharmed disk at harm refl)
  refused_unharmed (StoreFault disk count) left unharmed = tt
  refused_unharmed ShelfFault left unharmed = tt
  refused_unharmed Memory left unharmed = tt
  refused_unharmed Done left unharmed = absurd left
  refused_unharmed Usage left unharmed = absurd left
  refused_unharmed (BadScript line kind) left unharmed = absurd left
  refused_unharmed (TooLong count) left unharmed = absurd left
  refused_unharmed ReadFault left unharmed = absurd left
  refused_unharmed WriteFault left unharmed = absurd left
  refused_unharmed OutletFault left unharmed = absurd left
  refused_unharmed NetFault left unharmed = absurd left
  refused_unharmed (Full log length frame) left unharmed = absurd left
  refused_unharmed (Disagree at kept found) left unharmed = absurd left

  pub not_done : (status : Status) → Leaves G status old new → status ≡ Done → ⊥
  not_done status left is = subst (λ (s : Status). Leaves G s old new) is left

-- a script that runs to its end is done, unless an object failed or memory was wanting
module _ (player : plays.LinePlayer Ran) (amid : ℕ → List ℕ → Ran → Ran → Type 0) (ran : Ran) (bytes taken rest text : List ℕ) (at : Ran → Type 0) (unwritten : Type 0)
    (broken : ℕ → List ℕ → Ran → List ℕ → Type 0) (fine : (plays.run player ran bytes).stop ≡ None) where
  done_by_end : (e : DriveEnd) → IsDue player amid ran bytes taken rest text at e unwritten broken → IsDoneUnlessFailed (status_of_end e)
  done_by_end end.Done due = tt
  done_by_end end.ReadFault due = tt
  done_by_end end.WriteFault due = tt
  done_by_end (end.StoreFault disk count) due = tt
  done_by_end end.OutletFault due = tt
  done_by_end end.Memory due = tt
  done_by_end (end.BadScript line kind) due = absurd (no_stop (end.BadScript line kind) (sym due.ends ∙ fine))
  done_by_end (end.TooLong count) due = absurd (no_stop (end.TooLong count) (sym due.ends ∙ fine))
  done_by_end (end.Full log length frame) due = absurd (no_stop (end.Full log length frame) (sym due.ends ∙ fine))

module _ {D I O H U : Type 0} (G : Ghosts D) (i : Input I) (o : Output O) (S : shelf.Ghosts H) (u : outlet.Ghosts U) (options : Options) (status : Status) (on : H) (in_old in_new : I) (out_old out_new : O)
    (old new : Disks D) (outlet_old outlet_new : U) (ran : IsRun G i o S u options status on in_old in_new out_old out_new old new outlet_old outlet_new) where
  -- files with a harm are refused
  pub refused : ((disk : DiskName) (gate : ℕ) (what : Harm) → status ≡ Damaged disk gate what → (files : DiskFiles) → TellAll G old files → HasFirstHarm files disk gate what) → ((setting : Setting) (s : Cluster) (files : DiskFiles) (at : DiskName) (place : ℕ) (harm : Harm) → AreFacts setting s → StandForLists files (stored_of s) → HasFirstHarm files at place harm → ⊥) →
      (files : DiskFiles) → TellAll G old files → (at : DiskName) (place : ℕ) (harm : Harm) → HasFirstHarm files at place harm → IsRefusedFor at place harm status
  refused only harmless files tell at place harm has = ⊎_elim
      (λ unopened. refused_by G old new at place harm status unopened.left (λ disk gate what is. first_harm_is_one files disk at gate place what harm (only disk gate what is files tell) has))
      (λ driven. absurd (harmless driven.setting driven.ran.cluster files at place harm driven.from.facts (holds-lists files (stored_of driven.ran.cluster) (driven.from.files files tell)) has)) ran

  -- files without one are opened
  pub completed : ((disk : DiskName) (at : ℕ) (harm : Harm) → status ≡ Damaged disk at harm → ⊥) →
      ((setting : Setting) (script : List ℕ) (r : Ran) → in_cluster (plays.run (player_of drive_rules setting) r script) ≡ run setting r.cluster script) →
      (bytes : List ℕ) → i.left in_old ≡ Some bytes →
      ((setting : Setting) (t : Cluster) (tells : Bool) → IsSetFor S options on setting → IsOpenedFrom G old setting t tells → (run setting t bytes).stop ≡ None) → IsDoneUnlessFailed status
  completed unharmed alike bytes told fine = ⊎_elim
      (λ unopened. refused_unharmed G old new status unopened.left unharmed)
      (λ driven.
      let did = driven.drives bytes told in
      let stops : (plays.run (player_of drive_rules driven.setting) driven.ran bytes).stop ≡ None = ap (λ (p : plays.Played Cluster). p.stop) (alike driven.setting bytes driven.ran) ∙ fine driven.setting driven.ran.cluster driven.ran.tells driven.set driven.from in
      subst IsDoneUnlessFailed (sym driven.status_is)
      (done_by_end (player_of drive_rules driven.setting) (drive_rules.amid driven.setting) driven.ran bytes did.taken did.rest did.text _ _ _ stops driven.end did.due)) ran
