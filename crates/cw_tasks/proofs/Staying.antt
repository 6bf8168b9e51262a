-- An instance is still there behind an event of a task's step, whatever that answers.
use Rattle.std.proofs.Common.{◌≡◌, ◌⊎◌, ⊎_elim, ◌<◌, ◌∷◌, [], ℕ, List, length, Result, refl, sym, ◌∙◌, ap, subst}
use Rattle.std.proofs.Math.ListN.{length-set}
use Rattle.cw_types.specs.declared.ids.Tid.{Tid}
use Rattle.cw_disk.specs.declared.device.Disk.{Ghosts}
use Rattle.cw_config.specs.View.{is_pending}
use Rattle.cw_txn.specs.declared.entry.Entry.{Entry}
use Rattle.cw_txn.specs.declared.entry.Entry.TheVariants.{Bump}
use Rattle.cw_laws.proofs.Wrappers.{if-keeps, instance-keeps, entries-keeps, producer-keeps}
use Rattle.cw_model.specs.declared.fault.WorldFault.{WorldFault}
use Rattle.cw_model.specs.declared.instance.Instance.{Instance}
use Rattle.cw_model.specs.declared.instance.InstancePhase.TheVariants as phase
use Rattle.cw_model.specs.State.{Cluster}
use Rattle.cw_model.specs.Answers.{Answer}
use Rattle.cw_model.specs.EventsSources.{init, verify, fetch, is_stale, with_epoch}
use Rattle.cw_model.specs.EventsSinks.{put_sink, sink_offset}
use Rattle.cw_model.specs.Lookups.{instance_of}
use Rattle.cw_model.specs.Tasks.{polling_from}
use Rattle.cw_model.specs.Updates.{changes_instance, in_phase, with_entries, next_epoch, task_id_of, tid_of}
use Rattle.cw_world.specs.World.{WorldState, Acts, RunsOut, Breaks}

module _ (s : Cluster) where
  -- a state with as many instances
  abbrev pub HasAsMany : Cluster → Type 0
  HasAsMany t = length t.instances ≡ length s.instances

  -- an instance that changes is none less
  pub changed : (i : ℕ) (change : Instance → Instance) (t : Cluster) → HasAsMany t → HasAsMany (changes_instance i change t)
  changed i change t same = length-set t.instances i (change (instance_of i t)) ∙ same

  module _ (i : ℕ) where
    abbrev own : Instance
    own = instance_of i s

    pub init-many : HasAsMany (init i s).1
    init-many = instance-keeps HasAsMany i s _ refl (λ lives.
        let tid : Tid = tid_of own.item in
        let frame : List Entry = Bump tid ∷ [] in
        entries-keeps HasAsMany s frame (changes_instance i (with_epoch (next_epoch tid s)) (with_entries frame s)) (next_epoch tid s) refl
        (λ room. changed i (with_epoch (next_epoch tid s)) (with_entries frame s) refl))

    pub verify-many : HasAsMany (verify i s).1
    verify-many = instance-keeps HasAsMany i s _ refl (λ lives. if-keeps HasAsMany (is_stale own s) _ _ (λ stale. refl)
        (λ newest. if-keeps HasAsMany (is_pending (task_id_of own.item).connector s.configs) _ _ (λ pending. refl)
        (λ fenced. changed i (in_phase phase.Verified) s refl)))

    pub fetch-many : HasAsMany (fetch i s).1
    fetch-many = instance-keeps HasAsMany i s _ refl (λ lives. length-set s.instances i _)

    pub put_sink-many : (to : ℕ) → HasAsMany (put_sink i to s).1
    put_sink-many to = instance-keeps HasAsMany i s _ refl (λ lives. producer-keeps HasAsMany i s _ refl (λ current.
        let frame : List Entry = sink_offset own to ∷ [] in
        entries-keeps HasAsMany s frame (changes_instance i (polling_from phase.Polling to) (with_entries frame s)) tt refl
        (λ room. changed i (polling_from phase.Polling to) (with_entries frame s) refl)))

-- behind an event that leaves as many as before, an instance is there
module _ {D A : Type 0} (G : Ghosts D) (event : Cluster → Answer A) (old mid : WorldState D) (result : Result A WorldFault) where
  abbrev Stays : Cluster → Type 0
  Stays t = length t.instances ≡ length old.state.instances

  pub stays : Acts G event old mid result → HasAsMany old.state (event old.state).1 → Stays mid.state
  stays acts many = ⊎_elim
      (λ (row : event old.state ≡ (result, mid.state)). subst Stays (ap (λ (a : Answer A). a.1) row) many)
      (λ (faults : RunsOut G acts.log old mid result ⊎ Breaks G acts.log event old mid result). ⊎_elim
      (λ (out : RunsOut G acts.log old mid result). subst Stays (sym out.state) refl)
      (λ (breaks : Breaks G acts.log event old mid result). subst Stays (sym breaks.state) refl)
      faults)
      acts.answers

  pub still-there : (i : ℕ) → Acts G event old mid result → HasAsMany old.state (event old.state).1 → i < length old.state.instances →
      i < length mid.state.instances
  still-there i acts many there = subst (λ (n : ℕ). i < n) (sym (stays acts many)) there
