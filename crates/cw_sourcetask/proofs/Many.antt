-- An event of a source's task leaves as many instances as there were.
use Rattle.std.proofs.Common.{◌∷◌, [], ℕ, List, refl}
use Rattle.cw_txn.specs.declared.entry.Entry.{Entry}
use Rattle.cw_txn.specs.declared.entry.Entry.TheVariants.{Commit}
use Rattle.cw_offset.specs.declared.body.OffsetEntry.TheVariants.{Records}
use Rattle.cw_laws.proofs.Wrappers.{if-keeps, instance-keeps, entries-keeps, offset-keeps, data-keeps, producer-keeps}
use Rattle.cw_model.specs.declared.instance.Cut.{Cut}
use Rattle.cw_model.specs.declared.instance.Instance.{Instance}
use Rattle.cw_model.specs.declared.instance.InstancePhase.TheVariants as phase
use Rattle.cw_model.specs.State.{Setting, Cluster}
use Rattle.cw_model.specs.EventsSources.{produce, put_offsets, commit, is_bad_cut, batch_of, offset_record, committed_to}
use Rattle.cw_model.specs.Lookups.{instance_of}
use Rattle.cw_model.specs.Tasks.{tag_of, span_of, cut_of, taking}
use Rattle.cw_model.specs.Updates.{changes_instance, in_phase, with_entries, with_offset, with_data}
use Rattle.cw_tasks.proofs.Staying.{HasAsMany, changed}

module _ (s : Cluster) (i : ℕ) where
  abbrev own : Instance
  own = instance_of i s

  pub produce-many : (setting : Setting) (cut : Cut) → HasAsMany s (produce setting i cut s).1
  produce-many setting cut = instance-keeps (HasAsMany s) i s _ refl (λ lives. producer-keeps (HasAsMany s) i s _ refl (λ current.
      if-keeps (HasAsMany s) (is_bad_cut setting.feeds own cut) _ _ (λ bad. refl) (λ fits.
      let batch = batch_of setting.feeds own cut in
      data-keeps (HasAsMany s) s batch (changes_instance i (taking phase.Produced cut) (with_data batch s)) tt refl
      (λ room. changed s i (taking phase.Produced cut) (with_data batch s) refl))))

  pub put_offsets-many : HasAsMany s (put_offsets i s).1
  put_offsets-many = instance-keeps (HasAsMany s) i s _ refl (λ lives. producer-keeps (HasAsMany s) i s _ refl (λ current.
      let entry = Records (tag_of own) (offset_record (span_of own) s ∷ []) in
      offset-keeps (HasAsMany s) s entry (changes_instance i (in_phase phase.Offered) (with_offset entry s)) tt refl
      (λ room. changed s i (in_phase phase.Offered) (with_offset entry s) refl)))

  pub commit-many : HasAsMany s (commit i s).1
  commit-many = instance-keeps (HasAsMany s) i s _ refl (λ lives. producer-keeps (HasAsMany s) i s _ refl (λ current.
      let frame : List Entry = Commit (tag_of own) own.generation (span_of own ∷ []) ∷ [] in
      entries-keeps (HasAsMany s) s frame (changes_instance i (committed_to (cut_of own).to) (with_entries frame s)) (span_of own) refl
      (λ room. changed s i (committed_to (cut_of own).to) (with_entries frame s) refl)))
