-- Why disks are not opened, log after log.
use Rattle.std.proofs.Common.{◌≡◌, inl, inr, ℕ, Bool, true, false, cond, eqb, List, ◌∷◌, Some, Result, Ok, Err, refl, sym, ap, subst, ◌∙◌}
use Rattle.std.specs.Prelude.{IfErr, IfOk}
use Rattle.std.specs.List.{AllByRecursion}
use Rattle.cw_types.specs.declared.logs.LogName.{LogName}
use Rattle.cw_types.specs.declared.logs.LogName.TheVariants.{Config, Offsets, Status}
use Rattle.cw_types.specs.declared.logs.DiskName.{DiskName}
use Rattle.cw_types.specs.declared.logs.DiskName.TheVariants as disk
use Rattle.cw_types.specs.Faults.{Rose}
use Rattle.cw_disk.specs.declared.device.Disk.{Ghosts}
use Rattle.cw_disk.specs.declared.disks.Disks.{Disks}
use Rattle.cw_log.specs.Log.{IsDamaged, OnCause, kind_of}
use Rattle.cw_log.specs.declared.fault.Harm.{Harm}
use Rattle.cw_log.specs.declared.fault.OpenCause.{OpenCause}
use Rattle.cw_log.specs.declared.fault.OpenCause.TheVariants as opening
use Rattle.cw_pair.specs.Pair.{IsPairDamaged}
use Rattle.cw_pair.specs.State.{faults_of}
use Rattle.cw_open.specs.Reopened.{DiskFiles, disk_in, HasPairHarm, HasTopicHarm, HasFileHarm, StandForSome, FirstHarmFrom, FailedAt, OnReopenCause, TellLog, CauseFrom}
use Rattle.cw_open.specs.declared.reopen_fault.ReopenFault.{ReopenFault}
use Rattle.cw_open.specs.declared.reopen_fault.ReopenCause.{ReopenCause}
use Rattle.cw_open.specs.declared.reopen_fault.ReopenCause.TheVariants.{Damaged, StoreFault, Memory}
use Rattle.cw_world.specs.Logs.{disk_of}

module _ {D : Type 0} (G : Ghosts D) where
  abbrev DamagedFrom : List LogName → Disks D → DiskName → ℕ → Harm → Type 0
  DamagedFrom logs disks at place harm = (files : DiskFiles) → AllByRecursion (TellLog G disks files) logs → FirstHarmFrom files logs at place harm

  -- a log that was opened before those of which one isn't
  module _ (log : LogName) (logs : List LogName) (disks : Disks D) (stand : (files : DiskFiles) → TellLog G disks files log → StandForSome files log) where
    cause-by : (now : Disks D) (cause : ReopenCause) → OnReopenCause (DamagedFrom logs disks) (FailedAt G.count disks now) (Unit {0}) cause →
        OnReopenCause (DamagedFrom (log ∷ logs) disks) (FailedAt G.count disks now) (Unit {0}) cause
    cause-by now (Damaged at place harm) first = λ files tell. inr (stand files tell.0, first files tell.1)
    cause-by now (StoreFault at count) failed = failed
    cause-by now Memory none = none

    pub cause-behind : {A : Type 0} (r : Result A (ReopenFault D)) → IfErr r (CauseFrom G logs disks) → IfErr r (CauseFrom G (log ∷ logs) disks)
    cause-behind (Ok opened) is = tt
    cause-behind (Err fault) is = cause-by fault.disks fault.cause is

  -- the log of a pair that isn't opened
  module _ (name : LogName) (logs : List LogName) (disks now : Disks D) (a b a_now b_now : D) (side : ℕ) (file_a file_b : DiskFiles → List ℕ)
      (tell : (files : DiskFiles) → TellLog G disks files name → (G.holds a ≡ Some (file_a files)) × (G.holds b ≡ Some (file_b files)))
      (harmed : (files : DiskFiles) (at : DiskName) (place : ℕ) (harm : Harm) → HasPairHarm name (file_a files) (file_b files) at place harm → HasFileHarm files name at place harm)
      (before : G.count (disk_in (disk_of name side) disks) ≡ faults_of G (record { a = a; b = b }) side)
      (behind : G.count (disk_in (disk_of name side) now) ≡ faults_of G (record { a = a_now; b = b_now }) side) where
    pub pair-cause : (opened : OpenCause) (cause : ReopenCause) →
        OnCause (λ at harm. (file : List ℕ) → G.holds a ≡ Some file → (other : List ℕ) → G.holds b ≡ Some other → IsPairDamaged (kind_of name) file other side at harm)
        (Rose (faults_of G (record { a = a; b = b }) side) (faults_of G (record { a = a_now; b = b_now }) side)) (Unit {0}) opened →
        OnReopenCause (λ at place harm. (at ≡ disk_of name side) × (opened ≡ opening.Damaged place harm))
        (λ at count. (at ≡ disk_of name side) × (opened ≡ opening.Failed) × (count ≡ faults_of G (record { a = a_now; b = b_now }) side))
        (opened ≡ opening.Memory) cause →
        OnReopenCause (DamagedFrom (name ∷ logs) disks) (FailedAt G.count disks now) (Unit {0}) cause
    pair-cause opened (Damaged at place harm) of is = λ files tells.
        let on = subst (OnCause (λ at harm. (file : List ℕ) → G.holds a ≡ Some file → (other : List ℕ) → G.holds b ≡ Some other → IsPairDamaged (kind_of name) file other side at harm)
        (Rose (faults_of G (record { a = a; b = b }) side) (faults_of G (record { a = a_now; b = b_now }) side)) (Unit {0})) is.1 of in
        let told = tell files tells.0 in
        inl (harmed files at place harm (record { side = side; disk_is = is.0; harm_is = on (file_a files) told.0 (file_b files) told.1 }))
    pair-cause opened (StoreFault at count) of is =
        let on = subst (OnCause (λ at harm. (file : List ℕ) → G.holds a ≡ Some file → (other : List ℕ) → G.holds b ≡ Some other → IsPairDamaged (kind_of name) file other side at harm)
        (Rose (faults_of G (record { a = a; b = b }) side) (faults_of G (record { a = a_now; b = b_now }) side)) (Unit {0})) is.1 of in
        record {
          now_is = is.2 ∙ sym behind ∙ ap (λ (d : DiskName). G.count (disk_in d now)) (sym is.0);
          rose = subst (λ (d : DiskName). Rose (G.count (disk_in d disks)) (G.count (disk_in d now))) (sym is.0)
              (subst (λ (n : ℕ). Rose n (G.count (disk_in (disk_of name side) now))) (sym before)
              (subst (λ (n : ℕ). Rose (faults_of G (record { a = a; b = b }) side) n) (sym behind) on));
        }
    pair-cause opened Memory of is = tt

  -- the log of one disk that isn't opened
  module _ (name : LogName) (logs : List LogName) (disks now : Disks D) (a a_now : D) (file : DiskFiles → List ℕ)
      (tell : (files : DiskFiles) → TellLog G disks files name → G.holds a ≡ Some (file files))
      (harmed : (files : DiskFiles) (at : DiskName) (place : ℕ) (harm : Harm) → HasTopicHarm name (file files) at place harm → HasFileHarm files name at place harm)
      (before : G.count (disk_in (disk_of name 0) disks) ≡ G.count a)
      (behind : G.count (disk_in (disk_of name 0) now) ≡ G.count a_now) where
    pub topic-cause : (opened : OpenCause) (cause : ReopenCause) →
        OnCause (λ at harm. (file : List ℕ) → G.holds a ≡ Some file → IsDamaged (kind_of name) file at harm) (Rose (G.count a) (G.count a_now)) (Unit {0}) opened →
        OnReopenCause (λ at place harm. (at ≡ disk_of name 0) × (opened ≡ opening.Damaged place harm))
        (λ at count. (at ≡ disk_of name 0) × (opened ≡ opening.Failed) × (count ≡ G.count a_now)) (opened ≡ opening.Memory) cause →
        OnReopenCause (DamagedFrom (name ∷ logs) disks) (FailedAt G.count disks now) (Unit {0}) cause
    topic-cause opened (Damaged at place harm) of is = λ files tells.
        let on = subst (OnCause (λ at harm. (file : List ℕ) → G.holds a ≡ Some file → IsDamaged (kind_of name) file at harm) (Rose (G.count a) (G.count a_now)) (Unit {0})) is.1 of in
        inl (harmed files at place harm (record { disk_is = is.0; harm_is = on (file files) (tell files tells.0) }))
    topic-cause opened (StoreFault at count) of is =
        let on = subst (OnCause (λ at harm. (file : List ℕ) → G.holds a ≡ Some file → IsDamaged (kind_of name) file at harm) (Rose (G.count a) (G.count a_now)) (Unit {0})) is.1 of in
        record {
          now_is = is.2 ∙ sym behind ∙ ap (λ (d : DiskName). G.count (disk_in d now)) (sym is.0);
          rose = subst (λ (d : DiskName). Rose (G.count (disk_in d disks)) (G.count (disk_in d now))) (sym is.0)
              (subst (λ (n : ℕ). Rose n (G.count (disk_in (disk_of name 0) now))) (sym before)
              (subst (λ (n : ℕ). Rose (G.count a) n) (sym behind) on));
        }
    topic-cause opened Memory of is = tt

  -- the count of a side's disk
  pub config-count : (disks : Disks D) (side : ℕ) → G.count (disk_in (disk_of Config side) disks) ≡ faults_of G (record { a = disks.config_a; b = disks.config_b }) side
  config-count disks side = by (eqb side 0)
    where
      by : (b : Bool) → G.count (disk_in (cond b disk.ConfigA disk.ConfigB) disks) ≡ cond b (G.count disks.config_a) (G.count disks.config_b)
      by true = refl
      by false = refl

  pub offsets-count : (disks : Disks D) (side : ℕ) → G.count (disk_in (disk_of Offsets side) disks) ≡ faults_of G (record { a = disks.offsets_a; b = disks.offsets_b }) side
  offsets-count disks side = by (eqb side 0)
    where
      by : (b : Bool) → G.count (disk_in (cond b disk.OffsetsA disk.OffsetsB) disks) ≡ cond b (G.count disks.offsets_a) (G.count disks.offsets_b)
      by true = refl
      by false = refl

  pub status-count : (disks : Disks D) (side : ℕ) → G.count (disk_in (disk_of Status side) disks) ≡ faults_of G (record { a = disks.status_a; b = disks.status_b }) side
  status-count disks side = by (eqb side 0)
    where
      by : (b : Bool) → G.count (disk_in (cond b disk.StatusA disk.StatusB) disks) ≡ cond b (G.count disks.status_a) (G.count disks.status_b)
      by true = refl
      by false = refl

-- what holds of a part of an answer, which is kept
pub kept-part : {A E X : Type 0} (r : Result A E) (part : A → X) (x : X) (P : X → Type 0) → IfOk r (λ a. part a ≡ x) → P x → IfOk r (λ a. P (part a))
kept-part (Ok a) part x P same has = subst P (sym same) has
kept-part (Err fault) part x P same has = tt
