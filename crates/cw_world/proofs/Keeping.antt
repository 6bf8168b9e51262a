-- A log keeps on: its kind, whether it tells its list, and that no count of faults falls.
use Rattle.std.proofs.Common.{◌≡◌, ◌≢◌, ℕ, ◌∷◌, [], refl, sym, subst, arith}
use Rattle.cw_types.specs.declared.logs.LogName.{LogName}
use Rattle.cw_types.specs.declared.logs.LogName.TheVariants.{Config, Offsets, Status, Txn, Batches}
use Rattle.cw_disk.specs.declared.device.Disk.{Ghosts}
use Rattle.cw_world.specs.Logs.{LogsState, LogView, HaveSameOthers, KeepsOn, view_in, faults_in}

pub keeps-same : (view : LogView) (faults : ℕ → ℕ) → KeepsOn view view faults faults
keeps-same view faults = record { kind = refl; told = refl; later = λ side. omega (arith) }

module _ {D : Type 0} (G : Ghosts D) where
  pub keeps-all : (any : LogName) (old new : LogsState D) → new ≡ old →
      KeepsOn (view_in G any old) (view_in G any new) (faults_in G any old) (faults_in G any new)
  keeps-all any old new same = subst (λ (l : LogsState D). KeepsOn (view_in G any old) (view_in G any l) (faults_in G any old) (faults_in G any l))
      (sym same) (keeps-same (view_in G any old) (faults_in G any old))

  -- a log that was not written to
  pub keeps-untouched : (log any : LogName) (old new : LogsState D) → HaveSameOthers log old new → log ≢ any →
      KeepsOn (view_in G any old) (view_in G any new) (faults_in G any old) (faults_in G any new)
  keeps-untouched log Config old new others n = rw (others.config n) (keeps-same (view_in G Config old) (faults_in G Config old))
  keeps-untouched log Offsets old new others n = rw (others.offsets n) (keeps-same (view_in G Offsets old) (faults_in G Offsets old))
  keeps-untouched log Status old new others n = rw (others.status n) (keeps-same (view_in G Status old) (faults_in G Status old))
  keeps-untouched log Txn old new others n = rw (others.txn n) (keeps-same (view_in G Txn old) (faults_in G Txn old))
  keeps-untouched log Batches old new others n = rw (others.batches n) (keeps-same (view_in G Batches old) (faults_in G Batches old))
