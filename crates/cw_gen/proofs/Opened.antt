-- Empty files are opened as the empty cluster, with sides of the number 1.
use Rattle.std.proofs.Common.{◌≡◌, ◌⊎◌, inl, inr, ℕ, List, [], Bool, true, false, Some, IsSome, refl, ap, subst, ◌∙◌, arith}
use Rattle.cw_types.specs.declared.logs.DiskName.{DiskName}
use Rattle.cw_types.specs.declared.logs.DiskName.TheVariants as disk
use Rattle.cw_types.specs.declared.logs.LogName.{LogName}
use Rattle.cw_types.specs.declared.logs.LogName.TheVariants.{Config, Offsets, Status, Txn, Batches}
use Rattle.cw_disk.specs.declared.device.Disk.{Ghosts}
use Rattle.cw_disk.specs.declared.disks.Disks.{Disks}
use Rattle.cw_log.specs.Log.{IsUnmade, kind_of}
use Rattle.cw_log.specs.declared.fault.Harm.{Harm}
use Rattle.cw_model.specs.Cases.{empty_cluster}
use Rattle.cw_model.specs.Reopening.{stored_of}
use Rattle.cw_model.specs.State.{Cluster, Paired, Setting}
use Rattle.cw_model.specs.StandsFor.{TellsWhetherFeedsAgree}
use Rattle.cw_world.specs.Logs.{LogsState, view_in}
use Rattle.cw_open.specs.Leaving.{IsNoDamage, IsSameBesidesSides, StandForLists}
use Rattle.cw_open.specs.Opened.{IsSetBy}
use Rattle.cw_open.specs.OpenedFrom.{AreFrom}
use Rattle.cw_open.specs.OpenedLogs.{HasNumber, IsNumbered}
use Rattle.cw_open.specs.Reopened.{DiskFiles, FailedAt, FilesHold, OnReopenCause, PairHolds, TellAll, disk_in}
use Rattle.cw_open.specs.declared.reopen_fault.ReopenCause.{ReopenCause}
use Rattle.cw_open.specs.declared.reopen_fault.ReopenCause.TheVariants.{Damaged, StoreFault, Memory}
use Rattle.cw_cluster.specs.Breaking.{tell_all}
use Rattle.cw_gen.specs.Scripts.{setting_of}

-- the files of empty disks
abbrev pub no_files : DiskFiles
no_files = record {
  config_a = [];
  config_b = [];
  offsets_a = [];
  offsets_b = [];
  status_a = [];
  status_b = [];
  txn = [];
  batches = [];
}

unmade : IsUnmade []
unmade = inl (omega arith)

-- they stand for logs without a body
pub no_files-stand : StandForLists no_files (stored_of empty_cluster)
no_files-stand = record {
  config = inl (inl (unmade, unmade, refl));
  offsets = inl (inl (unmade, unmade, refl));
  status = inl (inl (unmade, unmade, refl));
  txn = inl (unmade, refl);
  batches = inl (unmade, refl);
}

pub empty-tell : {D : Type 0} (G : Ghosts D) (disks : Disks D) → ((name : DiskName) → G.holds (disk_in name disks) ≡ Some []) → TellAll G disks no_files
empty-tell G disks empty = (
  (empty disk.ConfigA, empty disk.ConfigB),
  (
    (empty disk.OffsetsA, empty disk.OffsetsB),
    (
      (empty disk.StatusA, empty disk.StatusB),
      (empty disk.Txn, (empty disk.Batches, tt)),
    ),
  ),
)

-- their sides have the number 1
first-number : (number : ℕ) → HasNumber number [] → number ≡ 1
first-number number (inl is) = is.1
first-number number (inr side) = absurd (omega (arith, side.long))

first-side : (name : LogName) (log : Paired (List ℕ)) → PairHolds name [] [] log → log.side ≡ 1
first-side name log holds = at holds.on_b holds.numbered where
  at : (on_b : Bool) → IsNumbered (kind_of name) on_b log.side [] [] → log.side ≡ 1
  at true is = first-number log.side is.1
  at false is = first-number log.side is.1

pub opened-empty : (s : Cluster) → IsSameBesidesSides empty_cluster s → FilesHold no_files (stored_of s) → s ≡ empty_cluster
opened-empty s same holds =
    same
    ∙ ap (λ (n : ℕ). record empty_cluster { config = record { frames = []; side = n }; offsets = record { frames = []; side = s.offsets.side }; status = record { frames = []; side = s.status.side } })
    (first-side Config (stored_of s).config holds.config)
    ∙ ap (λ (n : ℕ). record empty_cluster { offsets = record { frames = []; side = n }; status = record { frames = []; side = s.status.side } })
    (first-side Offsets (stored_of s).offsets holds.offsets)
    ∙ ap (λ (n : ℕ). record empty_cluster { status = record { frames = []; side = n } })
    (first-side Status (stored_of s).status holds.status)

-- nothing is committed, and so the feeds agree
pub setting-is : (group : List ℕ) (delay : ℕ) (setting : Setting) (s : Cluster) → s ≡ empty_cluster → IsSetBy group delay [] setting → TellsWhetherFeedsAgree setting s →
    setting ≡ setting_of group delay
setting-is group delay setting s empty set agreed =
    let yes : setting.agreed ≡ true = (subst (λ (t : Cluster). TellsWhetherFeedsAgree setting t) empty agreed).1 tt in
    ap (λ (g : List ℕ). record setting { group = g }) set.group_is
    ∙ ap (λ (d : ℕ). record setting { group = group; delay = d }) set.delay_is
    ∙ ap (λ (f : List (List ℕ × List ℕ)). record setting { group = group; delay = delay; feeds = f }) set.feeds_are
    ∙ ap (λ (b : Bool). record { group = group; delay = delay; feeds = []; agreed = b }) yes

-- each log tells its list
module _ {D : Type 0} (G : Ghosts D) (disks : Disks D) (logs : LogsState D) (from : AreFrom G disks logs) where
  told : (empty : (name : DiskName) → G.holds (disk_in name disks) ≡ Some []) → (any : LogName) → IsSome (view_in G any logs).bodies
  told empty Config = from.config.tells [] [] (empty disk.ConfigA) (empty disk.ConfigB)
  told empty Offsets = from.offsets.tells [] [] (empty disk.OffsetsA) (empty disk.OffsetsB)
  told empty Status = from.status.tells [] [] (empty disk.StatusA) (empty disk.StatusB)
  told empty Txn = from.txn.tells [] (empty disk.Txn)
  told empty Batches = from.batches.tells [] (empty disk.Batches)

  pub tell-all : ((name : DiskName) → G.holds (disk_in name disks) ≡ Some []) → tell_all G logs ≡ true
  tell-all empty = rw (told empty Config, told empty Offsets, told empty Status, told empty Txn, told empty Batches) refl

-- where no count rises, empty files are opened but for want of memory
pub only-wants : {D : Type 0} (P : DiskName → ℕ → Harm → Type 0) (M : Type 0) (G : Ghosts D) (old new : Disks D) (cause : ReopenCause) → ((disk : D) → G.count disk ≡ 0) →
    IsNoDamage cause → OnReopenCause P (FailedAt G.count old new) M cause →
    ((at : DiskName) × (place : ℕ) × (harm : Harm) × (cause ≡ Damaged at place harm)) ⊎ ((at : DiskName) × (count : ℕ) × (cause ≡ StoreFault at count)) → ⊥
only-wants P M G old new (Damaged at place harm) steady none why is = none
only-wants P M G old new (StoreFault at count) steady none why is =
    absurd (omega (arith, why.rose, steady (disk_in at old), steady (disk_in at new)))
only-wants P M G old new Memory steady none why (inl is) = let no = is.3 in cc
only-wants P M G old new Memory steady none why (inr is) = let no = is.2 in cc
