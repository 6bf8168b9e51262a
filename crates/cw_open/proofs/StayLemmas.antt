-- What a stop leaves of disks while their logs are opened one by one, and that no count of faults falls.
use Rattle.std.proofs.Common.{◌≡◌, inl, ℕ, List, Result, Ok, Err, refl, sym, subst, arith}
use Rattle.std.specs.Prelude.{IfErr, IfOk, MatchResult}
use Rattle.cw_types.specs.declared.logs.LogName.{LogName}
use Rattle.cw_types.specs.declared.logs.DiskName.TheVariants.{ConfigA, ConfigB, OffsetsA, OffsetsB, StatusA, StatusB, Txn, Batches}
use Rattle.cw_disk.specs.declared.device.Disk.{Ghosts}
use Rattle.cw_disk.specs.declared.disks.Disks.{Disks}
use Rattle.cw_disk.specs.Told.{Reads}
use Rattle.cw_disk.proofs.Moments.{adds_none}
use Rattle.cw_log.specs.Log.{StandAlike, kind_of}
use Rattle.cw_pair.specs.State.{Sides}
use Rattle.cw_world.specs.Ending.{disks_of as all_disks_of}
use Rattle.cw_world.specs.Logs.{LogsState}
use Rattle.cw_world.specs.World.{WorldState}
use Rattle.cw_open.specs.OpenedFrom.{AreFrom, DisksStay, PairStays, TopicStays}
use Rattle.cw_open.specs.Reopened.{NoneFell}
use Rattle.cw_open.specs.declared.reopen_fault.ReopenFault.{ReopenFault}

module _ {D : Type 0} (G : Ghosts D) (name : LogName) where
  -- the disks are those that were handed in
  pub pair-stays-of : (a b all_a all_b : D) (now : Sides D) → all_a ≡ a → all_b ≡ b → PairStays G name a b now → PairStays G name all_a all_b now
  pair-stays-of a b all_a all_b now same_a same_b stays =
      subst (λ (d : D). PairStays G name d all_b now) (sym same_a) (subst (λ (d : D). PairStays G name a d now) (sym same_b) stays)

  pub topic-stays-of : (disk all now : D) → all ≡ disk → TopicStays G name disk now → TopicStays G name all now
  topic-stays-of disk all now same stays = subst (λ (d : D). TopicStays G name d now) (sym same) stays

  -- disks that are not touched
  module _ (only_now : (disk : D) (image : List ℕ) → G.left_since disk (G.moment disk) image → G.may_leave disk image) where
    reads-none : (disk : D) → Reads G disk disk
    reads-none disk = record {
      same = refl;
      fewer = λ image left. left;
      adds = adds_none G.moment G.left_since disk (λ image. ⊥);
      later = omega arith;
      room = omega arith;
    }

    pub pair-untouched : (a b all_a all_b : D) → all_a ≡ a → all_b ≡ b → PairStays G name all_a all_b (record { a = a; b = b })
    pair-untouched a b all_a all_b same_a same_b = pair-stays-of a b all_a all_b (record { a = a; b = b }) same_a same_b (record {
      leaves = λ file_a file_b told_a told_b. record {
        read = record { a = a; b = b };
        reads_a = reads-none a;
        reads_b = reads-none b;
        alike = λ image_a image_b left. inl (record { a = only_now a image_a left.a; b = only_now b image_b left.b });
      };
      later_a = omega arith;
      later_b = omega arith;
    })

  pub topic-untouched : (disk all : D) → all ≡ disk → TopicStays G name all disk
  topic-untouched disk all same = topic-stays-of disk all disk same (record {
    leaves = λ file told. adds_none G.moment G.left_since disk (StandAlike (kind_of name) file);
    later = omega arith;
  })

-- logs that were opened
pub stay-of : {D : Type 0} (G : Ghosts D) (disks : Disks D) (logs : LogsState D) → AreFrom G disks logs → DisksStay G disks (all_disks_of logs)
stay-of G disks logs from = record {
  config = from.config.stays;
  offsets = from.offsets.stays;
  status = from.status.stays;
  txn = from.txn.stays;
  batches = from.batches.stays;
}

-- their disks, where they are not opened as a cluster
pub given-stay : {A D : Type 0} (G : Ghosts D) (disks : Disks D) (logs : LogsState D) (r : Result A (ReopenFault D)) → AreFrom G disks logs → IfErr r (λ fault. fault.disks ≡ all_disks_of logs) →
    IfErr r (λ fault. DisksStay G disks fault.disks)
given-stay G disks logs (Ok answer) from same = tt
given-stay G disks logs (Err fault) from same = subst (DisksStay G disks) (sym same) (stay-of G disks logs from)

-- no count of faults fell
pub none-fell : {D : Type 0} (G : Ghosts D) (old new : Disks D) → DisksStay G old new → NoneFell G old new
none-fell G old new stay ConfigA = stay.config.later_a
none-fell G old new stay ConfigB = stay.config.later_b
none-fell G old new stay OffsetsA = stay.offsets.later_a
none-fell G old new stay OffsetsB = stay.offsets.later_b
none-fell G old new stay StatusA = stay.status.later_a
none-fell G old new stay StatusB = stay.status.later_b
none-fell G old new stay Txn = stay.txn.later
none-fell G old new stay Batches = stay.batches.later

-- nor where they are opened as a cluster, or given back
pub answer-none-fell : {D : Type 0} (G : Ghosts D) (disks : Disks D) (r : Result (WorldState D) (ReopenFault D)) → IfOk r (λ world. AreFrom G disks world.logs) → IfErr r (λ fault. DisksStay G disks fault.disks) →
    MatchResult r (λ world. NoneFell G disks (all_disks_of world.logs)) (λ fault. NoneFell G disks fault.disks)
answer-none-fell G disks (Ok world) from stay = none-fell G disks (all_disks_of world.logs) (stay-of G disks world.logs from)
answer-none-fell G disks (Err fault) from stay = none-fell G disks fault.disks stay
