-- A world that was given back has the disks of its logs, and what a stop leaves of them stands for its state.
use Rattle.std.proofs.Common.{◌≡◌, ℕ, List, length, None, refl, sym, ap, ◌∙◌, subst}
use Rattle.cw_types.specs.declared.logs.LogName.{LogName}
use Rattle.cw_types.specs.declared.logs.LogName.TheVariants.{Config, Offsets, Status, Txn, Batches}
use Rattle.cw_disk.specs.declared.device.Disk.{Ghosts}
use Rattle.cw_disk.specs.declared.disks.Disks.{Disks}
use Rattle.cw_log.specs.Log.{StandsFor}
use Rattle.cw_pair.specs.Pair.{PairStandsFor}
use Rattle.cw_pair.specs.State.{Sides, disks_of as sides}
use Rattle.cw_model.specs.StandsFor.{Stored}
use Rattle.cw_model.specs.State.{Cluster}
use Rattle.cw_model.specs.Reopening.{stored_of}
use Rattle.cw_rows.specs.Writes.{bytes_in}
use Rattle.cw_world.specs.Logs.{LogsState, HoldAll, view_in, list_in}
use Rattle.cw_world.proofs.Holding.{bytes-are}
use Rattle.cw_world.specs.Ending.{disks_of, LeaveStored, LeaveTold}

pub disks-are : {D : Type 0} (logs : LogsState D) (config offsets status : Sides D) (txn batches : D) → config ≡ sides logs.config →
    offsets ≡ sides logs.offsets → status ≡ sides logs.status → txn ≡ logs.txn.disk → batches ≡ logs.batches.disk →
    record {
      config_a = config.a;
      config_b = config.b;
      offsets_a = offsets.a;
      offsets_b = offsets.b;
      status_a = status.a;
      status_b = status.b;
      txn = txn;
      batches = batches;
    } ≡ disks_of logs
disks-are logs config offsets status txn batches c o s t b = rw (c, o, s, t, b) refl

pub leaves-stored : {D : Type 0} (G : Ghosts D) (stored : Stored) (logs : LogsState D) (disks : Disks D) → HoldAll G stored logs →
    LeaveTold G logs disks → LeaveStored G stored logs disks
leaves-stored G stored logs disks all left = record {
  config = λ told is a b la lb. subst (λ (l : List (List ℕ)). PairStandsFor logs.config.log.kind l a b) ((all Config).told told is)
      (left.config (all Config).ready.alive told is a b la lb);
  offsets = λ told is a b la lb. subst (λ (l : List (List ℕ)). PairStandsFor logs.offsets.log.kind l a b) ((all Offsets).told told is)
      (left.offsets (all Offsets).ready.alive told is a b la lb);
  status = λ told is a b la lb. subst (λ (l : List (List ℕ)). PairStandsFor logs.status.log.kind l a b) ((all Status).told told is)
      (left.status (all Status).ready.alive told is a b la lb);
  txn = λ told is image left_by. subst (λ (l : List (List ℕ)). StandsFor logs.txn.kind l image) ((all Txn).told told is)
      (left.txn (all Txn).ready.alive told is image left_by);
  batches = λ told is image left_by. subst (λ (l : List (List ℕ)). StandsFor logs.batches.kind l image) ((all Batches).told told is)
      (left.batches (all Batches).ready.alive told is image left_by);
}

-- while the cluster is open, a log has as many frames and bytes as stand in the state
pub held-size : {D : Type 0} (G : Ghosts D) (name : LogName) (s : Cluster) (logs : LogsState D) (size : ℕ × ℕ) →
    (s.closed ≡ None → HoldAll G (stored_of s) logs) → size ≡ ((view_in G name logs).size, (view_in G name logs).bytes) → s.closed ≡ None →
    size ≡ (length (list_in name (stored_of s)), bytes_in name s)
held-size G name s logs size holds is alive =
    let here = holds alive name in
    is ∙ ap (λ (n : ℕ). (n, (view_in G name logs).bytes)) here.count ∙
    ap (λ (n : ℕ). (length (list_in name (stored_of s)), n)) (here.ready.bytes_are ∙ sym (bytes-are name s))
