-- What a server's world leaves of its disks where it is given back.
use Rattle.std.proofs.Common.{◌≡◌, ◌≤◌, ℕ, None, IsSome, sym, ap, ◌∙◌, subst}
use Rattle.cw_types.specs.declared.logs.DiskName.{DiskName}
use Rattle.cw_types.specs.declared.logs.LogName.{LogName}
use Rattle.cw_disk.specs.declared.device.Disk.{Ghosts}
use Rattle.cw_disk.specs.declared.disks.Disks.{Disks}
use Rattle.cw_model.specs.Reopening.{stored_of}
use Rattle.cw_world.specs.Ending.{disks_of, LeaveTold}
use Rattle.cw_world.specs.Logs.{view_in}
use Rattle.cw_world.specs.World.{WorldState}
use Rattle.cw_open.specs.Leaving.{HaveKinds as HasKinds, LeaveLists}
use Rattle.cw_open.specs.Reopened.{disk_in}
use Rattle.cw_cluster.proofs.Left.{as-kinds, each-tells, stands-either}
use Rattle.cw_turns.specs.Going.{Start, IsBroken, GoesOn}
use Rattle.cw_turns.specs.Left.{IsLeftBehind, IsLeftBroken}

module _ {D : Type 0} (G : Ghosts D) (start : Start) (world : WorldState D) (given : Disks D) (are : given ≡ disks_of world.logs) (goes : GoesOn G start world) where
  left-broken : LeaveTold G world.logs given → (disk : DiskName) (count : ℕ) → IsBroken G start world disk count → IsLeftBroken G start given world.state disk count
  left-broken leave disk count b = record {
    before = b.before;
    next = b.next;
    before_reached = b.before_reached;
    next_reached = b.next_reached;
    same = b.same;
    stands = λ tells images may. stands-either G world.logs given images may goes.kinds are leave (goes.tells ∙ tells) b.log
        (stored_of b.before) (stored_of b.next) b.apart (b.left tells) b.others;
    count_is = b.count_is ∙ ap (λ (d : Disks D). G.count (disk_in disk d)) (sym are);
    rose = b.rose;
  }

  pub left-behind : LeaveTold G world.logs given →
      (world.state.closed ≡ None → HasKinds world.logs → ((any : LogName) → IsSome (view_in G any world.logs).bodies) → LeaveLists G given (stored_of world.state)) →
      IsLeftBehind G start world.state given
  left-behind leave lists = record {
    reached = goes.reached;
    whole = λ alive tells. lists alive (as-kinds G world.logs goes.kinds) (each-tells G world.logs (goes.tells ∙ tells));
    broken = λ disk count is. left-broken leave disk count (goes.broken disk count is);
    later = λ disk. subst (λ (d : Disks D). start.counts disk ≤ G.count (disk_in disk d)) (sym are) (goes.later disk);
  }
