-- A server's world goes on from where it began.
use Rattle.std.proofs.Common.{◌≡◌, None, Some, refl, sym, ◌∙◌, arith}
use Rattle.cw_disk.specs.declared.device.Disk.{Ghosts}
use Rattle.cw_world.specs.World.{WorldState}
use Rattle.cw_run.specs.Reaches.{HaveNames}
use Rattle.cw_run.proofs.Reaching.{stays}
use Rattle.cw_cluster.specs.Breaking.{IsAlive}
use Rattle.cw_turns.specs.Going.{GoesOn, start_of}

-- one that was just opened
pub begins : {D : Type 0} (G : Ghosts D) (world : WorldState D) → IsAlive G world → HaveNames world.setting → GoesOn G (start_of G world) world
begins G world alive names = record {
  names = names;
  reached = stays world.setting world.state;
  setting = refl;
  name = refl;
  kinds = alive.kinds;
  tells = refl;
  later = λ disk. omega arith;
  broken = λ disk count is. absurd (let no : None ≡ Some (disk, count) = sym alive.alive ∙ is in cc);
}
