-- A server's world goes on from itself.
use Rattle.cw_disk.specs.declared.device.Disk.{Ghosts}
use Rattle.cw_world.specs.World.{WorldState}
use Rattle.cw_cluster.specs.Breaking.{IsAlive}
use Rattle.cw_run.specs.Reaches.{HaveNames}
use Rattle.cw_turns.specs.Going.{GoesOn, start_of}
use Rattle.cw_turns.proofs.Begun.{begins}

pub begun : {D : Type 0} (G : Ghosts D) (world : WorldState D) → IsAlive G world → HaveNames world.setting → GoesOn G (start_of G world) world
begun G world alive names = begins G world alive names
