-- An event at a time: the moment first becomes the later of the two, and then the event is made.
use Rattle.std.specs.Prelude.{ℕ}
use Rattle.cw_model.specs.EventsWorkers.{clock}
use Rattle.cw_world.specs.World.{WorldState}

-- the world once its clock was set
abbrev pub at_moment : {D : Type 0} → ℕ → WorldState D → WorldState D
at_moment now world = record world { state = (clock now world.state).1 }
