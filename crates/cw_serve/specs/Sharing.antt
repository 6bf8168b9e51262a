-- What lies under the lock of a server: a world that goes on from where the server began, with its workers, and what
-- stops the server's threads. This project's own.
use Rattle.std.specs.Prelude.{◌≡◌, ◌≢◌, ◌<◌, ◌≤◌, ◌&&◌, ℕ, Bool, true, false, not, List, length, slice_index}
use Rattle.std.specs.Prelude.{Option, None, Some, is_some}
use Rattle.cw_disk.specs.declared.device.Disk.{Ghosts}
use Rattle.cw_model.specs.State.{Cluster}
use Rattle.cw_model.specs.Lookups.{row_of}
use Rattle.cw_world.specs.World.{WorldState}
use Rattle.cw_turns.specs.Going.{Start, GoesOn}
use Rattle.cw_serve.specs.declared.shared.Stop.{Stop}

-- ---- what is seen of it

-- the world, whether all links were accepted, the first stop, when each worker ticked last, in milliseconds, and of the
-- board how many records of the config log were given to it for each worker, and whether some of these aren't published
pub record SharedState (D : Type 0) : Type 0 where
  pub world : WorldState D
  pub ended : Bool
  pub stop : Option Stop
  pub moments : List ℕ
  pub given : List ℕ
  pub lacks : Bool

-- herders, task runners and the cleaner go on: not all links were accepted, none of them stopped all, no disk failed
abbrev pub goes_on : {D : Type 0} → SharedState D → Bool
goes_on s = not s.ended && not (is_some s.stop) && not (is_some s.world.state.closed)

-- the first stop is kept
abbrev pub first_stop : Option Stop → Stop → Option Stop
first_stop None why = Some why
first_stop (Some first) why = Some first

-- all of them were stopped
abbrev pub stopped_for : {D : Type 0} → Stop → SharedState D → SharedState D
stopped_for why s = record s { stop = first_stop s.stop why }

-- What one of so many workers has read of the config log was published, as far as there was memory: where nothing is
-- lacking behind it, all that the worker has read is. Nothing else has changed.
pub record Publishes {D : Type 0} (workers w : ℕ) (old new : SharedState D) : Type 0 where
  pub rest : new ≡ record old { given = new.given; lacks = new.lacks }
  pub others : (v : ℕ) → v ≢ w → slice_index new.given v ≡ slice_index old.given v
  pub all : w < workers → new.lacks ≡ false → slice_index new.given w ≡ (row_of w new.world.state).prefix
  pub none : workers ≤ w → new ≡ old

-- ---- what is always so of it

-- the workers of these numbers live
abbrev pub AreLive : ℕ → Cluster → Type 0
AreLive workers s = (w : ℕ) → w < workers → (row_of w s).live ≡ true

-- the world goes on, its workers live, and the book has counted its journal
pub record IsShared {D : Type 0} (G : Ghosts D) (start : Start) (workers total : ℕ) (world : WorldState D)
    : Type 0 where
  pub goes_on : GoesOn G start world
  pub live : AreLive workers world.state
  pub counted : length world.state.journal ≡ total

-- a list that is empty has room for a receipt of each entry
pub record HasRoom (s : Cluster) (used capacity : ℕ) : Type 0 where
  pub unused : used ≡ 0
  pub room : length s.journal ≤ capacity
