-- The memory half of an event that is written to a log: first its tests are made and all its memory is taken, which
-- changes nothing, and once its body stands in the log the state changes, which can't want memory.
use Rattle.std.specs.Prelude.{◌≡◌, ◌≢◌, ◌≤◌, ℕ, true, false, List, [], ◌∷◌, ◌++◌, length, None, Ok, Err}
use Rattle.cw_types.specs.declared.logs.LogName.{LogName}
use Rattle.cw_types.specs.declared.logs.LogName.TheVariants.{Config, Offsets, Status, Txn, Batches}
use Rattle.cw_model.specs.declared.fault.WorldFault.{WorldFault}
use Rattle.cw_model.specs.declared.fault.WorldFault.TheVariants.{Full, Memory}
use Rattle.cw_model.specs.State.{Cluster, Paired}
use Rattle.cw_model.specs.Answers.{Answer, refused}
use Rattle.cw_model.specs.Bodies.{config_length, offsets_length, status_length, txn_length, data_length, frame_of}
use Rattle.cw_model.specs.Bodies.{has_room}
use Rattle.cw_model.specs.Reopening.{stored_of}
use Rattle.cw_model.specs.StandsFor.{Stored}
use Rattle.cw_rows.specs.Kept.{Kept, HasSameLogs}

-- how many bytes a log has
abbrev pub bytes_in : LogName → Cluster → ℕ
bytes_in Config s = config_length s
bytes_in Offsets s = offsets_length s
bytes_in Status s = status_length s
bytes_in Txn s = txn_length s
bytes_in Batches s = data_length s

-- a log of two sides with a body more
abbrev pub with_frame : List ℕ → Paired (List ℕ) → Paired (List ℕ)
with_frame body log = record { frames = log.frames ++ body ∷ []; side = log.side }

-- these logs, one of them with a body more
abbrev pub with_body : LogName → List ℕ → Stored → Stored
with_body Config body stored = record stored { config = with_frame body stored.config }
with_body Offsets body stored = record stored { offsets = with_frame body stored.offsets }
with_body Status body stored = record stored { status = with_frame body stored.status }
with_body Txn body stored = record stored { txn = stored.txn ++ body ∷ [] }
with_body Batches body stored = record stored { batches = stored.batches ++ body ∷ [] }

-- an event that has room: it is done, and its log has the body
pub record IsWritten {A : Type 0} (log : LogName) (event : Cluster → Answer A) (body : List ℕ) (s : Cluster) : Type 0
  where
    pub answer : A
    pub done : (event s).0 ≡ Ok answer
    pub stored : stored_of (event s).1 ≡ with_body log body (stored_of s)

-- an event is to write this body: where there is no room the log is full, else it is written
pub record IsDue {A : Type 0} (log : LogName) (event : Cluster → Answer A) (body : List ℕ) (s : Cluster) : Type 0 where
  pub some : 1 ≤ length body
  pub alive : s.closed ≡ None
  pub full : has_room (bytes_in log s) (frame_of body) ≡ false →
      event s ≡ refused (Full log (bytes_in log s) (frame_of body)) s
  pub room : has_room (bytes_in log s) (frame_of body) ≡ true → IsWritten log event body s

-- all memory of an event was taken; nothing has changed
pub record Readies {A : Type 0} (log : LogName) (event : Cluster → Answer A) (body : List ℕ) (old new : Kept) : Type 0
  where
    pub due : IsDue log event body old.state
    pub state : new.state ≡ old.state
    pub setting : new.setting ≡ old.setting

-- an event is refused, or memory is wanting and nothing has changed
pub record Refuses {A : Type 0} (event : Cluster → Answer A) (fault : WorldFault) (old new : Kept) : Type 0 where
  pub row : fault ≢ Memory → event old.state ≡ (Err fault, new.state)
  pub wants : fault ≡ Memory → new.state ≡ old.state
  pub setting : new.setting ≡ old.setting
  pub logs : HasSameLogs old.state new.state

-- what stands in the log is put in
pub record Puts {A : Type 0} (event : Cluster → Answer A) (answer : A) (old new : Kept) : Type 0 where
  pub row : event old.state ≡ (Ok answer, new.state)
  pub setting : new.setting ≡ old.setting
  pub closed : new.state.closed ≡ old.state.closed
