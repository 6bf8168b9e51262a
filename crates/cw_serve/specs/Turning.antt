-- What a turn under the lock comes to. Want of memory stops the server; other faults are dropped, and a disk that
-- failed has closed the world. This project's own; Kafka's cleaner compacts a log, too, once enough of it is new.
use Rattle.std.specs.Prelude.{◌≡◌, ◌≢◌, ◌<◌, ◌≤◌, ◌⊎◌, ◌-◌, ◌/◌, ◌&&◌, ◌^◌, ℕ, Bool, true, false, not, nat_lt}
use Rattle.std.specs.Prelude.{List, length, slice_index, EachIndex, Result, Ok, Err}
use Rattle.cw_disk.specs.declared.device.Disk.{Ghosts}
use Rattle.cw_model.specs.declared.did.Did.{Did}
use Rattle.cw_model.specs.declared.did.Did.TheVariants as did
use Rattle.cw_model.specs.declared.fault.WorldFault.{WorldFault}
use Rattle.cw_model.specs.declared.fault.WorldFault.TheVariants as fault
use Rattle.cw_model.specs.declared.tick.Tick.{Tick}
use Rattle.cw_model.specs.declared.tick.Tick.TheVariants as tick
use Rattle.cw_model.specs.EventsWorkers.{expire}
use Rattle.cw_model.specs.Tick.{tick as ticks}
use Rattle.cw_world.specs.Moments.{at_moment}
use Rattle.cw_world.specs.World.{WorldState, Acts, Does}
use Rattle.cw_serve.specs.declared.shared.Stop.TheVariants as stop
use Rattle.cw_serve.specs.declared.stepping.Stepped.{Stepped}
use Rattle.cw_serve.specs.declared.stepping.Stepped.TheVariants as stepped
use Rattle.cw_serve.specs.declared.turns.Cleaned.{Cleaned}
use Rattle.cw_serve.specs.declared.turns.Cleaned.TheVariants as cleaned
use Rattle.cw_serve.specs.declared.turns.Herded.{Herded}
use Rattle.cw_serve.specs.declared.turns.Herded.TheVariants as herded
use Rattle.cw_serve.specs.Sharing.{SharedState, first_stop}

-- the world acted, and the turn tells what that came to: the first want of memory is kept, and nothing else has changed
pub record Lets {D A R : Type 0} (Acted : WorldState D → WorldState D → Result A WorldFault → Type 0)
    (tell : Result A WorldFault → R) (old new : SharedState D) (result : R) : Type 0 where
  pub came : Result A WorldFault
  pub acted : Acted old.world new.world came
  pub told : result ≡ tell came
  pub wants : came ≡ Err fault.Memory → new.stop ≡ first_stop old.stop stop.Memory
  pub keeps : came ≢ Err fault.Memory → new.stop ≡ old.stop
  pub rest : new ≡ record old { world = new.world; stop = new.stop }

-- ---- a task's step

-- whether it did something
abbrev pub step_told : Did → Stepped
step_told did.AtEnd = stepped.Idle
step_told did.Paused = stepped.Idle
step_told (did.Stale own current) = stepped.Idle
step_told did.Pending = stepped.Idle
step_told did.Gone = stepped.Idle
step_told did.Failed = stepped.Idle
step_told other = stepped.Done

abbrev pub step_came : Result Did WorldFault → Stepped
step_came (Ok did) = step_told did
step_came (Err fault) = stepped.Refused

-- ---- a herder's turn

-- whether a tick did something
abbrev pub tick_came : Result Tick WorldFault → Herded
tick_came (Ok tick.Idle) = herded.Idle
tick_came (Ok tick.Dead) = herded.Idle
tick_came (Ok other) = herded.Ticked
tick_came (Err fault) = herded.Idle

abbrev pub expiry_came : {A : Type 0} → Result A WorldFault → Herded
expiry_came (Ok done) = herded.Expired
expiry_came (Err fault) = herded.Idle

-- how long a member may be without a tick, in milliseconds (Kafka Connect's session.timeout.ms)
abbrev pub session : ℕ
session = 10000

-- whether a worker's last tick is too long ago
abbrev pub is_late : (now : ℕ) → (moments : List ℕ) → (w : ℕ) → Bool
is_late now moments w = nat_lt w (length moments) && nat_lt session (now - slice_index moments w)

-- a worker's tick was noted, which takes nothing back; where it comes too late itself, all were
pub record Notes (w now : ℕ) (old new : List ℕ) : Type 0 where
  pub count : length new ≡ length old
  pub all : is_late now old w ≡ true → EachIndex new (λ v. slice_index new v ≡ now)
  pub own : is_late now old w ≡ false → w < length old →
      (now ≤ slice_index new w) × (slice_index old w ≤ slice_index new w)
  pub others : is_late now old w ≡ false → (v : ℕ) → v ≢ w → slice_index new v ≡ slice_index old v

-- at a time the group let a member go that is late, or the worker ticked
pub record Herds {D : Type 0} (G : Ghosts D) (w now : ℕ) (old new : SharedState D) (result : Herded) : Type 0 where
  pub notes : Notes w now old.moments new.moments
  pub turn :
      Lets (λ before after came. Acts G (ticks w) (at_moment now before) after came) tick_came
      (record old { moments = new.moments }) new result ⊎
      ((m : ℕ) × (is_late now new.moments m ≡ true) ×
      Lets (λ before after came. Does (expire before.setting m) (at_moment now before) after came) expiry_came
      (record old { moments = new.moments }) new result)

-- ---- the cleaner's turn

-- a log is worth compacting that is long, and twice as long as it was behind its last compaction
abbrev pub is_worth : (last bytes : ℕ) → Bool
is_worth last bytes = not (nat_lt bytes (2 ^ 20)) && not (nat_lt (bytes / 2) last)

-- how long a log is behind its compaction
abbrev pub compaction_came : {A : Type 0} → (bytes : ℕ) → Result A WorldFault → Cleaned
compaction_came bytes (Ok counts) = cleaned.Compacted bytes
compaction_came bytes (Err fault) = cleaned.Idle
