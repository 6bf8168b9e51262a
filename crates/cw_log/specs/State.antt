-- A log, as contracts see it: its list, how many bytes it has, and what a stop leaves of it.
use Rattle.std.specs.Prelude.{◌≡◌, ◌≤◌, ◌<◌, ◌+◌, ◌-◌, ◌^◌, ◌++◌, ◌∷◌, [], min, ℕ, List, Option, Some, None, Bool}
use Rattle.std.specs.Prelude.{false, length, take, vec_capacity, vec_len, Vec}
use Rattle.std.specs.declared.alloc.Global.{Global}
use Rattle.cw_disk.specs.Disk.{Only}
use Rattle.cw_types.specs.Faults.{Rose}
use Rattle.cw_log.specs.Calls.{IsAhead}
use Rattle.cw_log.specs.Log.{IsHead, Begins, StandsFor, bodies_at, number_of, places_of}
use Rattle.cw_log.specs.declared.place.Place.{Place}
use Rattle.cw_log.specs.declared.place.Frames.{Frames}
use Rattle.cw_log.specs.declared.window.Window.{Window}
use Rattle.cw_log.specs.declared.fault.AppendFault.{AppendFault}
use Rattle.cw_log.specs.declared.fault.AppendFault.TheVariants.{Failed, Full, Shut, Memory}
use Rattle.cw_log.specs.declared.fault.ReadFault.{ReadFault}
use Rattle.cw_log.specs.declared.fault.ReadFault.TheVariants as reads
use Rattle.cw_log.specs.declared.fault.OpenCause.{OpenCause}
use Rattle.cw_log.specs.declared.fault.OpenCause.TheVariants as opens

pub record LogState (D : Type 0) : Type 0 where
  pub disk : D
  -- the number of its kind
  pub kind : ℕ
  -- its side number
  pub number : ℕ
  -- the list, where the disk tells its content
  pub bodies : Option (List (List ℕ))
  -- how many bodies, how many bytes up to and with the closed gate, and how many bytes it may have
  pub count : ℕ
  pub length : ℕ
  pub limit : ℕ
  -- an append of a body of at most so many bytes takes no memory
  pub ready : ℕ
  -- an append has failed
  pub shut : Bool
  -- the side and the count of faults behind the last call that failed
  pub failed : Option (ℕ × ℕ)

-- the same log: the list, its numbers and its state, with another disk and more or less room
pub record IsSameLog {D : Type 0} (old new : LogState D) : Type 0 where
  pub kind : new.kind ≡ old.kind
  pub number : new.number ≡ old.number
  pub bodies : new.bodies ≡ old.bodies
  pub count : new.count ≡ old.count
  pub length : new.length ≡ old.length
  pub limit : new.limit ≡ old.limit
  pub shut : new.shut ≡ old.shut
  pub failed : new.failed ≡ old.failed

-- the same list, its numbers and its state; the last failure may be another
pub record HasSameList {D : Type 0} (old new : LogState D) : Type 0 where
  pub kind : new.kind ≡ old.kind
  pub number : new.number ≡ old.number
  pub bodies : new.bodies ≡ old.bodies
  pub count : new.count ≡ old.count
  pub length : new.length ≡ old.length
  pub limit : new.limit ≡ old.limit
  pub shut : new.shut ≡ old.shut
  pub ready : new.ready ≡ old.ready

-- no append has failed, and a body of so many bytes has room below the limit
pub record IsAppendable {D : Type 0} (body : ℕ) (log : LogState D) : Type 0 where
  pub alive : log.shut ≡ false
  pub fits : log.length + (body + 5) ≤ log.limit

-- the same of any log
pub record IsFitting (body : ℕ) (shut : Bool) (bytes limit : ℕ) : Type 0 where
  pub alive : shut ≡ false
  pub fits : bytes + (body + 5) ≤ limit

-- the last failure is that of a side whose disk's count of faults rose to what is told
pub record FailedOn (before now : ℕ → ℕ) (last : Option (ℕ × ℕ)) : Type 0 where
  pub side : ℕ
  pub last_is : last ≡ Some (side, now side)
  pub rose : Rose (before side) (now side)

-- the file begins with the header of this kind and with the frames at these places
pub record IsKept (kind gate : ℕ) (places : List Place) (file : List ℕ) : Type 0 where
  pub begins : Begins gate places file
  pub is_head : IsHead kind (take 16 file)

-- a closed gate ends the file, and nothing is pending
pub record IsRest (gate : ℕ) (may_leave : List ℕ → Type 0) (file : List ℕ) : Type 0 where
  pub end : file ≡ take gate file ++ 0 ∷ []
  pub only : Only file may_leave

-- the list of the old file is that of the new one
pub record OpensTo (kind : ℕ) (places : List Place) (now : Option (List ℕ)) (file : List ℕ) : Type 0 where
  pub new : List ℕ
  pub told : now ≡ Some new
  pub stands : StandsFor kind (bodies_at places new) file

-- the other file begins with the same bytes
abbrev pub HasFront : ℕ → List ℕ → List ℕ → Type 0
HasFront n file other = take n other ≡ take n file

-- what is known of where frames begin, if anything, is where they do
abbrev pub IsKnown : Option (Vec ℕ Global) → List ℕ → Type 0
IsKnown None starts = Unit {0}
IsKnown (Some known) starts = known.items ≡ starts

-- it is known where the frames begin
abbrev pub IsFound : Option (Vec ℕ Global) → List ℕ → Type 0
IsFound None starts = ⊥
IsFound (Some known) starts = known.items ≡ starts

-- one begin more takes no memory
abbrev pub HasPlace : Option (Vec ℕ Global) → Type 0
HasPlace None = Unit {0}
HasPlace (Some known) = vec_len known < vec_capacity known

-- the same frames; there is room for one more where there was
pub record KeepsFrames (old new : Frames) : Type 0 where
  pub starts : new.starts.items ≡ old.starts.items
  pub gate : new.gate ≡ old.gate
  pub room : HasPlace old.known → HasPlace new.known

-- there is room for a body of so many bytes, as far as numbers go
pub record HasRoom {D : Type 0} (reserved : D → ℕ) (disk : D) (ready : ℕ) (frames : Frames) (tail : Vec ℕ Global)
    : Type 0 where
  pub frame : min (ready + 5) (2 ^ 64 - 1) ≤ vec_capacity tail
  pub place : HasPlace frames.known
  pub bytes : min (frames.gate + 1 + (ready + 5)) (2 ^ 64 - 1) ≤ reserved disk

-- what each fault of an append says
abbrev pub OnAppendFault : (failed : Type 0) → (full : ℕ → ℕ → Type 0) → (shut memory : Type 0) → AppendFault → Type 0
OnAppendFault failed full shut memory Failed = failed
OnAppendFault failed full shut memory (Full length frame) = full length frame
OnAppendFault failed full shut memory Shut = shut
OnAppendFault failed full shut memory Memory = memory

-- what each fault of a read says
abbrev pub OnReadFault : (failed memory : Type 0) → ReadFault → Type 0
OnReadFault failed memory reads.Failed = failed
OnReadFault failed memory reads.Memory = memory

-- why a log is not opened of which a part could not be read
abbrev pub cause_of_read : ReadFault → OpenCause
cause_of_read reads.Failed = opens.Failed
cause_of_read reads.Memory = opens.Memory

-- what a log keeps of itself
pub record IsLog {D : Type 0} (holds : D → Option (List ℕ)) (may_leave : D → List ℕ → Type 0) (reserved : D → ℕ)
    (disk : D) (kind number ready : ℕ) (frames : Frames) (tail : Vec ℕ Global) (ahead : Option Window) (shut : Bool)
    : Type 0 where
  pub kept : (file : List ℕ) → holds disk ≡ Some file → IsKept kind frames.gate (places_of frames) file
  pub rest : shut ≡ false → (file : List ℕ) → holds disk ≡ Some file → IsRest frames.gate (may_leave disk) file
  pub known : (file : List ℕ) → holds disk ≡ Some file → IsKnown frames.known frames.starts.items
  pub side : (file : List ℕ) → holds disk ≡ Some file → number_of file ≡ number
  pub low : 16 ≤ frames.gate
  pub high : frames.gate + 1 < 2 ^ 64
  pub room : 0 < ready → HasRoom reserved disk ready frames tail
  pub ahead_is : IsAhead (holds disk) ahead

-- one of these images stands for the list
pub record StandsSince (kind : ℕ) (images : List ℕ → Type 0) (list : List (List ℕ)) : Type 0 where
  pub image : List ℕ
  pub left : images image
  pub stands : StandsFor kind list image
