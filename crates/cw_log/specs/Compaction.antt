-- A log that takes the place of another (this project's own format): it is written whole behind its first gate, which
-- is closed, and that gate is opened last. So a stop leaves what was there, an unmade file, or the new log.
use Rattle.std.specs.Prelude.{◌≡◌, ◌≤◌, ◌<◌, ◌⊎◌, ℕ, List, [], ◌∷◌, ◌++◌, ◌-◌, ◌^◌, false, length, take, drop, map}
use Rattle.std.specs.Prelude.{Some, None, Vec}
use Rattle.std.specs.declared.alloc.Global.{Global}
use Rattle.cw_disk.specs.declared.device.Disk.{Ghosts}
use Rattle.cw_disk.specs.Told.{Told}
use Rattle.cw_log.specs.Log.{IsMade, IsSide, IsUnmade, bodies_at, byte_at, harm_of_file, number_of, places_of}
use Rattle.cw_log.specs.State.{IsKept, LogState}
use Rattle.cw_log.specs.declared.front.Front.{Front}
use Rattle.cw_log.specs.declared.front.Front.TheVariants.{Unmade, Made, Harmed}
use Rattle.cw_log.specs.declared.place.Frames.{Frames}
use Rattle.cw_log.specs.declared.fault.Harm.{Harm}
use Rattle.cw_log.specs.declared.fault.CompactFault.{CompactFault}
use Rattle.cw_log.specs.declared.fault.CompactFault.TheVariants.{Failed, Shut, Worn, Memory}

-- a made file without harm in its header, and its side number
pub record IsHeaded (kind number : ℕ) (file : List ℕ) : Type 0 where
  pub side : IsSide number file
  pub harmless : harm_of_file kind file ≡ None

-- a made file, and the harm of its header
pub record HasHeadHarm (kind : ℕ) (harm : Harm) (file : List ℕ) : Type 0 where
  pub long : 2 ≤ length file
  pub «open» : 0 < byte_at file 0
  pub found : harm_of_file kind file ≡ Some harm

-- what the front of a file says
abbrev pub IsFront : ℕ → Front → List ℕ → Type 0
IsFront kind Unmade file = IsUnmade file
IsFront kind (Made number) file = IsHeaded kind number file
IsFront kind (Harmed harm) file = HasHeadHarm kind harm file

-- the bodies that these vectors hold
abbrev pub bodies_in : List (Vec ℕ Global) → List (List ℕ)
bodies_in vectors = map (λ body. body.items) vectors

-- a file that was made, with any byte as its first gate
pub record IsRegated (file image : List ℕ) : Type 0 where
  pub long : 2 ≤ length file
  pub «open» : 0 < byte_at file 0
  pub behind : drop 1 image ≡ drop 1 file

-- a made log of these bodies, with this side number
pub record IsLogOf (kind number : ℕ) (bodies : List (List ℕ)) (file : List ℕ) : Type 0 where
  pub side : IsSide number file
  pub made : IsMade kind bodies file

-- what a stop leaves of a file in whose place a log of these bodies comes
abbrev pub IsReplaced : ℕ → ℕ → List (List ℕ) → List ℕ → List ℕ → Type 0
IsReplaced kind number bodies file image = IsRegated file image ⊎ IsUnmade image ⊎ IsLogOf kind number bodies image

-- the first gate is closed
abbrev pub IsClosed : List ℕ → Type 0
IsClosed file = take 1 file ≡ 0 ∷ []

-- a stop leaves the first gate closed, where the disk tells its content
abbrev pub LeavesClosed : {S : Type 0} → Ghosts S → S → Type 0
LeavesClosed D disk = Told D disk (λ file. (image : List ℕ) → D.may_leave disk image → IsClosed image)

-- the same file with its first gate open
abbrev pub with_gate_open : List ℕ → List ℕ
with_gate_open file = 1 ∷ drop 1 file

-- behind a first gate that is closed stands a log of these bodies, with these frames
pub record IsStaged (kind number : ℕ) (bodies : List (List ℕ)) (frames : Frames) (file : List ℕ) : Type 0 where
  pub closed : IsClosed file
  pub kept : IsKept kind frames.gate (places_of frames) (with_gate_open file)
  pub end : with_gate_open file ≡ take frames.gate (with_gate_open file) ++ 0 ∷ []
  pub list : bodies_at (places_of frames) (with_gate_open file) ≡ bodies
  pub side : number_of (with_gate_open file) ≡ number

-- no call has failed, and there is a next side number
pub record IsCompactable {D : Type 0} (log : LogState D) : Type 0 where
  pub alive : log.shut ≡ false
  pub low : log.number < 2 ^ 64 - 1

-- what each fault of a compaction says
abbrev pub OnCompactFault : (failed shut worn memory : Type 0) → CompactFault → Type 0
OnCompactFault failed shut worn memory Failed = failed
OnCompactFault failed shut worn memory Shut = shut
OnCompactFault failed shut worn memory Worn = worn
OnCompactFault failed shut worn memory Memory = memory
