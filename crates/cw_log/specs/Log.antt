-- Which list of bodies a log file stands for (this project's own format). A header of 16 bytes: a gate, `CWL`,
-- version 1, the kind of the log, two bytes 0, the side number. Then frames: a gate, the length in four bytes,
-- the body. A gate is closed where it is 0. The list ends at the first closed gate, after which nothing counts.
-- Numbers are big-endian.
use Rattle.std.specs.Prelude.{◌≡◌, ◌≤◌, ◌<◌, ◌⊎◌, ◌==◌, ◌+◌, ◌-◌, ◌^◌, ℕ, zero, suc, List, [], ◌∷◌, ◌++◌, length, take}
use Rattle.std.specs.Prelude.{drop, map, not, Option, Some, None, if◌then◌else◌, nat_lt, slice_index_or}
use Rattle.std.specs.Int.{w32, w64, to_be_bytes, from_be_bytes}
use Rattle.cw_types.specs.declared.logs.LogName.{LogName}
use Rattle.cw_types.specs.declared.logs.LogName.TheVariants.{Config, Offsets, Status, Txn, Batches}
use Rattle.cw_log.specs.declared.fault.Harm.{Harm}
use Rattle.cw_log.specs.declared.fault.Harm.TheVariants.{Magic, Version, Kind, Header, SameSide, Length, Content}
use Rattle.cw_log.specs.declared.fault.Harm.TheVariants.{Unsafe}
use Rattle.cw_log.specs.declared.fault.OpenCause.{OpenCause}
use Rattle.cw_log.specs.declared.fault.OpenCause.TheVariants.{Damaged, Failed, Memory}
use Rattle.cw_log.specs.declared.place.Place.{Place}
use Rattle.cw_log.specs.declared.place.Frame.{Frame}
use Rattle.cw_log.specs.declared.place.Frames.{Frames}
use Rattle.cw_log.specs.declared.place.Frame.TheVariants.{Closed, Broken, Open}

-- the number of a log's kind
abbrev pub kind_of : LogName → ℕ
kind_of Config = 1
kind_of Offsets = 2
kind_of Status = 3
kind_of Txn = 4
kind_of Batches = 5

-- length and body
unfoldable pub field : List ℕ → List ℕ
field body = to_be_bytes w32 (length body) ++ body

-- the header behind its gate
unfoldable pub header : ℕ → ℕ → List ℕ
header kind side = 67 ∷ 87 ∷ 76 ∷ 1 ∷ kind ∷ 0 ∷ 0 ∷ to_be_bytes w64 side

-- what a frame can carry
pub record IsBody (body : List ℕ) : Type 0 where
  pub some : 0 < length body
  pub few : length body < 2 ^ 32

-- frames with open gates, whatever byte above 0 an open gate is
abbrev pub AreFrames : List (List ℕ) → List ℕ → Type 0
AreFrames [] bytes = bytes ≡ []
AreFrames (body ∷ bodies) bytes = (gate : ℕ) × (rest : List ℕ) × IsBody body × (bytes ≡ suc gate ∷ field body ++ rest) ×
    AreFrames bodies rest

abbrev pub byte_at : List ℕ → ℕ → ℕ
byte_at file i = slice_index_or file i 0

-- the side number, which bytes 8 to 15 of a header are
abbrev pub number_of : List ℕ → ℕ
number_of file = from_be_bytes w64 (map (byte_at file) (8 ∷ 9 ∷ 10 ∷ 11 ∷ 12 ∷ 13 ∷ 14 ∷ 15 ∷ []))

-- the file is made, and this is its side number
pub record IsSide (number : ℕ) (file : List ℕ) : Type 0 where
  pub long : 2 ≤ length file
  pub «open» : 0 < byte_at file 0
  pub side : number_of file ≡ number

-- the other file has the same header
abbrev pub HasHead : List ℕ → List ℕ → Type 0
HasHead file other = take 16 other ≡ take 16 file

-- the first harm of 16 bytes of header
abbrev pub harm_of_head : ℕ → List ℕ → Option Harm
harm_of_head kind head =
    if not (byte_at head 6 == 0) then Some Header else
    if not (byte_at head 7 == 0) then Some Header else
    if not (byte_at head 1 == 67) then Some Magic else
    if not (byte_at head 2 == 87) then Some Magic else
    if not (byte_at head 3 == 76) then Some Magic else
    if not (byte_at head 4 == 1) then Some Version else
    if not (byte_at head 5 == kind) then Some Kind else None

-- the header of a made log of this kind
pub record IsHead (kind : ℕ) (head : List ℕ) : Type 0 where
  pub size : length head ≡ 16
  pub «open» : 0 < byte_at head 0
  pub harmless : harm_of_head kind head ≡ None

-- a file that is unmade stands for no body
abbrev pub IsUnmade : List ℕ → Type 0
IsUnmade file = (length file ≤ 1) ⊎ (byte_at file 0 ≡ 0)

-- a made file: header, frames, a closed gate, and then anything
pub record IsMade (kind : ℕ) (bodies : List (List ℕ)) (file : List ℕ) : Type 0 where
  pub head : List ℕ
  pub front : List ℕ
  pub rest : List ℕ
  pub split : file ≡ head ++ front ++ 0 ∷ rest
  pub is_head : IsHead kind head
  pub frames : AreFrames bodies front

-- the file stands for these bodies
abbrev pub StandsFor : ℕ → List (List ℕ) → List ℕ → Type 0
StandsFor kind bodies file = (IsUnmade file × (bodies ≡ [])) ⊎ IsMade kind bodies file

-- the list before an append or after it
abbrev pub BeforeOrAfter : ℕ → List (List ℕ) → List ℕ → List ℕ → Type 0
BeforeOrAfter kind bodies body file = StandsFor kind bodies file ⊎ StandsFor kind (bodies ++ body ∷ []) file

-- the two files stand for one list
pub record StandAlike (kind : ℕ) (file other : List ℕ) : Type 0 where
  pub bodies : List (List ℕ)
  pub this : StandsFor kind bodies file
  pub that : StandsFor kind bodies other

-- the length that the bytes behind a gate say
abbrev pub length_in : List ℕ → ℕ
length_in bytes = from_be_bytes w32 (take 4 bytes)

-- a frame is due here, and the file ends, or the length of an open one is 0 or passes the end
abbrev pub IsBroken : List ℕ → Type 0
IsBroken [] = Unit {0}
IsBroken (zero ∷ bytes) = ⊥
IsBroken (suc gate ∷ bytes) = (length bytes < 4) ⊎ (length_in bytes ≡ 0) ⊎ (length bytes < 4 + length_in bytes)

-- the frames before this place are whole, and there it is broken
pub record BreaksAt (at : ℕ) (file : List ℕ) : Type 0 where
  pub bodies : List (List ℕ)
  pub head : List ℕ
  pub front : List ℕ
  pub rest : List ℕ
  pub split : file ≡ head ++ front ++ rest
  pub size : length head ≡ 16
  pub frames : AreFrames bodies front
  pub place : at ≡ 16 + length front
  pub broken : IsBroken rest

-- the first harm of a made file's header
abbrev pub harm_of_file : ℕ → List ℕ → Option Harm
harm_of_file kind file = if nat_lt (length file) 17 then Some Header else harm_of_head kind (take 16 file)

-- the first harm of a made file, and where
abbrev pub HasHarm : ℕ → List ℕ → ℕ → Harm → Type 0
HasHarm kind file at Length = (harm_of_file kind file ≡ None) × BreaksAt at file
HasHarm kind file at Magic = (harm_of_file kind file ≡ Some Magic) × (at ≡ 0)
HasHarm kind file at Version = (harm_of_file kind file ≡ Some Version) × (at ≡ 0)
HasHarm kind file at Kind = (harm_of_file kind file ≡ Some Kind) × (at ≡ 0)
HasHarm kind file at Header = (harm_of_file kind file ≡ Some Header) × (at ≡ 0)
HasHarm kind file at SameSide = ⊥
HasHarm kind file at Content = ⊥
HasHarm kind file at Unsafe = ⊥

-- the file is made, and this is its first harm
pub record IsDamaged (kind : ℕ) (file : List ℕ) (at : ℕ) (harm : Harm) : Type 0 where
  pub long : 2 ≤ length file
  pub «open» : 0 < byte_at file 0
  pub found : HasHarm kind file at harm

-- how many bytes a log of these bodies has, up to and with its closed gate
abbrev pub length_of : List (List ℕ) → ℕ
length_of [] = 17
length_of (body ∷ bodies) = (length body + 5) + length_of bodies

-- where the frames of these bodies begin, from this place on, and how long the bodies are
abbrev pub places_from : ℕ → List (List ℕ) → List Place
places_from at [] = []
places_from at (body ∷ bodies) = record { at = at; length = length body } ∷ places_from (at + (5 + length body)) bodies

-- where the frames lie that begin here, up to a gate: a body goes from five bytes behind its frame's begin to
-- the next begin, or to the gate
abbrev pub places_before : ℕ → List ℕ → List Place
places_before gate [] = []
places_before gate (start ∷ starts) =
    record { at = start; length = slice_index_or starts 0 gate - (start + 5) } ∷ places_before gate starts

-- where these frames lie
abbrev pub places_of : Frames → List Place
places_of frames = places_before frames.gate frames.starts.items

-- the bodies at these places
abbrev pub bodies_at : List Place → List ℕ → List (List ℕ)
bodies_at places file = map (λ place. take place.length (drop (place.at + 5) file)) places

-- a log that was just made
abbrev pub new_log : ℕ → List ℕ
new_log kind = 1 ∷ (header kind 1 ++ 0 ∷ [])

-- a made file, and the same up to and with its first closed gate
pub record EndsAtGate (file : List ℕ) (now : Option (List ℕ)) : Type 0 where
  pub bodies : List (List ℕ)
  pub head : List ℕ
  pub front : List ℕ
  pub rest : List ℕ
  pub size : length head ≡ 16
  pub frames : AreFrames bodies front
  pub split : file ≡ head ++ front ++ 0 ∷ rest
  pub now_is : now ≡ Some (head ++ front ++ 0 ∷ [])

-- What an opened log holds, and its side number: a new log of its kind with the number 1 where the file was unmade,
-- else the file up to and with its first closed gate.
abbrev pub OpensAs : ℕ → ℕ → List ℕ → Option (List ℕ) → Type 0
OpensAs kind number file now =
    (IsUnmade file × (now ≡ Some (new_log kind)) × (number ≡ 1)) ⊎ (IsSide number file × EndsAtGate file now)

-- what each cause says
abbrev pub OnCause : (damaged : ℕ → Harm → Type 0) → (failed memory : Type 0) → OpenCause → Type 0
OnCause damaged failed memory (Damaged at harm) = damaged at harm
OnCause damaged failed memory Failed = failed
OnCause damaged failed memory Memory = memory

-- what stands at a place where a frame is due: a closed gate, a broken frame, or a whole one with a body of this length
abbrev pub IsFrame : Frame → List ℕ → Type 0
IsFrame Closed bytes = (rest : List ℕ) × (bytes ≡ 0 ∷ rest)
IsFrame Broken bytes = IsBroken bytes
IsFrame (Open n) bytes = (gate : ℕ) × (rest : List ℕ) × (bytes ≡ suc gate ∷ (to_be_bytes w32 n ++ rest)) × (0 < n) ×
    (n < 2 ^ 32) × (n ≤ length rest)

-- the frames from the header up to this place, which are whole, and where they lie
pub record Begins (at : ℕ) (places : List Place) (file : List ℕ) : Type 0 where
  pub bodies : List (List ℕ)
  pub head : List ℕ
  pub front : List ℕ
  pub rest : List ℕ
  pub split : file ≡ head ++ front ++ rest
  pub size : length head ≡ 16
  pub frames : AreFrames bodies front
  pub places_are : places ≡ places_from 16 bodies
  pub place : at ≡ 16 + length front

-- a closed gate lies within so many bytes, and so does a whole open frame
abbrev pub EndsWithin : ℕ → Frame → Type 0
EndsWithin left Closed = 0 < left
EndsWithin left Broken = Unit {0}
EndsWithin left (Open n) = 5 + n ≤ left
