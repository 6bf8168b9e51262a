-- A log that was opened and read in one pass: what was found is what its disks hold, and it has as many bodies and
-- bytes as were shown. This project's own.
use Rattle.std.specs.Prelude.{◌≡◌, ◌⊎◌, ℕ, Bool, true, false, List, Option, Some}
use Rattle.cw_types.specs.declared.logs.LogName.{LogName}
use Rattle.cw_bytes.specs.Unread.{Unread}
use Rattle.cw_bytes.specs.Reading.{Read}
use Rattle.cw_disk.specs.declared.device.Disk.{Ghosts}
use Rattle.cw_log.specs.State.{LogState}
use Rattle.cw_log.specs.Log.{IsSide, IsUnmade, StandsFor, kind_of}
use Rattle.cw_pair.specs.Pair.{IsRight, PairStandsFor}
use Rattle.cw_pair.specs.State.{PairState, bodies_of}
use Rattle.cw_model.specs.Bodies.{most_log}
use Rattle.cw_open.specs.FoundFrames.{FoundState, IsFoundIn}
use Rattle.cw_open.specs.OpenedFrom.{IsPairFrom, IsTopicFrom}
use Rattle.cw_open.specs.declared.opening.OpenedPair.{OpenedPair}
use Rattle.cw_open.specs.declared.opening.OpenedTopic.{OpenedTopic}

-- what was found is what a log tells of itself: its bodies, where it tells any, how many they are, how many bytes it
-- has and may have, and whether an append has failed; it can be written to
pub record IsReadLog {A : Type 0} (at : Unread → Read A) (found : FoundState A) (bodies : Option (List (List ℕ)))
    (size bytes limit : ℕ) (shut : Bool) : Type 0 where
  pub told : (own : List (List ℕ)) → bodies ≡ Some own → IsFoundIn at found own
  pub size_is : size ≡ found.count
  pub bytes_are : bytes ≡ found.size
  pub limit_is : limit ≡ most_log
  pub alive : shut ≡ false

-- the same of a log on one disk, and of one on two disks
abbrev pub IsReadTopic : {A D : Type 0} → (Unread → Read A) → FoundState A → LogState D → Type 0
IsReadTopic at found log = IsReadLog at found log.bodies log.count log.length log.limit log.shut

abbrev pub IsReadPair : {A D : Type 0} → (Unread → Read A) → Ghosts D → FoundState A → PairState D → Type 0
IsReadPair at D found pair =
    IsReadLog at found (bodies_of D pair) pair.log.count pair.log.length pair.log.limit pair.log.shut

-- the side number of a file, which is 1 where it isn't made
abbrev pub HasNumber : ℕ → List ℕ → Type 0
HasNumber number file = (IsUnmade file × (number ≡ 1)) ⊎ IsSide number file

-- the number of the side to open
abbrev pub IsNumbered : ℕ → (on_b : Bool) → (number : ℕ) → (a b : List ℕ) → Type 0
IsNumbered kind true number a b = IsRight kind true a b × HasNumber number b
IsNumbered kind false number a b = IsRight kind false a b × HasNumber number a

-- two files stand for bodies in which this was found, and this is the number of the side that was chosen
pub record HasPairFound
    {A : Type 0} (at : Unread → Read A) (kind number : ℕ) (found : FoundState A) (a b : List ℕ) : Type 0 where
  pub bodies : List (List ℕ)
  pub stands : PairStandsFor kind bodies a b
  pub on_b : Bool
  pub numbered : IsNumbered kind on_b number a b
  pub «in» : IsFoundIn at found bodies

-- a file stands for bodies in which this was found
pub record HasTopicFound {A : Type 0} (at : Unread → Read A) (kind : ℕ) (found : FoundState A) (file : List ℕ) : Type 0
  where
    pub bodies : List (List ℕ)
    pub stands : StandsFor kind bodies file
    pub «in» : IsFoundIn at found bodies

-- two disks were opened as the log of this name, and read
pub record OpensPair {A D : Type 0} (at : Unread → Read A) (G : Ghosts D) (name : LogName) (a b : D)
    (opened : OpenedPair D A) : Type 0 where
  pub log : IsReadPair at G opened.found opened.log
  pub files : (file_a file_b : List ℕ) → G.holds a ≡ Some file_a → G.holds b ≡ Some file_b →
      HasPairFound at (kind_of name) opened.log.log.number opened.found file_a file_b
  pub side : (file_a file_b : List ℕ) → G.holds a ≡ Some file_a → G.holds b ≡ Some file_b →
      IsRight (kind_of name) opened.log.on_b file_a file_b
  pub from : IsPairFrom G name a b opened.log

-- a disk was
pub record OpensTopic {A D : Type 0} (at : Unread → Read A) (G : Ghosts D) (name : LogName) (disk : D)
    (opened : OpenedTopic D A) : Type 0 where
  pub log : IsReadTopic at opened.found opened.log
  pub files : (file : List ℕ) → G.holds disk ≡ Some file → HasTopicFound at (kind_of name) opened.found file
  pub from : IsTopicFrom G name disk opened.log
