-- A log on two sides, as contracts see it, and what a stop leaves of both disks.
use Rattle.std.specs.Prelude.{◌≡◌, ◌⊎◌, ◌==◌, ℕ, List, [], ◌∷◌, Option, Some, None, Bool, true, false, drop}
use Rattle.std.specs.Prelude.{if◌then◌else◌}
use Rattle.cw_disk.specs.declared.device.Disk.{Ghosts}
use Rattle.cw_disk.specs.Disk.{Only}
use Rattle.cw_disk.specs.Told.{ReadsOf}
use Rattle.cw_log.specs.Log.{OpensAs}
use Rattle.cw_log.specs.State.{LogState}
use Rattle.cw_pair.specs.Pair.{IsBehind, PairStandsFor, PairsStandAlike}

-- the disks of side a and side b
pub record Sides (D : Type 0) : Type 0 where
  pub a : D
  pub b : D

-- the two disks, where the chosen one is that of side b or that of side a
abbrev pub sides_of : {D : Type 0} → Bool → D → D → Sides D
sides_of true chosen other = record { a = other; b = chosen }
sides_of false chosen other = record { a = chosen; b = other }

-- a log on two sides
pub record PairState (D : Type 0) : Type 0 where
  -- the chosen side, the other disk, and whether side b is the chosen one
  pub log : LogState D
  pub other : D
  pub on_b : Bool
  -- the disks as they were where a call began, the oldest first
  pub past : List (Sides D)
  -- the side and the count of faults behind the last call that failed
  pub failed : Option (ℕ × ℕ)

-- its disks
abbrev pub disks_of : {D : Type 0} → PairState D → Sides D
disks_of pair = sides_of pair.on_b pair.log.disk pair.other

-- the list of the chosen side, where the other side's disk tells its content too
abbrev pub told_with : Option (List ℕ) → Option (List (List ℕ)) → Option (List (List ℕ))
told_with None bodies = None
told_with (Some file) bodies = bodies

-- the bodies, where both disks tell their content
abbrev pub bodies_of : {D : Type 0} → Ghosts D → PairState D → Option (List (List ℕ))
bodies_of D pair = told_with (D.holds pair.other) pair.log.bodies

-- the number of the side: 0 is side a, 1 is side b
abbrev pub side_of : Bool → ℕ
side_of true = 1
side_of false = 0

-- the count of faults of a side's disk
abbrev pub faults_of : {D : Type 0} → Ghosts D → Sides D → ℕ → ℕ
faults_of D disks side = if side == 0 then D.count disks.a else D.count disks.b

-- the same list on the same side, and the same last failure
pub record HasSamePair {D : Type 0} (old new : PairState D) : Type 0 where
  pub log : new.log ≡ old.log
  pub on_b : new.on_b ≡ old.on_b
  pub failed : new.failed ≡ old.failed

-- two images that a stop now may leave
pub record MayLeave {D : Type 0} (may_leave : D → List ℕ → Type 0) (disks : Sides D) (image_a image_b : List ℕ)
    : Type 0 where
  pub a : may_leave disks.a image_a
  pub b : may_leave disks.b image_b

-- two images that a stop at some moment between may have left, one disk or the other having moved
pub record LeftBetween {D : Type 0} (moment : D → ℕ) (left_since : D → ℕ → List ℕ → Type 0) (old new : Sides D)
    (image_a image_b : List ℕ) : Type 0 where
  pub a : left_since new.a (moment old.a) image_a
  pub b : left_since new.b (moment old.b) image_b

-- the disks at the first of these moments, or now
abbrev pub first_of : {D : Type 0} → List (Sides D) → Sides D → Sides D
first_of [] now = now
first_of (disks ∷ past) now = disks

-- a stop between two moments that follow one another, up to now, may have left them
abbrev pub HadLeft : {D : Type 0} → (D → ℕ) → (D → ℕ → List ℕ → Type 0) → List (Sides D) → Sides D → List ℕ → List ℕ →
    Type 0
HadLeft moment left_since [] now image_a image_b = ⊥
HadLeft moment left_since (disks ∷ past) now image_a image_b =
    LeftBetween moment left_since disks (first_of past now) image_a image_b ⊎
    HadLeft moment left_since past now image_a image_b

-- a stop since this moment, or now, may have left two images that stand for the list
pub record PairStandsSince {D : Type 0} (may_leave : D → List ℕ → Type 0) (moment : D → ℕ)
    (left_since : D → ℕ → List ℕ → Type 0) (kind : ℕ) (past : List (Sides D)) (now : Sides D) (t : ℕ)
    (list : List (List ℕ)) : Type 0 where
  pub a : List ℕ
  pub b : List ℕ
  pub left : MayLeave may_leave now a b ⊎ HadLeft moment left_since (drop t past) now a b
  pub stands : PairStandsFor kind list a b

-- the same of a pair
abbrev pub StandsSince : {D : Type 0} → Ghosts D → PairState D → ℕ → List (List ℕ) → Type 0
StandsSince D pair t list =
    PairStandsSince D.may_leave D.moment D.left_since pair.log.kind pair.past (disks_of pair) t list

-- what a pair keeps of the other disk: nothing is pending on it, and its header is behind that of the log
pub record IsPair {D : Type 0} (holds : D → Option (List ℕ)) (may_leave : D → List ℕ → Type 0) (log : LogState D)
    (other : D) : Type 0 where
  pub settled : log.shut ≡ false → (file : List ℕ) → holds other ≡ Some file → Only file (may_leave other)
  pub behind : log.shut ≡ false → (bodies : List (List ℕ)) → log.bodies ≡ Some bodies → (file : List ℕ) →
      holds other ≡ Some file → IsBehind log.kind log.number file

-- both disks are only read up to some moment, and a stop behind it leaves two files that stand for the same list
pub record OpensOf {D : Type 0} (holds : D → Option (List ℕ)) (may_leave : D → List ℕ → Type 0) (moment : D → ℕ)
    (left_since : D → ℕ → List ℕ → Type 0) (count reserved : D → ℕ) (kind : ℕ) (a b : List ℕ) (old new : Sides D)
    : Type 0 where
  pub read : Sides D
  pub reads_a : ReadsOf holds may_leave moment left_since count reserved old.a read.a
  pub reads_b : ReadsOf holds may_leave moment left_since count reserved old.b read.b
  pub alike : (image_a image_b : List ℕ) → LeftBetween moment left_since read new image_a image_b →
      MayLeave may_leave old image_a image_b ⊎ PairsStandAlike kind a b image_a image_b

abbrev pub Opens : {D : Type 0} → Ghosts D → ℕ → List ℕ → List ℕ → Sides D → Sides D → Type 0
Opens D kind a b old new =
    OpensOf D.holds D.may_leave D.moment D.left_since D.count D.reserved kind a b old new

-- what the disks hold behind an opening: the chosen one as its log opens it, the other one what it held
abbrev pub OpensPairAs : ℕ → Bool → ℕ → List ℕ → List ℕ → Option (List ℕ) → Option (List ℕ) → Type 0
OpensPairAs kind true number a b chosen other = OpensAs kind number b chosen × (other ≡ Some a)
OpensPairAs kind false number a b chosen other = OpensAs kind number a chosen × (other ≡ Some b)
