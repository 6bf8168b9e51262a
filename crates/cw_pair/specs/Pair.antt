-- Which list two files stand for (this project's own format): that of the made one with the greatest side number. Where
-- neither is made, it is the empty list.
use Rattle.std.specs.Prelude.{◌≡◌, ◌<◌, ◌⊎◌, ℕ, List, [], Bool, true, false}
use Rattle.cw_log.specs.Log.{BreaksAt, IsMade, IsSide, IsUnmade}
use Rattle.cw_log.specs.Compaction.{HasHeadHarm, IsHeaded}
use Rattle.cw_log.specs.declared.fault.Harm.{Harm}
use Rattle.cw_log.specs.declared.fault.Harm.TheVariants.{SameSide, Length}

-- a side beside one of this number, by its header: unmade, or with a lower number
abbrev pub IsBehind : ℕ → ℕ → List ℕ → Type 0
IsBehind kind number file = IsUnmade file ⊎ ((lower : ℕ) × (lower < number) × IsHeaded kind lower file)

-- the one side has the greatest number, and its list is this one
pub record IsChosen (kind : ℕ) (bodies : List (List ℕ)) (file other : List ℕ) : Type 0 where
  pub number : ℕ
  pub side : IsSide number file
  pub made : IsMade kind bodies file
  pub behind : IsBehind kind number other

-- the list is that of the one file, beside the other
abbrev pub StandsBeside : ℕ → List (List ℕ) → List ℕ → List ℕ → Type 0
StandsBeside kind bodies file other =
    (IsUnmade file × IsUnmade other × (bodies ≡ [])) ⊎ IsChosen kind bodies file other

-- the two files stand for these bodies
abbrev pub PairStandsFor : ℕ → List (List ℕ) → List ℕ → List ℕ → Type 0
PairStandsFor kind bodies a b = StandsBeside kind bodies a b ⊎ StandsBeside kind bodies b a

-- two files stand for one list, beside a third one
pub record StandAlikeBeside (kind : ℕ) (other file image : List ℕ) : Type 0 where
  pub bodies : List (List ℕ)
  pub this : StandsBeside kind bodies file other
  pub that : StandsBeside kind bodies image other

-- two pairs of files stand for one list
pub record PairsStandAlike (kind : ℕ) (a b image_a image_b : List ℕ) : Type 0 where
  pub bodies : List (List ℕ)
  pub this : PairStandsFor kind bodies a b
  pub that : PairStandsFor kind bodies image_a image_b

-- no harm in its header, if it is made
abbrev pub IsSound : ℕ → List ℕ → Type 0
IsSound kind file = IsUnmade file ⊎ ((number : ℕ) × IsHeaded kind number file)

-- both sides are made with one number
pub record HaveOneNumber (kind : ℕ) (file other : List ℕ) : Type 0 where
  pub number : ℕ
  pub this : IsHeaded kind number file
  pub that : IsHeaded kind number other

-- the first harm of the headers is of this side: 0 is side a, 1 is side b, of which one number on both is answered
abbrev pub IsHeadDamaged : ℕ → List ℕ → List ℕ → ℕ → Harm → Type 0
IsHeadDamaged kind a b side harm =
    ((side ≡ 0) × HasHeadHarm kind harm a) ⊎
    ((side ≡ 1) × IsSound kind a × HasHeadHarm kind harm b) ⊎
    ((side ≡ 1) × (harm ≡ SameSide) × HaveOneNumber kind a b)

-- the one side has the greatest number, by the headers
pub record IsGreatest (kind : ℕ) (file other : List ℕ) : Type 0 where
  pub number : ℕ
  pub head : IsHeaded kind number file
  pub behind : IsBehind kind number other

-- this file is the one to open, by the headers: it has the greatest number, or neither is made
abbrev pub IsFirst : ℕ → List ℕ → List ℕ → Type 0
IsFirst kind file other = (IsUnmade file × IsUnmade other) ⊎ IsGreatest kind file other

-- side b is the one to open, or side a, which is made where neither is
abbrev pub IsRight : ℕ → Bool → List ℕ → List ℕ → Type 0
IsRight kind true a b = IsGreatest kind b a
IsRight kind false a b = IsFirst kind a b

-- the side with the greatest number breaks here
pub record BreaksBeside (kind at : ℕ) (file other : List ℕ) : Type 0 where
  pub greatest : IsGreatest kind file other
  pub breaks : BreaksAt at file

-- the first harm of a pair, its place and its side: of the headers, else of the frames of the chosen side
abbrev pub IsPairDamaged : ℕ → List ℕ → List ℕ → ℕ → ℕ → Harm → Type 0
IsPairDamaged kind a b side at harm =
    ((at ≡ 0) × IsHeadDamaged kind a b side harm) ⊎
    ((side ≡ 0) × (harm ≡ Length) × BreaksBeside kind at a b) ⊎
    ((side ≡ 1) × (harm ≡ Length) × BreaksBeside kind at b a)
