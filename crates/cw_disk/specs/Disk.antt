-- What the calls of a disk do to its bytes, and what a stop of the machine may leave of them (this project's own disk
-- model). Between two syncs each range that was written or cut, and the part past the old end, may hold any bytes; all
-- other bytes stay. The length that a stop leaves is any from the least to the greatest since the last sync.
use Rattle.std.specs.Prelude.{◌≡◌, ◌≤◌, ◌⊎◌, ◌+◌, ◌-◌, ◌^◌, max, min, ℕ, List, [], ◌∷◌, ◌++◌, length, take, drop, Bool}
use Rattle.std.specs.Prelude.{Option, Some, None}

-- the file with these bytes at this place
abbrev pub written : {A : Type 0} → List A → ℕ → List A → List A
written old at bytes = take at old ++ bytes ++ drop (at + length bytes) old

-- after a write of n bytes that a stop cuts short: any bytes in the range and past the old end, the same elsewhere
pub record Torn (at n : ℕ) (old new : List ℕ) : Type 0 where
  pub before : take at new ≡ take at old
  pub after : drop (at + n) new ≡ drop (at + n) old
  pub no_shorter : length old ≤ length new
  pub no_longer : length new ≤ max (length old) (at + n)

-- after a cut to n bytes that a stop cuts short: some length between, any bytes past n
pub record Cut (n : ℕ) (old new : List ℕ) : Type 0 where
  pub before : take n new ≡ take n old
  pub no_shorter : min n (length old) ≤ length new
  pub no_longer : length new ≤ length old

-- the first byte of a disk, which a stop leaves whole or not at all, and as 0
abbrev pub IsFirstByte : List ℕ → Type 0
IsFirstByte image = (image ≡ []) ⊎ (image ≡ 0 ∷ [])

-- each new image is an old one after a step
abbrev pub Follows : (List ℕ → List ℕ → Type 0) → (List ℕ → Type 0) → (List ℕ → Type 0) → Type 0
Follows step old new = (image : List ℕ) → new image → (before : List ℕ) × old before × step before image

-- a stop leaves this and nothing else
abbrev pub Only : List ℕ → (List ℕ → Type 0) → Type 0
Only file images = (image : List ℕ) → images image → image ≡ file

-- Time goes on: a stop since t may have left just what it may have left before, or what it may leave now.
pub record Elapses (before now : ℕ) (past since : ℕ → List ℕ → Type 0) (may_leave : List ℕ → Type 0) : Type 0 where
  pub later : before ≤ now
  pub nothing_else : (t : ℕ) (image : List ℕ) → t ≤ before → since t image → past t image ⊎ may_leave image
  pub keeps : (t : ℕ) (image : List ℕ) → t ≤ before → past t image → since t image

-- one step of time, between two values of what has a moment and leaves images
abbrev pub GoesOn : {D : Type 0} → (D → ℕ) → (D → ℕ → List ℕ → Type 0) → (D → List ℕ → Type 0) → D → D → Type 0
GoesOn moment left_since may_leave old new =
    Elapses (moment old) (moment new) (left_since old) (left_since new) (may_leave new)

-- From old to new a stop adds only images that have P: what it may have left since t it may have left before, or it has
-- P.
pub record AddsOf {D I : Type 0} (moment : D → ℕ) (left_since : D → ℕ → I → Type 0) (old new : D) (P : I → Type 0)
    : Type 0 where
  pub later : moment old ≤ moment new
  pub before : (t : ℕ) (image : I) → t ≤ moment old → left_since new t image → left_since old t image ⊎ P image

-- which calls are to fail, by their numbers, and how many calls there were
pub record Plan : Type 0 where
  pub fails : ℕ → Bool
  pub calls : ℕ

-- One call more, which failed exactly where that was planned. At its type's end the number of calls stands.
pub record IsCounted (old new : Plan) (failed : Bool) : Type 0 where
  pub fails : new.fails ≡ old.fails
  pub calls : new.calls ≡ min (old.calls + 1) (2 ^ 64 - 1)
  pub exact : failed ≡ old.fails old.calls

-- one call more, where the plan is told
abbrev pub GoesAsPlanned : Option Plan → Option Plan → Bool → Type 0
GoesAsPlanned None new failed = Unit {0}
GoesAsPlanned (Some old) None failed = ⊥
GoesAsPlanned (Some old) (Some new) failed = IsCounted old new failed
