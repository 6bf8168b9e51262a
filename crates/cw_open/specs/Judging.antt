-- What is said of a log that is judged while a cluster is opened: it is sound, or its first frame that lacks something
-- stands at a place. How a walk over it gets there is this project's own.
use Rattle.std.specs.Prelude.{◌≡◌, ◌↔◌, ℕ, Bool, IsTrue, List, [], ◌∷◌, ◌++◌, Option, Some, None}
use Rattle.cw_bytes.specs.Frames.{EachFrom}
use Rattle.cw_model.specs.StandsFor.{Judgement}

-- nothing lacks, or the first frame that lacks something stands at this place
abbrev pub Says : Judgement → Option ℕ → Type 0
Says judgement None = judgement.sound
Says judgement (Some at) = judgement.lacks at

-- one member more: whether it may stand behind those before it; then it is taken
pub record Steps
    {A : Type 0} (P : List A → A → Type 0) (old : List A) (x : A) (new : List A) (yes : Bool) : Type 0 where
  pub fits : IsTrue yes ↔ P old x
  pub taken : IsTrue yes → new ≡ old ++ x ∷ []

-- several more, each of which may stand behind those before it
pub record StepsAll
    {A : Type 0} (P : List A → A → Type 0) (old xs new : List A) (yes : Bool) : Type 0 where
  pub fits : IsTrue yes ↔ EachFrom P old xs
  pub taken : IsTrue yes → new ≡ old ++ xs
