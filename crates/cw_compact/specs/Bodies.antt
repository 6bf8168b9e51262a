-- The frames of a log of records, and the bodies that they are written as.
use Rattle.std.specs.Prelude.{◌≡◌, ℕ, List, Vec, map}
use Rattle.std.specs.List.{AllByRecursion}
use Rattle.std.specs.declared.alloc.Global.{Global}
use Rattle.cw_bytes.specs.declared.applied.Applied.{Applied}
use Rattle.cw_bytes.specs.Spelling.{AreRecords, records_bytes}

-- the bytes of each
abbrev pub bodies_in : List (Vec ℕ Global) → List (List ℕ)
bodies_in vectors = map (λ v. v.items) vectors

-- these are the bodies of frames, each of which has a spelling
pub record AreBodiesOf (frames : List (List Applied)) (bodies : List (List ℕ)) : Type 0 where
  pub spelled : AllByRecursion AreRecords frames
  pub bodies_are : bodies ≡ map records_bytes frames
