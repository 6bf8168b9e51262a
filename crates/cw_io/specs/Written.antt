-- What a sink holds after a write that failed on the way: what it held, and a first part of the bytes.
use Rattle.std.specs.Prelude.{◌≡◌, ℕ, List, ◌++◌, Option}
use Rattle.cw_io.specs.Told.{with_back}

-- a first part of the bytes was added
pub record IsWrittenInPart (bytes : List ℕ) (before after : Option (List ℕ)) : Type 0 where
  pub part : List ℕ
  pub rest : List ℕ
  pub split : bytes ≡ part ++ rest
  pub added : after ≡ with_back part before
