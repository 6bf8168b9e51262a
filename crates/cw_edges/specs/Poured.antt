-- What a sink's task puts into its file: the value of each record as a line, in order (Kafka Connect's
-- FileStreamSinkTask).
use Rattle.std.specs.Prelude.{◌≡◌, ℕ, List, ◌∷◌, ◌++◌}
use Rattle.std.specs.List.{fold}
use Rattle.cw_io.specs.Shelf.{Files}
use Rattle.cw_io.specs.Outlet.{appended, line_bytes, IsAppendedInPart}

-- files with these lines, one behind the other, at the end of the one of this name
abbrev pub poured : (file : List ℕ) → (lines : List (List ℕ)) → Files → Files
poured file lines files = fold (λ held line. appended file (line_bytes line) held) files lines

-- the first of these lines were put there, and of the next one a first part
pub record IsPouredInPart (file : List ℕ) (lines : List (List ℕ)) (before after : Files) : Type 0 where
  pub whole : List (List ℕ)
  pub line : List ℕ
  pub rest : List (List ℕ)
  pub split : lines ≡ whole ++ line ∷ rest
  pub part : IsAppendedInPart file (line_bytes line) (poured file whole before) after
