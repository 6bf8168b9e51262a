-- An outlet holds the lines of sinks, as files that lines are added to. A sink's file is a text of lines, as that of
-- Kafka Connect's FileStreamSinkTask.
use Rattle.std.specs.Prelude.{◌≡◌, ◌⊎◌, ℕ, ◌/◌, List, [], ◌∷◌, ◌++◌, length, take}
use Rattle.std.specs.Option.{unwrap_or}
use Rattle.cw_io.specs.Shelf.{Files, bytes_of, with_file}

-- files with more bytes at the end of the one of this name, which is made where there is none
abbrev pub appended : List ℕ → List ℕ → Files → Files
appended name more files = with_file name (unwrap_or (bytes_of name files) [] ++ more) files

-- a line and its end
abbrev pub line_bytes : List ℕ → List ℕ
line_bytes line = line ++ 10 ∷ []

-- the first half of a line
abbrev pub half_of : List ℕ → List ℕ
half_of line = take (length line / 2) line

-- nothing changed, or a first part of the bytes was added to the file of this name
pub record IsAppendedInPart (name more : List ℕ) (before after : Files) : Type 0 where
  pub part : List ℕ
  pub rest : List ℕ
  pub split : more ≡ part ++ rest
  pub left : (after ≡ before) ⊎ (after ≡ appended name part before)
