-- What is said of a directive: a text is put behind others, or why not. This project's own.
use Rattle.std.specs.Prelude.{◌≡◌, ℕ, List, [], ◌∷◌, ◌++◌, Result, Ok, Err, MatchResult}
use Rattle.cw_lines.specs.declared.end.DriveEnd.{DriveEnd}
use Rattle.cw_lines.specs.declared.end.DriveEnd.TheVariants.{Memory}

-- its text, where it doesn't
abbrev pub text_in : Result (List ℕ) DriveEnd → List ℕ
text_in (Ok text) = text
text_in (Err end) = []

-- it stands behind the others
abbrev pub IsWritten : Result (List ℕ) DriveEnd → (before after : List ℕ) → Type 0
IsWritten (Ok text) before after = after ≡ before ++ text
IsWritten (Err end) before after = ⊥

-- and as a line
abbrev pub IsSaid : Result (List ℕ) DriveEnd → (before after : List ℕ) → Type 0
IsSaid (Ok text) before after = after ≡ before ++ (text ++ 10 ∷ [])
IsSaid (Err end) before after = ⊥

-- why it isn't said: memory is wanting, or the script ends
abbrev pub IsUnsaid : Result (List ℕ) DriveEnd → DriveEnd → Type 0
IsUnsaid (Ok text) end = end ≡ Memory
IsUnsaid (Err due) end = end ≡ due

-- it is put behind a text, or why not
abbrev pub Writes : Result (List ℕ) DriveEnd → (before after : List ℕ) → Result (Unit {0}) DriveEnd → Type 0
Writes meant before after result = MatchResult result (λ done. IsWritten meant before after) (IsUnsaid meant)

-- nothing is said
pub record HasNotSaid (meant : Result (List ℕ) DriveEnd) (before after : List ℕ) (end : DriveEnd) : Type 0 where
  pub why : IsUnsaid meant end
  pub same : after ≡ before

-- it is said as a line, or why not
abbrev pub Says : Result (List ℕ) DriveEnd → (before after : List ℕ) → Result (Unit {0}) DriveEnd → Type 0
Says meant before after result =
    MatchResult result (λ said. IsSaid meant before after) (HasNotSaid meant before after)
