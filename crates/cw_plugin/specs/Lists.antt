-- Lists in properties: elements parted by commas, as in Connect's `topics`. That no blank is trimmed is this project's
-- own rule.
use Rattle.std.specs.Prelude.{ℕ, ◌==◌, Bool, false, true, List, [], ◌∷◌, bytes_eq, if◌then◌else◌}
use Rattle.std.specs.List.{slice_split, list_any}

-- the elements of a text; a text without a comma is one
abbrev pub elements : List ℕ → List (List ℕ)
elements text = slice_split (λ b. b == 44) text

-- whether an element stands again behind itself
abbrev pub has_repeat : List (List ℕ) → Bool
has_repeat [] = false
has_repeat (e ∷ es) = if list_any (λ x. bytes_eq x e) es then true else has_repeat es
