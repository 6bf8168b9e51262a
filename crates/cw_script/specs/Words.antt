-- A line is words, each parted from the next by one space. The language is this project's own.
use Rattle.std.specs.Prelude.{ℕ, ◌+◌, ◌==◌, List, [], ◌∷◌, ◌++◌, length, Option, Some, None}
use Rattle.std.specs.Borrow.{Bor}
use Rattle.std.specs.List.{slice_split}

-- the words of a text: one more than it has spaces, so that two spaces hold an empty word
abbrev pub words : List ℕ → List (List ℕ)
words text = slice_split (λ c. c == 32) text

-- the words behind a space, if there is one
abbrev pub words_behind : Option (List ℕ) → List (List ℕ)
words_behind None = []
words_behind (Some text) = words text

-- words with one space between each two
abbrev pub joined : List (List ℕ) → List ℕ
joined [] = []
joined (w ∷ []) = w
joined (w ∷ v ∷ ws) = w ++ 32 ∷ joined (v ∷ ws)

-- the bytes that a text's reference points to
abbrev pub now_of : Option (Bor (List ℕ)) → Option (List ℕ)
now_of None = None
now_of (Some text) = Some text.now

-- how many bytes are left, the space before them counted
abbrev pub left_of : Option (Bor (List ℕ)) → ℕ
left_of None = 0
left_of (Some text) = length text.now + 1
