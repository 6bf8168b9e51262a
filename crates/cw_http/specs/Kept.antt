-- What a reader keeps between requests, and what it says of the bytes that it kept and of those that its link had left.
use Rattle.std.specs.Prelude.{◌≡◌, ℕ, ◌==◌, true, List, [], ◌∷◌, ◌++◌, take, Option, Some, None}
use Rattle.std.specs.List.{list_any}
use Rattle.cw_io.specs.Told.{with_front}
use Rattle.cw_http.specs.declared.request.Request.{Request}
use Rattle.cw_http.specs.HeadEnd.{head_length}
use Rattle.cw_http.specs.Reading.{Reading, found, Reads}

-- some first bytes of what a link had left stand behind what was kept, and no byte is lost
pub record Moved (kept kept_now : List ℕ) (left left_now : Option (List ℕ)) : Type 0 where
  pub piece : List ℕ
  pub behind : kept_now ≡ kept ++ piece
  pub taken : left ≡ with_front piece left_now

-- no whole head within the limit stands at the front of what is kept
abbrev pub IsOpen : List ℕ → Type 0
IsOpen kept = head_length (take 8192 kept) ≡ None

-- all bytes, where they are told, are this
abbrev pub IsTold : Reading → Option (List ℕ) → Type 0
IsTold reading whole = (bytes : List ℕ) → whole ≡ Some bytes → Reads bytes reading

-- a request stands at the front of all bytes, where they are told, and those behind it are what is kept and left now
abbrev pub IsTaken : Request → Option (List ℕ) → Option (List ℕ) → Type 0
IsTaken request whole whole_now =
    (bytes : List ℕ) → whole ≡ Some bytes → (rest : List ℕ) × (whole_now ≡ Some rest) × Reads bytes (found request rest)

-- the codes of the refusals of a request
abbrev pub IsRefusalCode : ℕ → Type 0
IsRefusalCode code = list_any (λ c. c == code) (400 ∷ 413 ∷ 431 ∷ 501 ∷ 505 ∷ []) ≡ true
