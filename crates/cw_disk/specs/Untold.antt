-- A disk that tells no content (a file of the system: no clause says what the system does with it).
use Rattle.std.specs.Prelude.{◌≡◌, List, ℕ, Some, None}

-- it reads nothing that is told
pub untold : (file : List ℕ) → None ≡ Some file → ⊥
untold file is = cc
