-- What a call answers that may want memory: just what is meant, unless it does.
use Rattle.std.specs.Prelude.{◌≡◌, ◌≢◌, Result, Ok, Err, MatchResult}

-- a call gives just what is meant, unless memory ran out, which has a fault of its own
abbrev pub Gives : {A F : Type 0} → F → Result A F → Result A F → Type 0
Gives memory result meant = MatchResult result (λ x. meant ≡ Ok x) (λ fault. fault ≢ memory → meant ≡ Err fault)
