-- What a listener answers: a link, or that there are no more. This project's own rule.
use Rattle.std.specs.Prelude.{Bool, true, false, List, [], ◌∷◌, Option, Some, None, Result, Ok, Err}
use Rattle.cw_io.specs.declared.traits.Failed.{Failed}

-- the links that an answer gives
abbrev pub links_in : {L : Type 0} → Result (Option L) Failed → List L
links_in (Ok (Some link)) = link ∷ []
links_in (Ok None) = []
links_in (Err failed) = []

-- whether it says that there are no more
abbrev pub is_end : {L : Type 0} → Result (Option L) Failed → Bool
is_end (Ok (Some link)) = false
is_end (Ok None) = true
is_end (Err failed) = false
