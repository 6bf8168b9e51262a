-- What the begins of frames and the gate behind the last say of their places.
use Rattle.std.proofs.Common.{◌≡◌, ◌<◌, ℕ, zero, suc, ◌+◌, ◌-◌, List, [], ◌∷◌, ◌++◌, length, get_or, refl, ◌∙◌, ap, arith}
use Rattle.cw_log.specs.declared.place.Place.{Place}
use Rattle.cw_log.specs.Log.{places_before}

-- a first frame ends where the next begins, which is where the gate was if there was none
get_or-push : (gate next : ℕ) (starts : List ℕ) → get_or (starts ++ gate ∷ []) 0 next ≡ get_or starts 0 gate
get_or-push gate next [] = refl
get_or-push gate next (start ∷ starts) = refl

pub places_before-push : (gate n next : ℕ) (starts : List ℕ) → next ≡ gate + (n + 5) → places_before next (starts ++ gate ∷ []) ≡ places_before gate starts ++ record { at = gate; length = n } ∷ []
places_before-push gate n next [] is = ap (λ (m : ℕ). record { at = gate; length = m } ∷ []) (omega (arith, is))
places_before-push gate n next (start ∷ starts) is =
    ap (λ (m : ℕ). record { at = start; length = m - (start + 5) } ∷ places_before next (starts ++ gate ∷ [])) (get_or-push gate next starts)
    ∙ ap (λ (l : List Place). record { at = start; length = get_or starts 0 gate - (start + 5) } ∷ l) (places_before-push gate n next starts is)

pub length-places_before : (gate : ℕ) (starts : List ℕ) → length (places_before gate starts) ≡ length starts
length-places_before gate [] = refl
length-places_before gate (start ∷ starts) = ap suc (length-places_before gate starts)

-- the place of one frame, by two begins
get_or-places_before : (gate i d : ℕ) (starts : List ℕ) (place : Place) → i < length starts → get_or (places_before gate starts) i place ≡ record { at = get_or starts i d; length = get_or starts (suc i) gate - (get_or starts i d + 5) }
get_or-places_before gate i d [] place low = absurd (omega (arith, low))
get_or-places_before gate zero d (start ∷ starts) place low = refl
get_or-places_before gate (suc i) d (start ∷ starts) place low = get_or-places_before gate i d starts place (omega (arith, low))

pub place_is : (gate at end i : ℕ) (starts : List ℕ) (place : Place) → i < length starts → at ≡ get_or starts i at → end ≡ get_or starts (i + 1) gate → place ≡ record { at = at; length = end - (at + 5) } → place ≡ get_or (places_before gate starts) i place
place_is gate at end i starts place low begins ends is =
    let next : end ≡ get_or starts (suc i) gate = ends ∙ ap (λ (k : ℕ). get_or starts k gate) (omega arith) in
    let there = get_or-places_before gate i at starts place low in
    cc
