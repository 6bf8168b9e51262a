-- A file that begins with a header and whole frames: which list it stands for, and what keeps it.
use Rattle.std.proofs.Common.{◌≡◌, ◌≤◌, ◌<◌, inr, ℕ, suc, ◌+◌, List, [], ◌∷◌, ◌++◌, length, take, drop, refl, sym, ◌∙◌, ap, subst, arith, append_assoc, length-append, length-take, take-append-drop, Option, Some, None}
use Rattle.std.proofs.lemmas.List.{take_at, drop_at, get_or-take, map-append}
use Rattle.std.specs.Int.{w32, to_be_bytes}
use Rattle.cw_log.specs.declared.place.Place.{Place}
use Rattle.cw_log.specs.Log.{field, AreFrames, Begins, IsHead, StandsFor, StandAlike, places_from, bodies_at, length_of, new_log, header, byte_at, harm_of_head}
use Rattle.cw_log.specs.State.{IsKept, HasFront}
use Rattle.cw_log.proofs.Frames.{begins_start, frames_length}
use Rattle.cw_log.proofs.Made.{length-header, new_head}

-- the bodies lie where the places say
at_places : (bodies : List (List ℕ)) (pre front rest : List ℕ) (at : ℕ) → AreFrames bodies front → length pre ≡ at → bodies_at (places_from at bodies) (pre ++ front ++ rest) ≡ bodies
unfolding field
at_places [] pre front rest at is size = refl
at_places (b ∷ bodies) pre front rest at is size =
    let pre5 : List ℕ = pre ++ suc is.0 ∷ to_be_bytes w32 (length b) in
    let size5 : length pre5 ≡ at + 5 = omega (arith, length-append pre (suc is.0 ∷ to_be_bytes w32 (length b)), size) in
    let split : pre ++ front ++ rest ≡ (pre5 ++ b) ++ is.1 ++ rest =
    ap (λ (l : List ℕ). pre ++ l ++ rest) is.3
    ∙ ap (λ (l : List ℕ). l ++ rest) (sym (append_assoc pre (suc is.0 ∷ (to_be_bytes w32 (length b) ++ b)) is.1) ∙ ap (λ (l : List ℕ). l ++ is.1) (sym (append_assoc pre (suc is.0 ∷ to_be_bytes w32 (length b)) b))) in
    let here : take (length b) (drop (at + 5) (pre ++ front ++ rest)) ≡ b =
    ap (λ (l : List ℕ). take (length b) (drop (at + 5) l)) (split ∙ append_assoc (pre5 ++ b) is.1 rest ∙ append_assoc pre5 b (is.1 ++ rest))
    ∙ ap (take (length b)) (drop_at pre5 (b ++ (is.1 ++ rest)) (at + 5) size5) ∙ take_at b (is.1 ++ rest) (length b) refl in
    let behind : bodies_at (places_from (at + (5 + length b)) bodies) (pre ++ front ++ rest) ≡ bodies =
    ap (bodies_at (places_from (at + (5 + length b)) bodies)) split ∙ at_places bodies (pre5 ++ b) is.1 rest (at + (5 + length b)) is.4 (omega (arith, length-append pre5 b, size5)) in
    ap (λ (l : List (List ℕ)). take (length b) (drop (at + 5) (pre ++ front ++ rest)) ∷ l) behind ∙ ap (λ (l : List ℕ). l ∷ bodies) here

pub bodies_are : (gate : ℕ) (places : List Place) (file : List ℕ) → (b : Begins gate places file) → bodies_at places file ≡ b.bodies
bodies_are gate places file b =
    ap (λ (l : List Place). bodies_at l file) b.places_are ∙ ap (bodies_at (places_from 16 b.bodies)) b.split ∙ at_places b.bodies b.head b.front b.rest 16 b.frames b.size

-- one body more
pub bodies_at-push : (places : List Place) (at n : ℕ) (file : List ℕ) → bodies_at (places ++ record { at = at; length = n } ∷ []) file ≡ bodies_at places file ++ take n (drop (at + 5) file) ∷ []
bodies_at-push places at n file = map-append (λ (place : Place). take place.length (drop (place.at + 5) file)) places (record { at = at; length = n } ∷ [])

-- the gate behind the frames, by how many bytes a log of these bodies has
pub gate_behind : (at : ℕ) (places : List Place) (file : List ℕ) → Begins at places file → at + 1 ≡ length_of (bodies_at places file)
gate_behind at places file b = omega (arith, b.place, frames_length b.bodies b.front b.frames, ap length_of (bodies_are at places file b))

-- the header and the frames, without what follows
pub front_is : (gate : ℕ) (places : List Place) (file : List ℕ) → (b : Begins gate places file) → take gate file ≡ b.head ++ b.front
front_is gate places file b = ap (take gate) b.split ∙ take_at (b.head ++ b.front) b.rest gate (omega (arith, length-append b.head b.front, b.size, b.place))

pub gate_within : (gate : ℕ) (places : List Place) (file : List ℕ) → Begins gate places file → (16 ≤ gate) × (gate ≤ length file)
gate_within gate places file b = (omega (arith, b.place), omega (arith, b.place, ap length b.split, length-append (b.head ++ b.front) b.rest, length-append b.head b.front, b.size))

pub head_is : (gate : ℕ) (places : List Place) (file : List ℕ) → (b : Begins gate places file) → take 16 file ≡ b.head
head_is gate places file b = ap (take 16) (b.split ∙ append_assoc b.head b.front b.rest) ∙ take_at b.head (b.front ++ b.rest) 16 b.size

-- any bytes behind the gate
pub begins_front : (gate : ℕ) (places : List Place) (file other : List ℕ) → Begins gate places file → take gate other ≡ take gate file → Begins gate places other
begins_front gate places file other b same = record {
  bodies = b.bodies;
  head = b.head;
  front = b.front;
  rest = drop gate other;
  split = sym (take-append-drop gate other) ∙ ap (λ (l : List ℕ). l ++ drop gate other) (same ∙ front_is gate places file b);
  size = b.size;
  frames = b.frames;
  places_are = b.places_are;
  place = b.place;
}

pub kept_front : (kind gate : ℕ) (places : List Place) (file other : List ℕ) → IsKept kind gate places file → take gate other ≡ take gate file → IsKept kind gate places other
unfolding begins_front
kept_front kind gate places file other kept same = record {
  begins = begins_front gate places file other kept.begins same;
  is_head = subst (IsHead kind) (head_is gate places file kept.begins ∙ sym (head_is gate places other (begins_front gate places file other kept.begins same))) kept.is_head;
}

pub bodies_front : (gate : ℕ) (places : List Place) (file other : List ℕ) → Begins gate places file → take gate other ≡ take gate file → bodies_at places other ≡ bodies_at places file
unfolding begins_front
bodies_front gate places file other b same = bodies_are gate places other (begins_front gate places file other b same) ∙ sym (bodies_are gate places file b)

-- the list of a file, and of each other with the same front and the gate closed
pub kept_stands : (kind gate : ℕ) (places : List Place) (file image rest : List ℕ) → IsKept kind gate places file → image ≡ take gate file ++ 0 ∷ rest → StandsFor kind (bodies_at places file) image
kept_stands kind gate places file image rest kept is = inr (record {
  head = kept.begins.head;
  front = kept.begins.front;
  rest = rest;
  split = is ∙ ap (λ (l : List ℕ). l ++ 0 ∷ rest) (front_is gate places file kept.begins);
  is_head = subst (IsHead kind) (head_is gate places file kept.begins) kept.is_head;
  frames = subst (λ (bs : List (List ℕ)). AreFrames bs kept.begins.front) (sym (bodies_are gate places file kept.begins)) kept.begins.frames;
})

-- the gate and what is before it
closed_front : (gate : ℕ) (file rest : List ℕ) → gate ≤ length file → drop gate file ≡ 0 ∷ rest → take (gate + 1) file ≡ take gate file ++ 0 ∷ []
closed_front gate file rest within is =
    ap (take (gate + 1)) (sym (take-append-drop gate file) ∙ ap (λ (l : List ℕ). take gate file ++ l) is ∙ sym (append_assoc (take gate file) (0 ∷ []) rest))
    ∙ take_at (take gate file ++ 0 ∷ []) rest (gate + 1) (omega (arith, length-append (take gate file) (0 ∷ []), length-take gate file))

pub front_stands : (kind gate : ℕ) (places : List Place) (file image rest : List ℕ) → IsKept kind gate places file → drop gate file ≡ 0 ∷ rest → HasFront (gate + 1) file image → StandsFor kind (bodies_at places file) image
front_stands kind gate places file image rest kept is same =
    kept_stands kind gate places file image (drop (gate + 1) image) kept
    (sym (take-append-drop (gate + 1) image) ∙ ap (λ (l : List ℕ). l ++ drop (gate + 1) image) (same ∙ closed_front gate file rest (gate_within gate places file kept.begins).1 is) ∙ append_assoc (take gate file) (0 ∷ []) (drop (gate + 1) image))

pub front_alike : (kind gate : ℕ) (places : List Place) (file image rest : List ℕ) → IsKept kind gate places file → drop gate file ≡ 0 ∷ rest → HasFront (gate + 1) file image → StandAlike kind file image
front_alike kind gate places file image rest kept is same = record { bodies = bodies_at places file; this = front_stands kind gate places file file rest kept is refl; that = front_stands kind gate places file image rest kept is same }

-- the file that was cut behind its closed gate
pub trimmed : (gate : ℕ) (file rest now : List ℕ) → gate ≤ length file → drop gate file ≡ 0 ∷ rest → now ≡ take (gate + 1) file → (now ≡ take gate now ++ 0 ∷ []) × (take gate now ≡ take gate file)
trimmed gate file rest now within is cut =
    let front : now ≡ take gate file ++ 0 ∷ [] = cut ∙ closed_front gate file rest within is in
    let same : take gate now ≡ take gate file = ap (take gate) front ∙ take_at (take gate file) (0 ∷ []) gate (omega (arith, length-take gate file)) in
    (front ∙ ap (λ (l : List ℕ). l ++ 0 ∷ []) (sym same), same)

-- a log of no body
pub empty_kept : (kind side : ℕ) → IsKept kind 16 [] (1 ∷ (header kind side ++ 0 ∷ []))
empty_kept kind side = record {
  begins = begins_start (1 ∷ (header kind side ++ 0 ∷ [])) (omega (arith, length-append (header kind side) (0 ∷ []), length-header kind side));
  is_head = subst (IsHead kind) (sym (take_at (1 ∷ header kind side) (0 ∷ []) 16 (omega (arith, length-header kind side)))) (new_head 0 kind side);
}

pub empty_end : (kind side : ℕ) → 1 ∷ (header kind side ++ 0 ∷ []) ≡ take 16 (1 ∷ (header kind side ++ 0 ∷ [])) ++ 0 ∷ []
empty_end kind side = ap (λ (l : List ℕ). l ++ 0 ∷ []) (sym (take_at (1 ∷ header kind side) (0 ∷ []) 16 (omega (arith, length-header kind side))))

-- a log that was just made
pub new_kept : (kind : ℕ) → IsKept kind 16 [] (new_log kind)
new_kept kind = empty_kept kind 1

pub new_end : (kind : ℕ) → new_log kind ≡ take 16 (new_log kind) ++ 0 ∷ []
new_end kind = empty_end kind 1

pub is_none : {A : Type 0} (o : Option A) → ((a : A) → o ≡ Some a → ⊥) → o ≡ None
is_none None never = refl
is_none (Some a) never = absurd (never a refl)

-- a header without harm, and the frames behind it
pub made_kept : (kind gate : ℕ) (places : List Place) (file head : List ℕ) → Begins gate places file → head ≡ take 16 file → 0 < byte_at file 0 → harm_of_head kind head ≡ None → IsKept kind gate places file
made_kept kind gate places file head b is some none = record {
  begins = b;
  is_head = record {
    size = ap length (head_is gate places file b) ∙ b.size;
    «open» = subst (λ (n : ℕ). 0 < n) (sym (get_or-take 16 file 0 0 (omega arith))) some;
    harmless = ap (harm_of_head kind) (sym is) ∙ none;
  };
}
