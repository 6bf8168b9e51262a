-- Frames, and where they lie.
use Rattle.std.proofs.Common.{◌≡◌, ◌≤◌, ℕ, suc, ◌+◌, List, [], ◌∷◌, ◌++◌, length, take, drop, refl, sym, ◌∙◌, ap, subst, arith, append_assoc, length-append, length-take, take-append-drop}
use Rattle.std.proofs.lemmas.List.{drop_at, append-nil}
use Rattle.std.specs.Int.{w32, to_be_bytes}
use Rattle.cw_log.specs.declared.place.Place.{Place}
use Rattle.cw_log.specs.declared.place.Frame.TheVariants.{Open}
use Rattle.cw_log.specs.Log.{field, IsBody, AreFrames, Begins, BreaksAt, IsFrame, IsBroken, length_of, places_from}

pub length-field : (body : List ℕ) → length (field body) ≡ length body + 4
unfolding field
length-field body = omega (arith, length-append (to_be_bytes w32 (length body)) body)

pub frames_push : (bodies : List (List ℕ)) (front body : List ℕ) (gate : ℕ) → IsBody body → AreFrames bodies front → AreFrames (bodies ++ body ∷ []) (front ++ suc gate ∷ field body)
frames_push [] front body gate fits is = (gate, [], fits, rw is (ap (λ (l : List ℕ). suc gate ∷ l) (sym (append-nil (field body)))), refl)
frames_push (b ∷ bodies) front body gate fits is = (
  is.0,
  is.1 ++ suc gate ∷ field body,
  is.2,
  ap (λ (l : List ℕ). l ++ suc gate ∷ field body) is.3 ∙ ap (λ (l : List ℕ). suc is.0 ∷ l) (append_assoc (field b) is.1 (suc gate ∷ field body)),
  frames_push bodies is.1 body gate fits is.4,
)

pub places_push : (at : ℕ) (bodies : List (List ℕ)) (front body : List ℕ) → AreFrames bodies front → places_from at (bodies ++ body ∷ []) ≡ places_from at bodies ++ record { at = at + length front; length = length body } ∷ []
places_push at [] front body is = ap (λ (n : ℕ). record { at = n; length = length body } ∷ []) (omega (arith, ap length is))
places_push at (b ∷ bodies) front body is =
    ap (λ (l : List Place). record { at = at; length = length b } ∷ l) (places_push (at + (5 + length b)) bodies is.1 body is.4
    ∙ ap (λ (n : ℕ). places_from (at + (5 + length b)) bodies ++ record { at = n; length = length body } ∷ []) (omega (arith, ap length is.3, length-append (field b) is.1, length-field b)))

pub begins_start : (file : List ℕ) → 16 ≤ length file → Begins 16 [] file
begins_start file long = record {
  bodies = [];
  head = take 16 file;
  front = [];
  rest = drop 16 file;
  split = sym (take-append-drop 16 file) ∙ ap (λ (l : List ℕ). l ++ drop 16 file) (sym (append-nil (take 16 file)));
  size = omega (arith, length-take 16 file);
  frames = refl;
  places_are = refl;
  place = refl;
}

-- what is left behind the frames
pub rest_is : (at : ℕ) (places : List Place) (file : List ℕ) → (b : Begins at places file) → drop at file ≡ b.rest
rest_is at places file b = ap (drop at) b.split ∙ drop_at (b.head ++ b.front) b.rest at (omega (arith, length-append b.head b.front, b.size, b.place))

pub begins_next : (at n : ℕ) (places : List Place) (file : List ℕ) → Begins at places file → IsFrame (Open n) (drop at file) → Begins (at + (5 + n)) (places ++ record { at = at; length = n } ∷ []) file
unfolding field
begins_next at n places file b is =
    let body : List ℕ = take n is.1 in
    let size : length body ≡ n = omega (arith, length-take n is.1, is.5) in
    let more : b.rest ≡ (suc is.0 ∷ field body) ++ drop n is.1 =
    sym (rest_is at places file b) ∙ is.2 ∙ ap (λ (l : List ℕ). suc is.0 ∷ l) (ap (λ (l : List ℕ). to_be_bytes w32 n ++ l) (sym (take-append-drop n is.1)) ∙ sym (append_assoc (to_be_bytes w32 n) body (drop n is.1)) ∙ ap (λ (m : ℕ). to_be_bytes w32 m ++ body ++ drop n is.1) (sym size)) in
    record {
      bodies = b.bodies ++ body ∷ [];
      head = b.head;
      front = b.front ++ suc is.0 ∷ field body;
      rest = drop n is.1;
      split = b.split ∙ ap (λ (l : List ℕ). b.head ++ b.front ++ l) more ∙ sym (append_assoc (b.head ++ b.front) (suc is.0 ∷ field body) (drop n is.1)) ∙ ap (λ (l : List ℕ). l ++ drop n is.1) (append_assoc b.head b.front (suc is.0 ∷ field body));
      size = b.size;
      frames = frames_push b.bodies b.front body is.0 (record { some = omega (arith, size, is.3); few = omega (arith, size, is.4) }) b.frames;
      places_are = ap (λ (l : List Place). l ++ record { at = at; length = n } ∷ []) b.places_are ∙ ap (λ (m : ℕ). places_from 16 b.bodies ++ record { at = m; length = n } ∷ []) b.place
          ∙ ap (λ (m : ℕ). places_from 16 b.bodies ++ record { at = 16 + length b.front; length = m } ∷ []) (sym size) ∙ sym (places_push 16 b.bodies b.front body b.frames);
      place = omega (arith, b.place, length-append b.front (suc is.0 ∷ field body), length-field body, size);
    }

-- a broken frame behind whole ones
pub breaks : (at : ℕ) (places : List Place) (file : List ℕ) → Begins at places file → IsBroken (drop at file) → BreaksAt at file
breaks at places file b is = record { bodies = b.bodies; head = b.head; front = b.front; rest = b.rest; split = b.split; size = b.size; frames = b.frames; place = b.place; broken = subst IsBroken (rest_is at places file b) is }

pub frames_length : (bodies : List (List ℕ)) (front : List ℕ) → AreFrames bodies front → length front + 17 ≡ length_of bodies
frames_length [] front is = omega (arith, ap length is)
frames_length (b ∷ bodies) front is = omega (arith, ap length is.3, length-append (field b) is.1, length-field b, frames_length bodies is.1 is.4)
