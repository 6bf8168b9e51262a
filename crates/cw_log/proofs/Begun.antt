-- A walk over the frames of a file that begins with known ones.
use Rattle.std.proofs.Common.{◌≡◌, ◌≤◌, ◌<◌, inl, inr, ℕ, zero, suc, ◌+◌, ◌-◌, ◌^◌, List, [], ◌∷◌, ◌++◌, length, take, drop, get_or, refl, sym, ◌∙◌, ap, subst, arith, append_assoc, length-append}
use Rattle.std.proofs.lemmas.List.{take_more, take_all, drop_at, drop-drop}
use Rattle.std.proofs.lemmas.Nat.{from_be_bytes-to_be_bytes_4}
use Rattle.std.specs.Int.{w32, to_be_bytes}
use Rattle.cw_log.specs.declared.place.Place.{Place}
use Rattle.cw_log.specs.declared.place.Frame.{Frame}
use Rattle.cw_log.specs.declared.place.Frame.TheVariants.{Closed, Broken, Open}
use Rattle.cw_log.specs.Log.{field, AreFrames, Begins, IsBroken, IsFrame, length_in, places_before, places_from}
use Rattle.cw_log.proofs.Frames.{length-field}

-- a whole frame begins at one of the begins, and ends where the next one is
pub record Stands (gate : ℕ) (starts file : List ℕ) (k : ℕ) : Type 0 where
  pub n : ℕ
  pub is_frame : IsFrame (Open n) (drop (get_or starts k gate) file)
  pub next : get_or starts (suc k) gate ≡ get_or starts k gate + (5 + n)

-- one of them further on
later : (gate s : ℕ) (starts file : List ℕ) (k : ℕ) → Stands gate starts file k → Stands gate (s ∷ starts) file (suc k)
later gate s starts file k there = record { n = there.n; is_frame = there.is_frame; next = there.next }

there : (bodies : List (List ℕ)) (front rest file : List ℕ) (at gate k : ℕ) (starts : List ℕ) → AreFrames bodies front → places_before gate starts ≡ places_from at bodies → gate ≡ at + length front → drop at file ≡ front ++ rest → k < length starts → Stands gate starts file k
unfolding field
there bodies front rest file at gate k [] frames places end split low = absurd (omega (arith, low))
there [] front rest file at gate k (s ∷ starts) frames places end split low = absurd (cc)
there (b ∷ bodies) front rest file at gate zero (s ∷ starts) frames places end split low =
    let begins : s ≡ at = ap (λ (l : List Place). (get_or l 0 (record { at = s; length = 0 })).at) places in
    let long : get_or starts 0 gate - (s + 5) ≡ length b = ap (λ (l : List Place). (get_or l 0 (record { at = s; length = 0 })).length) places in
    let bytes : drop s file ≡ suc frames.0 ∷ (to_be_bytes w32 (length b) ++ (b ++ (frames.1 ++ rest))) =
    ap (λ (m : ℕ). drop m file) begins ∙ split ∙ ap (λ (l : List ℕ). l ++ rest) frames.3
    ∙ ap (λ (l : List ℕ). suc frames.0 ∷ l) (append_assoc (field b) frames.1 rest ∙ append_assoc (to_be_bytes w32 (length b)) b (frames.1 ++ rest)) in
    record {
      n = length b;
      is_frame = (frames.0, b ++ (frames.1 ++ rest), bytes, frames.2.some, frames.2.few, omega (arith, length-append b (frames.1 ++ rest)));
      next = omega (arith, long, frames.2.some);
    }
there (b ∷ bodies) front rest file at gate (suc k) (s ∷ starts) frames places end split low =
    let size : length (suc frames.0 ∷ field b) ≡ 5 + length b = omega (arith, length-field b) in
    let behind : drop (at + (5 + length b)) file ≡ frames.1 ++ rest =
    sym (drop-drop (5 + length b) at file) ∙ ap (drop (5 + length b)) (split ∙ ap (λ (l : List ℕ). l ++ rest) frames.3 ∙ append_assoc (suc frames.0 ∷ field b) frames.1 rest)
    ∙ drop_at (suc frames.0 ∷ field b) (frames.1 ++ rest) (5 + length b) size in
    later gate s starts file k (there bodies frames.1 rest file (at + (5 + length b)) gate k starts frames.4 (ap (drop 1) places) (omega (arith, end, ap length frames.3, length-append (field b) frames.1, length-field b)) behind (omega (arith, low)))

pub stands : (gate : ℕ) (starts file : List ℕ) (k : ℕ) → Begins gate (places_before gate starts) file → k < length starts → Stands gate starts file k
stands gate starts file k b low = there b.bodies b.front b.rest file 16 gate k starts b.frames b.places_are b.place
    (ap (drop 16) (b.split ∙ append_assoc b.head b.front b.rest) ∙ drop_at b.head (b.front ++ b.rest) 16 b.size) low

-- the length that the bytes behind a gate say
said : (n : ℕ) (rest : List ℕ) → n < 2 ^ 32 → length_in (to_be_bytes w32 n ++ rest) ≡ n
said n rest few = from_be_bytes-to_be_bytes_4 n few

-- where a whole frame stands, nothing else does
pub one_frame : (frame : Frame) (n : ℕ) (bytes : List ℕ) → IsFrame (Open n) bytes → IsFrame frame bytes → frame ≡ Open n
one_frame Closed n bytes is other = absurd (let e = sym is.2 ∙ other.1 in cc)
one_frame Broken n bytes is other = absurd (not_broken (subst IsBroken is.2 other))
  where
    not_broken : IsBroken (suc is.0 ∷ (to_be_bytes w32 n ++ is.1)) → ⊥
    not_broken (inl short) = absurd (omega (arith, short, length-append (to_be_bytes w32 n) is.1))
    not_broken (inr (inl none)) = absurd (omega (arith, none, said n is.1 is.4, is.3))
    not_broken (inr (inr past)) = absurd (omega (arith, past, said n is.1 is.4, is.5, length-append (to_be_bytes w32 n) is.1))
one_frame (Open m) n bytes is other =
    ap Open (sym (said m other.1 other.4) ∙ ap length_in (ap (drop 1) (sym other.2 ∙ is.2)) ∙ said n is.1 is.4)

-- the first of these begins are found, and the walk is at the next one
pub record Begun (gate : ℕ) (starts found : List ℕ) (at : ℕ) : Type 0 where
  pub first : found ≡ take (length found) starts
  pub here : at ≡ get_or starts (length found) gate

first_begin : (bodies : List (List ℕ)) (front : List ℕ) (at gate : ℕ) (starts : List ℕ) → AreFrames bodies front → places_before gate starts ≡ places_from at bodies → gate ≡ at + length front → at ≡ get_or starts 0 gate
first_begin [] front at gate [] frames places end = omega (arith, end, ap length frames)
first_begin [] front at gate (s ∷ starts) frames places end = absurd (cc)
first_begin (b ∷ bodies) front at gate [] frames places end = absurd (cc)
first_begin (b ∷ bodies) front at gate (s ∷ starts) frames places end = sym (ap (λ (l : List Place). (get_or l 0 (record { at = s; length = 0 })).at) places)

pub begun_none : (gate : ℕ) (starts file found : List ℕ) → Begins gate (places_before gate starts) file → found ≡ [] → Begun gate starts found 16
begun_none gate starts file found b none = record {
  first = subst (λ (l : List ℕ). l ≡ take (length l) starts) (sym none) refl;
  here = subst (λ (l : List ℕ). 16 ≡ get_or starts (length l) gate) (sym none) (first_begin b.bodies b.front 16 gate starts b.frames b.places_are b.place);
}

pub begun_more : (gate : ℕ) (starts file found more : List ℕ) (at n : ℕ) (frame : Frame) → Begins gate (places_before gate starts) file → Begun gate starts found at → length found < length starts → IsFrame frame (drop at file) → frame ≡ Open n
    → more ≡ found ++ at ∷ [] → Begun gate starts more (at + (5 + n))
begun_more gate starts file found more at n frame b so_far low is is_open pushed =
    let k : ℕ = length found in
    let s = stands gate starts file k b low in
    let size : length more ≡ suc k = omega (arith, ap length pushed, length-append found (at ∷ [])) in
    let one : frame ≡ Open s.n = one_frame frame s.n (drop at file) (subst (λ (m : ℕ). IsFrame (Open s.n) (drop m file)) (sym so_far.here) s.is_frame) is in
    let same : n ≡ s.n = (let e : Open n ≡ Open s.n = sym is_open ∙ one in cc) in
    record {
      first = pushed ∙ ap (λ (l : List ℕ). l ++ at ∷ []) so_far.first ∙ ap (λ (m : ℕ). take k starts ++ m ∷ []) so_far.here ∙ sym (take_more starts k gate low) ∙ ap (λ (m : ℕ). take m starts) (omega (arith, size));
      here = omega (arith, so_far.here, same, s.next, ap (λ (m : ℕ). get_or starts m gate) size);
    }

pub begun_all : (gate : ℕ) (starts found : List ℕ) (at : ℕ) → Begun gate starts found at → length starts ≤ length found → found ≡ starts
begun_all gate starts found at so_far all = so_far.first ∙ take_all (length found) starts all

-- where a frame is left, the walk doesn't end
pub begun_open : (gate : ℕ) (starts file found : List ℕ) (at : ℕ) (frame : Frame) → Begins gate (places_before gate starts) file → Begun gate starts found at → length found < length starts → IsFrame frame (drop at file) → (n : ℕ) × (frame ≡ Open n)
begun_open gate starts file found at frame b so_far low is =
    let s = stands gate starts file (length found) b low in (s.n, one_frame frame s.n (drop at file) (subst (λ (m : ℕ). IsFrame (Open s.n) (drop m file)) (sym so_far.here) s.is_frame) is)
