-- An append to a log at rest.
use Rattle.std.proofs.Common.{◌≡◌, ◌≤◌, ◌<◌, inl, inr, ℕ, zero, suc, ◌+◌, List, [], ◌∷◌, ◌++◌, length, take, drop, get_or, refl, sym, ◌∙◌, ap, subst, arith, append_assoc, length-append, length-take, take-append-drop, Option, Some, None, option_map, is_some, Bool}
use Rattle.cw_disk.specs.Told.{ReadsOf}
use Rattle.std.proofs.lemmas.List.{take_at, take-take, get_or-map, length-map}
use Rattle.cw_log.specs.declared.place.Place.{Place}
use Rattle.cw_log.specs.declared.place.Frames.{Frames}
use Rattle.cw_log.specs.Calls.{IsGated}
use Rattle.cw_log.specs.Log.{field, IsBody, AreFrames, Begins, IsHead, StandsFor, BeforeOrAfter, places_from, places_before, bodies_at, length_of}
use Rattle.std.specs.Prelude.{Vec, vec_capacity}
use Rattle.std.specs.declared.alloc.Global.{Global}
use Rattle.cw_log.specs.Calls.{IsAhead}
use Rattle.cw_log.specs.declared.window.Window.{Window}
use Rattle.cw_log.specs.State.{IsKept, IsRest, IsLog, IsKnown, HasRoom, KeepsFrames}
use Rattle.cw_log.proofs.Frames.{length-field, frames_push, places_push, frames_length}
use Rattle.cw_log.proofs.Opened.{bodies_are, front_is, head_is, gate_within, kept_front, kept_stands, bodies_front}
use Rattle.cw_log.proofs.Gates.{told_before}

module _ (kind gate : ℕ) (places : List Place) (file body : List ℕ) (kept : IsKept kind gate places file) (fits : IsBody body) where
  -- the file with one frame more, whose gate is this open byte
  abbrev with_frame : ℕ → List ℕ
  with_frame byte = take gate file ++ suc byte ∷ (field body ++ 0 ∷ [])

  front : take gate file ≡ kept.begins.head ++ kept.begins.front
  front = front_is gate places file kept.begins

  split : (byte : ℕ) → take gate file ++ suc byte ∷ (field body ++ 0 ∷ []) ≡ kept.begins.head ++ (kept.begins.front ++ suc byte ∷ field body) ++ 0 ∷ []
  split byte =
      ap (λ (l : List ℕ). l ++ suc byte ∷ (field body ++ 0 ∷ [])) front
      ∙ sym (append_assoc (kept.begins.head ++ kept.begins.front) (suc byte ∷ field body) (0 ∷ []))
      ∙ ap (λ (l : List ℕ). l ++ 0 ∷ []) (append_assoc kept.begins.head kept.begins.front (suc byte ∷ field body))

  -- the frames, and the next place
  next_begins : Begins (gate + (length body + 5)) (places ++ record { at = gate; length = length body } ∷ []) (take gate file ++ 1 ∷ (field body ++ 0 ∷ []))
  next_begins = record {
    bodies = kept.begins.bodies ++ body ∷ [];
    head = kept.begins.head;
    front = kept.begins.front ++ 1 ∷ field body;
    rest = 0 ∷ [];
    split = split 0;
    size = kept.begins.size;
    frames = frames_push kept.begins.bodies kept.begins.front body 0 fits kept.begins.frames;
    places_are = ap (λ (l : List Place). l ++ record { at = gate; length = length body } ∷ []) kept.begins.places_are ∙ ap (λ (n : ℕ). places_from 16 kept.begins.bodies ++ record { at = n; length = length body } ∷ []) kept.begins.place
        ∙ sym (places_push 16 kept.begins.bodies kept.begins.front body kept.begins.frames);
    place = omega (arith, kept.begins.place, length-append kept.begins.front (1 ∷ field body), length-field body);
  }

  pub next_kept : IsKept kind (gate + (length body + 5)) (places ++ record { at = gate; length = length body } ∷ []) (take gate file ++ 1 ∷ (field body ++ 0 ∷ []))
  next_kept = record {
    begins = next_begins;
    is_head = subst (IsHead kind) (head_is gate places file kept.begins ∙ sym (ap (take 16) (split 0 ∙ append_assoc kept.begins.head (kept.begins.front ++ 1 ∷ field body) (0 ∷ [])) ∙ take_at kept.begins.head ((kept.begins.front ++ 1 ∷ field body) ++ 0 ∷ []) 16 kept.begins.size)) kept.is_head;
  }

  pub next_end : take gate file ++ 1 ∷ (field body ++ 0 ∷ []) ≡ take (gate + (length body + 5)) (take gate file ++ 1 ∷ (field body ++ 0 ∷ [])) ++ 0 ∷ []
  next_end = split 0 ∙ ap (λ (l : List ℕ). l ++ 0 ∷ []) (sym (ap (take (gate + (length body + 5))) (split 0)
      ∙ take_at (kept.begins.head ++ (kept.begins.front ++ 1 ∷ field body)) (0 ∷ []) (gate + (length body + 5))
      (omega (arith, kept.begins.place, kept.begins.size, length-append kept.begins.head (kept.begins.front ++ 1 ∷ field body), length-append kept.begins.front (1 ∷ field body), length-field body))))

  pub next_bodies : bodies_at (places ++ record { at = gate; length = length body } ∷ []) (take gate file ++ 1 ∷ (field body ++ 0 ∷ [])) ≡ bodies_at places file ++ body ∷ []
  unfolding next_begins
  next_bodies = bodies_are _ _ _ next_begins ∙ ap (λ (bs : List (List ℕ)). bs ++ body ∷ []) (sym (bodies_are gate places file kept.begins))

  -- each image of the append stands for the list before or after
  with_gate : (byte : ℕ) → BeforeOrAfter kind (bodies_at places file) body (take gate file ++ byte ∷ (field body ++ 0 ∷ []))
  with_gate zero = inl (kept_stands kind gate places file _ (field body ++ 0 ∷ []) kept refl)
  with_gate (suc byte) = inr (inr (record {
    head = kept.begins.head;
    front = kept.begins.front ++ suc byte ∷ field body;
    rest = [];
    split = split byte;
    is_head = subst (IsHead kind) (head_is gate places file kept.begins) kept.is_head;
    frames = subst (λ (bs : List (List ℕ)). AreFrames (bs ++ body ∷ []) (kept.begins.front ++ suc byte ∷ field body)) (sym (bodies_are gate places file kept.begins)) (frames_push kept.begins.bodies kept.begins.front body byte fits kept.begins.frames);
  }))

  pub gated_stands : file ≡ take gate file ++ 0 ∷ [] → (image : List ℕ) → IsGated gate file (field body ++ 0 ∷ []) image → BeforeOrAfter kind (bodies_at places file) body image
  gated_stands end image (inl is) = inl (kept_stands kind gate places file image (drop (gate + 1) image) kept
      (sym (take-append-drop (gate + 1) image) ∙ ap (λ (l : List ℕ). l ++ drop (gate + 1) image) (is ∙ end) ∙ append_assoc (take gate file) (0 ∷ []) (drop (gate + 1) image)))
  gated_stands end image (inr is) = subst (BeforeOrAfter kind (bodies_at places file) body) (sym is.1) (with_gate is.0)

-- what is before the gate stays in each image
pub gated_front : (gate : ℕ) (file tail image : List ℕ) → gate ≤ length file → IsGated gate file tail image → take gate image ≡ take gate file
gated_front gate file tail image within (inl is) = sym (take-take gate (gate + 1) image (omega arith)) ∙ ap (take gate) is
gated_front gate file tail image within (inr is) = ap (take gate) is.1 ∙ take_at (take gate file) (is.0 ∷ tail) gate (omega (arith, length-take gate file))

pub rest_long : (gate : ℕ) (places : List Place) (file : List ℕ) → Begins gate places file → file ≡ take gate file ++ 0 ∷ [] → gate + 1 ≡ length file
rest_long gate places file b end = omega (arith, ap length end, length-append (take gate file) (0 ∷ []), length-take gate file, (gate_within gate places file b).1)

-- what an append leaves where the content is told
module _ (kind gate : ℕ) (places : List Place) (body : List ℕ) (fits : IsBody body) (before after : Option (List ℕ)) (kept : (file : List ℕ) → before ≡ Some file → IsKept kind gate places file) where
  module _ (done : after ≡ option_map (λ file. take gate file ++ 1 ∷ (field body ++ 0 ∷ [])) before) where
    pub added_bodies : option_map (bodies_at (places ++ record { at = gate; length = length body } ∷ [])) after ≡ option_map (λ bodies. bodies ++ body ∷ []) (option_map (bodies_at places) before)
    added_bodies = ap (option_map (bodies_at (places ++ record { at = gate; length = length body } ∷ []))) done ∙ by_cases before kept
      where
        by_cases : (o : Option (List ℕ)) → ((file : List ℕ) → o ≡ Some file → IsKept kind gate places file)
            → option_map (bodies_at (places ++ record { at = gate; length = length body } ∷ [])) (option_map (λ file. take gate file ++ 1 ∷ (field body ++ 0 ∷ [])) o) ≡ option_map (λ bodies. bodies ++ body ∷ []) (option_map (bodies_at places) o)
        by_cases None known = refl
        by_cases (Some file) known = ap Some (next_bodies kind gate places file body (known file refl) fits)

    pub added_kept : (now : List ℕ) → after ≡ Some now → IsKept kind (gate + (length body + 5)) (places ++ record { at = gate; length = length body } ∷ []) now
    added_kept now is =
        let old = told_before (λ (file : List ℕ). take gate file ++ 1 ∷ (field body ++ 0 ∷ [])) before now (sym done ∙ is) in
        subst (IsKept kind (gate + (length body + 5)) (places ++ record { at = gate; length = length body } ∷ [])) old.2 (next_kept kind gate places old.0 body (kept old.0 old.1) fits)

    pub added_end : (now : List ℕ) → after ≡ Some now → now ≡ take (gate + (length body + 5)) now ++ 0 ∷ []
    added_end now is =
        let old = told_before (λ (file : List ℕ). take gate file ++ 1 ∷ (field body ++ 0 ∷ [])) before now (sym done ∙ is) in
        subst (λ (l : List ℕ). l ≡ take (gate + (length body + 5)) l ++ 0 ∷ []) old.2 (next_end kind gate places old.0 body (kept old.0 old.1) fits)

  module _ (told : is_some after ≡ is_some before) (front : (file now : List ℕ) → before ≡ Some file → after ≡ Some now → take gate now ≡ take gate file) where
    pub same_bodies : option_map (bodies_at places) after ≡ option_map (bodies_at places) before
    same_bodies = by_cases before after told kept front
      where
        by_cases : (o p : Option (List ℕ)) → is_some p ≡ is_some o → ((file : List ℕ) → o ≡ Some file → IsKept kind gate places file) → ((file now : List ℕ) → o ≡ Some file → p ≡ Some now → take gate now ≡ take gate file)
            → option_map (bodies_at places) p ≡ option_map (bodies_at places) o
        by_cases None None told known front = refl
        by_cases None (Some now) told known front = cc
        by_cases (Some file) None told known front = cc
        by_cases (Some file) (Some now) told known front = ap Some (bodies_front gate places file now (known file refl).begins (front file now refl refl))

    pub same_kept : (now : List ℕ) → after ≡ Some now → IsKept kind gate places now
    same_kept now is = by_cases before told kept front
      where
        by_cases : (o : Option (List ℕ)) → is_some after ≡ is_some o → ((file : List ℕ) → o ≡ Some file → IsKept kind gate places file) → ((file now : List ℕ) → o ≡ Some file → after ≡ Some now → take gate now ≡ take gate file) → IsKept kind gate places now
        by_cases None told known front = absurd (let e = ap is_some is in cc)
        by_cases (Some file) told known front = kept_front kind gate places file now (known file refl) (front file now refl is)

-- a log at rest stands for its list, whatever a stop leaves of it
pub rest_stands : (kind gate : ℕ) (places : List Place) (file image : List ℕ) (bodies : List (List ℕ)) (images : List ℕ → Type 0) → IsKept kind gate places file → IsRest gate images file → images image → bodies_at places file ≡ bodies → StandsFor kind bodies image
rest_stands kind gate places file image bodies images kept rest left is =
    subst (λ (bs : List (List ℕ)). StandsFor kind bs image) is (kept_stands kind gate places file image [] kept (rest.only image left ∙ rest.end))

-- reading changes neither
pub rest_read : (gate : ℕ) (file : List ℕ) (was now : List ℕ → Type 0) → ((image : List ℕ) → now image → was image) → IsRest gate was file → IsRest gate now file
rest_read gate file was now fewer rest = record { end = rest.end; only = λ image left. rest.only image (fewer image left) }

place_within : (at : ℕ) (bodies : List (List ℕ)) (front : List ℕ) (places : List Place) (i : ℕ) (place : Place) → AreFrames bodies front → places ≡ places_from at bodies → i < length places → place ≡ get_or places i place → place.at + 5 + place.length ≤ at + length front
place_within at [] front places i place frames are low is = absurd (omega (arith, ap length are))
place_within at (b ∷ bodies) front places zero place frames are low is =
    let e : place ≡ record { at = at; length = length b } = is ∙ ap (λ (l : List Place). get_or l 0 place) are in
    omega (arith, ap (λ (p : Place). p.at) e, ap (λ (p : Place). p.length) e, ap length frames.3, length-append (field b) frames.1, length-field b)
place_within at (b ∷ bodies) front places (suc i) place frames are low is =
    let rest = place_within (at + (5 + length b)) bodies frames.1 (places_from (at + (5 + length b)) bodies) i place frames.4 refl (omega (arith, low, ap length are)) (is ∙ ap (λ (l : List Place). get_or l (suc i) place) are) in
    omega (arith, rest, ap length frames.3, length-append (field b) frames.1, length-field b)

-- one body where it lies
pub body_at : (gate : ℕ) (places : List Place) (file : List ℕ) (i : ℕ) (place : Place) → Begins gate places file → i < length places → place ≡ get_or places i place
    → (place.at + 5 + place.length ≤ gate) × (get_or (bodies_at places file) i [] ≡ take place.length (drop (place.at + 5) file))
body_at gate places file i place b low is = (
  subst (λ (n : ℕ). place.at + 5 + place.length ≤ n) (sym b.place) (place_within 16 b.bodies b.front places i place b.frames b.places_are low is),
  get_or-map (λ (p : Place). take p.length (drop (p.at + 5) file)) places i place [] low ∙ ap (λ (p : Place). take p.length (drop (p.at + 5) file)) (sym is),
)

-- a log whose disk was read, with other room
module _ {D : Type 0} (holds : D → Option (List ℕ)) (may_leave : D → List ℕ → Type 0) (moment : D → ℕ) (left_since : D → ℕ → List ℕ → Type 0) (count reserved : D → ℕ) where
  pub log_read : (old new : D) (kind number ready ready' : ℕ) (frames frames' : Frames) (tail tail' : Vec ℕ Global) (ahead ahead' : Option Window) (shut : Bool) → IsLog holds may_leave reserved old kind number ready frames tail ahead shut
      → ReadsOf holds may_leave moment left_since count reserved old new → KeepsFrames frames frames' → ((file : List ℕ) → holds old ≡ Some file → IsKnown frames'.known frames'.starts.items)
      → (0 < ready' → HasRoom reserved new ready' frames' tail') → IsAhead (holds old) ahead' → IsLog holds may_leave reserved new kind number ready' frames' tail' ahead' shut
  log_read old new kind number ready ready' frames frames' tail tail' ahead ahead' shut log reads keeps known room is_ahead = record {
    kept = λ file is. subst (λ (n : ℕ). IsKept kind n (places_before n frames'.starts.items) file) (sym keeps.gate)
        (subst (λ (l : List ℕ). IsKept kind frames.gate (places_before frames.gate l) file) (sym keeps.starts) (log.kept file (sym reads.same ∙ is)));
    rest = λ alive file is. subst (λ (n : ℕ). IsRest n (may_leave new) file) (sym keeps.gate) (rest_read frames.gate file (may_leave old) (may_leave new) reads.fewer (log.rest alive file (sym reads.same ∙ is)));
    known = λ file is. known file (sym reads.same ∙ is);
    side = λ file is. log.side file (sym reads.same ∙ is);
    low = omega (arith, log.low, keeps.gate);
    high = omega (arith, log.high, keeps.gate);
    room = room;
    ahead_is = subst (λ (told : Option (List ℕ)). IsAhead told ahead') (sym reads.same) is_ahead;
  }

  pub room_read : (old new : D) (ready : ℕ) (frames frames' : Frames) (tail tail' : Vec ℕ Global) → HasRoom reserved old ready frames tail → reserved old ≤ reserved new → vec_capacity tail ≤ vec_capacity tail' → KeepsFrames frames frames' → HasRoom reserved new ready frames' tail'
  room_read old new ready frames frames' tail tail' room more tails keeps = record { frame = omega (arith, room.frame, tails); place = keeps.room room.place; bytes = omega (arith, room.bytes, more, keeps.gate) }

-- the numbers of a log are those of its list
pub told_count : (gate : ℕ) (places : List Place) (file : List ℕ) (bodies : List (List ℕ)) → bodies_at places file ≡ bodies → length places ≡ length bodies
told_count gate places file bodies is = sym (length-map places (λ (p : Place). take p.length (drop (p.at + 5) file))) ∙ ap length is

pub told_length : (gate : ℕ) (places : List Place) (file : List ℕ) (bodies : List (List ℕ)) → Begins gate places file → bodies_at places file ≡ bodies → gate + 1 ≡ length_of bodies
told_length gate places file bodies b is = omega (arith, b.place, frames_length b.bodies b.front b.frames, ap length_of (sym (bodies_are gate places file b) ∙ is))
