-- A log that is written whole behind a closed first gate.
use Rattle.std.proofs.Common.{◌≡◌, ◌⊎◌, ◌≤◌, ◌<◌, inl, inr, ℕ, zero, suc, ◌+◌, ◌^◌, List, [], ◌∷◌, ◌++◌, length, take, drop, get_or, refl, sym, ◌∙◌, ap, subst, arith, length-take, Vec}
use Rattle.std.specs.Prelude.{All}
use Rattle.std.specs.declared.alloc.Global.{Global}
use Rattle.std.proofs.lemmas.List.{take-map, get_or-map, length-map, take_at, take_more, drop_more}
use Rattle.std.proofs.lemmas.List.Elements.{All-more, All-weaker}
use Rattle.std.proofs.lemmas.Nat.{from_be_bytes-to_be_bytes_8}
use Rattle.cw_disk.specs.Disk.{Torn}
use Rattle.cw_log.specs.declared.place.Place.{Place}
use Rattle.cw_log.specs.declared.place.Frames.{Frames}
use Rattle.cw_log.specs.Log.{IsBody, IsHead, IsMade, IsSide, IsUnmade, StandsFor, Begins, bodies_at, byte_at, field, header, length_of, number_of, places_before, places_of}
use Rattle.cw_log.specs.State.{IsKept}
use Rattle.cw_log.specs.Compaction.{IsClosed, IsLogOf, IsRegated, IsStaged, bodies_in, with_gate_open}
use Rattle.cw_log.proofs.Appended.{next_kept, next_end, next_bodies, rest_long}
use Rattle.cw_log.proofs.Opened.{empty_kept, empty_end, bodies_are, gate_within, kept_stands}
use Rattle.cw_log.proofs.Sides.{front_head, number_same}

-- a log has its header and a gate at least
pub length_of-some : (bodies : List (List ℕ)) → 17 ≤ length_of bodies
length_of-some [] = omega arith
length_of-some (body ∷ bodies) = omega (arith, length_of-some bodies)

module _ (vectors : List (Vec ℕ Global)) (i : ℕ) (d : Vec ℕ Global) (low : i < length vectors) where
  pub rest_length : length_of (bodies_in (drop i vectors)) ≡ (length (get_or vectors i d).items + 5) + length_of (bodies_in (drop (i + 1) vectors))
  rest_length = ap (λ (vs : List (Vec ℕ Global)). length_of (bodies_in vs)) (drop_more vectors i d low)

  pub next_fits : (length (get_or vectors i d).items + 5) + 17 ≤ length_of (bodies_in (drop i vectors))
  next_fits = omega (arith, rest_length, length_of-some (bodies_in (drop (i + 1) vectors)))

  pub bodies_more : bodies_in (take (i + 1) vectors) ≡ bodies_in (take i vectors) ++ (get_or vectors i d).items ∷ []
  bodies_more =
      sym (take-map (λ (v : Vec ℕ Global). v.items) (i + 1) vectors)
      ∙ take_more (bodies_in vectors) i [] (omega (arith, length-map vectors (λ (v : Vec ℕ Global). v.items)))
      ∙ ap (λ (l : List (List ℕ)). l ++ get_or (bodies_in vectors) i [] ∷ []) (take-map (λ (v : Vec ℕ Global). v.items) i vectors)
      ∙ ap (λ (body : List ℕ). bodies_in (take i vectors) ++ body ∷ []) (get_or-map (λ (v : Vec ℕ Global). v.items) vectors i d [] low)

  pub in_all : (P : List ℕ → Type 0) → All P (bodies_in vectors) → P (get_or vectors i d).items
  in_all P all = subst P (get_or-map (λ (v : Vec ℕ Global). v.items) vectors i d [] low) (all i [] (omega (arith, length-map vectors (λ (v : Vec ℕ Global). v.items))))

  pub all_more : (P Q : List ℕ → Type 0) → ((body : List ℕ) → P body → Q body) → All P (bodies_in (take i vectors)) → Q (get_or vectors i d).items → All Q (bodies_in (take (i + 1) vectors))
  all_more P Q weaker all here =
      subst (All Q) (take-map (λ (v : Vec ℕ Global). v.items) (i + 1) vectors)
      (All-more Q (bodies_in vectors) i [] (omega (arith, length-map vectors (λ (v : Vec ℕ Global). v.items)))
      (subst (All Q) (sym (take-map (λ (v : Vec ℕ Global). v.items) i vectors)) (All-weaker P Q weaker (bodies_in (take i vectors)) all))
      (subst Q (sym (get_or-map (λ (v : Vec ℕ Global). v.items) vectors i d [] low)) here))

pub closed_unmade : (image : List ℕ) → IsClosed image → IsUnmade image
closed_unmade [] closed = inl (omega arith)
closed_unmade (b ∷ image) closed = inr (ap (λ (l : List ℕ). get_or l 0 0) closed)

-- a write behind the first byte keeps it
pub closed_torn : (at n : ℕ) (old image : List ℕ) → 1 ≤ at → IsClosed old → Torn at n old image → IsClosed image
closed_torn at n old image low closed torn = first at low old image closed torn.before
  where
    first : (at : ℕ) → 1 ≤ at → (old image : List ℕ) → IsClosed old → take at image ≡ take at old → IsClosed image
    first zero low old image closed same = absurd (omega (arith, low))
    first (suc at) low [] image closed same = cc
    first (suc at) low (a ∷ old) [] closed same = cc
    first (suc at) low (a ∷ old) (b ∷ image) closed same = ap (λ (x : ℕ). x ∷ []) (ap (λ (l : List ℕ). get_or l 0 0) same) ∙ closed

pub first_torn : (file image : List ℕ) → IsClosed file → Torn 0 1 file image → IsUnmade image ⊎ ((gate : ℕ) × (image ≡ suc gate ∷ drop 1 file))
first_torn [] image closed torn = absurd (let e = ap length closed in omega (arith, e))
first_torn (a ∷ file) [] closed torn = inl (inl (omega arith))
first_torn (a ∷ file) (zero ∷ image) closed torn = inl (inr refl)
first_torn (a ∷ file) (suc g ∷ image) closed torn = inr (g, ap (λ (l : List ℕ). suc g ∷ l) torn.after)

-- the header and a closed gate
pub number_new : (kind number gate : ℕ) → number < 2 ^ 64 → number_of (gate ∷ (header kind number ++ 0 ∷ [])) ≡ number
unfolding header
number_new kind number gate fits = from_be_bytes-to_be_bytes_8 number fits

pub staged_first : (kind number : ℕ) (frames : Frames) (file : List ℕ) → number < 2 ^ 64 → frames.gate ≡ 16 → frames.starts.items ≡ [] → file ≡ 0 ∷ (header kind number ++ 0 ∷ []) → IsStaged kind number [] frames file
staged_first kind number frames file fits gate starts is =
    let places : places_of frames ≡ [] = ap (places_before frames.gate) starts in
    let front : with_gate_open file ≡ 1 ∷ (header kind number ++ 0 ∷ []) = ap with_gate_open is in
    record {
      closed = ap (take 1) is;
      kept = subst (λ (f : List ℕ). IsKept kind frames.gate (places_of frames) f) (sym front)
          (subst (λ (l : List Place). IsKept kind frames.gate l (1 ∷ (header kind number ++ 0 ∷ []))) (sym places)
          (subst (λ (n : ℕ). IsKept kind n [] (1 ∷ (header kind number ++ 0 ∷ []))) (sym gate) (empty_kept kind number)));
      end = subst (λ (f : List ℕ). f ≡ take frames.gate f ++ 0 ∷ []) (sym front)
          (subst (λ (n : ℕ). 1 ∷ (header kind number ++ 0 ∷ []) ≡ take n (1 ∷ (header kind number ++ 0 ∷ [])) ++ 0 ∷ []) (sym gate) (empty_end kind number));
      list = ap (λ (l : List Place). bodies_at l (with_gate_open file)) places;
      side = ap number_of front ∙ number_new kind number 1 fits;
    }

-- what is put behind the first byte is put behind an open gate too
open_front : (gate : ℕ) (file tail : List ℕ) → 1 ≤ gate → IsClosed file → with_gate_open (take gate file ++ tail) ≡ take gate (with_gate_open file) ++ tail
open_front zero file tail low closed = absurd (omega (arith, low))
open_front (suc gate) [] tail low closed = cc
open_front (suc gate) (b ∷ file) tail low closed = refl

closed_front : (gate : ℕ) (file tail : List ℕ) → 1 ≤ gate → IsClosed file → IsClosed (take gate file ++ tail)
closed_front zero file tail low closed = absurd (omega (arith, low))
closed_front (suc gate) [] tail low closed = cc
closed_front (suc gate) (b ∷ file) tail low closed = closed

-- one frame more
pub staged_next : (kind number : ℕ) (bodies : List (List ℕ)) (frames next : Frames) (file body now : List ℕ) → IsStaged kind number bodies frames file → IsBody body
    → places_of next ≡ places_of frames ++ record { at = frames.gate; length = length body } ∷ [] → next.gate ≡ frames.gate + (length body + 5) → now ≡ take frames.gate file ++ 1 ∷ (field body ++ 0 ∷ [])
    → IsStaged kind number (bodies ++ body ∷ []) next now
staged_next kind number bodies frames next file body now staged fits places gate is =
    let old : List ℕ = with_gate_open file in
    let within = gate_within frames.gate (places_of frames) old staged.kept.begins in
    let low : 1 ≤ frames.gate = omega (arith, within.0) in
    let front : with_gate_open now ≡ take frames.gate old ++ 1 ∷ (field body ++ 0 ∷ []) = ap with_gate_open is ∙ open_front frames.gate file (1 ∷ (field body ++ 0 ∷ [])) low staged.closed in
    let new : List ℕ = take frames.gate old ++ 1 ∷ (field body ++ 0 ∷ []) in
    let more : List Place = places_of frames ++ record { at = frames.gate; length = length body } ∷ [] in
    record {
      closed = subst IsClosed (sym is) (closed_front frames.gate file (1 ∷ (field body ++ 0 ∷ [])) low staged.closed);
      kept = subst (λ (f : List ℕ). IsKept kind next.gate (places_of next) f) (sym front) (subst (λ (l : List Place). IsKept kind next.gate l new) (sym places)
          (subst (λ (n : ℕ). IsKept kind n more new) (sym gate) (next_kept kind frames.gate (places_of frames) old body staged.kept fits)));
      end = subst (λ (f : List ℕ). f ≡ take next.gate f ++ 0 ∷ []) (sym front) (subst (λ (n : ℕ). new ≡ take n new ++ 0 ∷ []) (sym gate) (next_end kind frames.gate (places_of frames) old body staged.kept fits));
      list = ap (bodies_at (places_of next)) front ∙ ap (λ (l : List Place). bodies_at l new) places ∙ next_bodies kind frames.gate (places_of frames) old body staged.kept fits ∙ ap (λ (l : List (List ℕ)). l ++ body ∷ []) staged.list;
      side = ap number_of front ∙ number_same old new (front_head frames.gate old new within.0 (take_at (take frames.gate old) (1 ∷ (field body ++ 0 ∷ [])) frames.gate (omega (arith, within.1, length-take frames.gate old)))) ∙ staged.side;
    }

pub staged_long : (kind number : ℕ) (bodies : List (List ℕ)) (frames : Frames) (file : List ℕ) → IsStaged kind number bodies frames file → frames.gate + 1 ≡ length file
staged_long kind number bodies frames file staged = omega (arith, rest_long frames.gate (places_of frames) (with_gate_open file) staged.kept.begins staged.end, same file staged.closed)
  where
    same : (file : List ℕ) → IsClosed file → length (with_gate_open file) ≡ length file
    same [] closed = absurd (let e = ap length closed in omega (arith, e))
    same (b ∷ file) closed = refl

-- the first byte 0 in the place of a file's
pub regated : (file image : List ℕ) → 2 ≤ length file → 0 < byte_at file 0 → Torn 0 1 file image → IsRegated file image
regated file image long some torn = record { long = long; «open» = some; behind = torn.after }

pub made_of : (kind number : ℕ) (bodies : List (List ℕ)) (file : List ℕ) → StandsFor kind bodies file → IsSide number file → IsMade kind bodies file
made_of kind number bodies file (inl unmade) side = absurd (none file unmade.0 side.long side.«open»)
  where
    none : (file : List ℕ) → IsUnmade file → 2 ≤ length file → 0 < byte_at file 0 → ⊥
    none file (inl short) long some = omega (arith, short, long)
    none file (inr closed) long some = omega (arith, closed, some)
made_of kind number bodies file (inr made) side = made

-- the same bytes behind the first end at the same gate
swapped : (gate byte : ℕ) (rest : List ℕ) → 16 ≤ gate → 1 ∷ rest ≡ take gate (1 ∷ rest) ++ 0 ∷ [] → take gate (suc byte ∷ rest) ++ 0 ∷ [] ≡ suc byte ∷ rest
swapped zero byte rest low end = absurd (omega (arith, low))
swapped (suc gate) byte rest low end = ap (λ (l : List ℕ). suc byte ∷ l) (sym (ap (drop 1) end))

-- any byte as an open gate before what stands behind one
regated_head : (kind gate : ℕ) (rest : List ℕ) → IsHead kind (take 16 (1 ∷ rest)) → IsHead kind (take 16 (suc gate ∷ rest))
regated_head kind gate rest head = record { size = head.size; «open» = omega arith; harmless = head.harmless }

regated_begins : (gate byte : ℕ) (places : List Place) (rest : List ℕ) → (b : Begins gate places (1 ∷ rest)) → (now : Begins gate places (suc byte ∷ rest)) × (now.bodies ≡ b.bodies)
regated_begins gate byte places rest b = by_head b.head b.size b.split
  where
    by_head : (head : List ℕ) → length head ≡ 16 → 1 ∷ rest ≡ head ++ b.front ++ b.rest → (now : Begins gate places (suc byte ∷ rest)) × (now.bodies ≡ b.bodies)
    by_head [] size split = absurd (omega (arith, size))
    by_head (first ∷ head) size split = (
      record {
        bodies = b.bodies;
        head = suc byte ∷ head;
        front = b.front;
        rest = b.rest;
        split = ap (λ (l : List ℕ). suc byte ∷ l) (ap (drop 1) split);
        size = size;
        frames = b.frames;
        places_are = b.places_are;
        place = b.place;
      },
      refl,
    )

-- the first gate was opened, whatever byte it is
pub staged_log : (kind number : ℕ) (bodies : List (List ℕ)) (frames : Frames) (file image : List ℕ) (byte : ℕ) → IsStaged kind number bodies frames file → image ≡ suc byte ∷ drop 1 file → IsLogOf kind number bodies image
staged_log kind number bodies frames file image byte staged is =
    let rest : List ℕ = drop 1 file in
    let places : List Place = places_of frames in
    let begins = regated_begins frames.gate byte places rest staged.kept.begins in
    let kept : IsKept kind frames.gate places (suc byte ∷ rest) = record { begins = begins.0; is_head = regated_head kind byte rest staged.kept.is_head } in
    let within = gate_within frames.gate places (1 ∷ rest) staged.kept.begins in
    let front : take frames.gate (suc byte ∷ rest) ++ 0 ∷ [] ≡ suc byte ∷ rest = swapped frames.gate byte rest within.0 staged.end in
    let bodies_same : bodies_at places (suc byte ∷ rest) ≡ bodies = bodies_are frames.gate places (suc byte ∷ rest) begins.0 ∙ begins.1 ∙ sym (bodies_are frames.gate places (1 ∷ rest) staged.kept.begins) ∙ staged.list in
    let side : IsSide number (suc byte ∷ rest) = record { long = omega (arith, within.0, within.1); «open» = omega arith; side = staged.side } in
    let stands : StandsFor kind bodies (suc byte ∷ rest) = subst (λ (bs : List (List ℕ)). StandsFor kind bs (suc byte ∷ rest)) bodies_same (kept_stands kind frames.gate places (suc byte ∷ rest) (suc byte ∷ rest) [] kept (sym front)) in
    subst (IsLogOf kind number bodies) (sym is) (record { side = side; made = made_of kind number bodies (suc byte ∷ rest) stands side })
