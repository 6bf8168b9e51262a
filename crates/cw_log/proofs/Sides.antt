-- Headers and side numbers.
use Rattle.std.proofs.Common.{◌≡◌, ◌≤◌, ◌<◌, ℕ, ◌+◌, List, [], ◌∷◌, ◌++◌, Option, Some, length, take, drop, get_or, refl, sym, ◌∙◌, ap, subst, arith, length-append, append_assoc}
use Rattle.std.proofs.lemmas.List.{get_or-take, length-take, take-take, take_at, drop_at}
use Rattle.cw_log.specs.declared.place.Place.{Place}
use Rattle.cw_log.specs.Calls.{IsGated}
use Rattle.cw_log.specs.Log.{Begins, EndsAtGate, HasHead, IsSide, header, new_log, number_of}
use Rattle.cw_log.specs.State.{IsKept}
use Rattle.cw_log.proofs.Appended.{gated_front}
use Rattle.cw_log.proofs.Opened.{gate_within}

pub number_take : (file : List ℕ) → number_of (take 16 file) ≡ number_of file
number_take file =
    let a = get_or-take 16 file 8 0 (omega arith) in
    let b = get_or-take 16 file 9 0 (omega arith) in
    let c = get_or-take 16 file 10 0 (omega arith) in
    let d = get_or-take 16 file 11 0 (omega arith) in
    let e = get_or-take 16 file 12 0 (omega arith) in
    let f = get_or-take 16 file 13 0 (omega arith) in
    let g = get_or-take 16 file 14 0 (omega arith) in
    let h = get_or-take 16 file 15 0 (omega arith) in
    cc

pub number_same : (file other : List ℕ) → HasHead file other → number_of other ≡ number_of file
number_same file other same = sym (number_take other) ∙ ap number_of same ∙ number_take file

pub front_head : (n : ℕ) (file other : List ℕ) → 16 ≤ n → take n other ≡ take n file → HasHead file other
front_head n file other long same = sym (take-take 16 n other long) ∙ ap (take 16) same ∙ take-take 16 n file long

pub side_same : (n : ℕ) (file other : List ℕ) → HasHead file other → 16 ≤ length file → IsSide n file → IsSide n other
side_same n file other same long side = record {
  long = omega (arith, long, ap length same, length-take 16 file, length-take 16 other);
  «open» = subst (λ (b : ℕ). 0 < b) (sym (get_or-take 16 file 0 0 (omega arith)) ∙ ap (λ (l : List ℕ). get_or l 0 0) (sym same) ∙ get_or-take 16 other 0 0 (omega arith)) side.«open»;
  side = number_same file other same ∙ side.side;
}

pub kept_side : (kind gate n : ℕ) (places : List Place) (file : List ℕ) → IsKept kind gate places file → number_of file ≡ n → IsSide n file
kept_side kind gate n places file kept is = record {
  long = (let w = gate_within gate places file kept.begins in omega (arith, w.0, w.1));
  «open» = subst (λ (b : ℕ). 0 < b) (get_or-take 16 file 0 0 (omega arith)) kept.is_head.«open»;
  side = is;
}

-- a log whose gate is opened keeps its header
pub gated_side : (kind gate n : ℕ) (places : List Place) (file tail image : List ℕ) → IsKept kind gate places file → number_of file ≡ n → IsGated gate file tail image → IsSide n image
gated_side kind gate n places file tail image kept is gated =
    let w = gate_within gate places file kept.begins in
    side_same n file image (front_head gate file image w.0 (gated_front gate file tail image w.1 gated)) (omega (arith, w.0, w.1)) (kept_side kind gate n places file kept is)

pub new_number : (kind : ℕ) → number_of (new_log kind) ≡ 1
unfolding header
new_number kind = refl

-- a file that is cut behind its closed gate
pub ends_at_gate : (gate : ℕ) (places : List Place) (file rest : List ℕ) (now : Option (List ℕ)) → Begins gate places file → drop gate file ≡ 0 ∷ rest → now ≡ Some (take (gate + 1) file) → EndsAtGate file now
ends_at_gate gate places file rest now b closed is =
    let size : length (b.head ++ b.front) ≡ gate = omega (arith, length-append b.head b.front, b.size, b.place) in
    let behind : drop gate file ≡ b.rest = ap (drop gate) b.split ∙ drop_at (b.head ++ b.front) b.rest gate size in
    let split : file ≡ b.head ++ b.front ++ 0 ∷ rest = b.split ∙ ap (λ (l : List ℕ). b.head ++ b.front ++ l) (sym behind ∙ closed) in
    record {
      bodies = b.bodies;
      head = b.head;
      front = b.front;
      rest = rest;
      size = b.size;
      frames = b.frames;
      split = split;
      now_is = is ∙ ap (λ (l : List ℕ). Some (take (gate + 1) l)) (split ∙ sym (append_assoc (b.head ++ b.front) (0 ∷ []) rest))
          ∙ ap Some (take_at (b.head ++ b.front ++ 0 ∷ []) rest (gate + 1) (omega (arith, length-append (b.head ++ b.front) (0 ∷ []), size)));
    }
