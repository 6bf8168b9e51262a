-- What a window shows of its file.
use Rattle.std.proofs.Common.{◌≡◌, ◌≤◌, ◌<◌, ℕ, zero, suc, ◌+◌, ◌-◌, ◌^◌, get_or, take-append-drop, List, [], ◌∷◌, ◌++◌, length, take, drop, sym, ◌∙◌, ap, subst, refl, arith, length-take, length-drop}
use Rattle.std.proofs.lemmas.List.{take_all, take-take, drop-take, drop-drop, get_or-drop}
use Rattle.std.proofs.lemmas.Nat.{be_bytes_4}
use Rattle.std.specs.Int.{w32, to_be_bytes, from_be_bytes}
use Rattle.cw_log.specs.declared.place.Frame.TheVariants.{Open}
use Rattle.cw_log.specs.Log.{IsFrame}
use Rattle.cw_log.specs.Calls.{Shows}

pub shows_within : (five file bytes : List ℕ) (start at filled : ℕ) → length five ≡ 5 → start ≤ at → at - start + 5 ≤ filled → filled ≤ length bytes → take filled bytes ≡ take filled (drop start file)
    → Shows five (drop (at - start) (take filled bytes)) → Shows five (drop at file)
shows_within five file bytes start at filled size low high within same shows =
    let k : ℕ = at - start in
    let m : ℕ = filled - k in
    let there : drop k (drop start file) ≡ drop at file = drop-drop k start file ∙ ap (λ (n : ℕ). drop n file) (omega arith) in
    let long : filled ≤ length (drop start file) = omega (arith, ap length same, length-take filled bytes, length-take filled (drop start file)) in
    let part : drop k (take filled bytes) ≡ take m (drop at file) = ap (drop k) (same ∙ ap (λ (n : ℕ). take n (drop start file)) (omega arith)) ∙ drop-take k m (drop start file) ∙ ap (take m) there in
    let rest_long : 5 ≤ length (drop at file) = omega (arith, ap length there, length-drop k (drop start file), long, high) in
    let part_long : 5 ≤ length (take m (drop at file)) = omega (arith, length-take m (drop at file), rest_long, high) in
    take_all (length (drop at file)) five (omega arith) ∙ sym (take_all (length (take m (drop at file))) five (omega arith))
    ∙ subst (λ (l : List ℕ). take (length l) five ≡ take 5 l) part shows ∙ take-take 5 m (drop at file) (omega arith)

-- a part of what a window shows
pub part_within : (file bytes : List ℕ) (start from at size filled : ℕ) → start + from ≡ at → from + size ≤ filled → take filled bytes ≡ take filled (drop start file)
    → take size (drop from (take filled bytes)) ≡ take size (drop at file)
part_within file bytes start from at size filled place within same =
    let m : ℕ = filled - from in
    let there : drop from (drop start file) ≡ drop at file = drop-drop from start file ∙ ap (λ (n : ℕ). drop n file) (omega arith) in
    let part : drop from (take filled bytes) ≡ take m (drop at file) = ap (drop from) (same ∙ ap (λ (n : ℕ). take n (drop start file)) (omega arith)) ∙ drop-take from m (drop start file) ∙ ap (take m) there in
    ap (take size) part ∙ take-take size m (drop at file) (omega arith)

-- five bytes over bytes of which there is one at least
shown : (five bytes : List ℕ) → length five ≡ 5 → 5 ≤ length bytes → Shows five bytes → (first : ℕ) × (rest : List ℕ) × (bytes ≡ first ∷ rest) × (first ≡ get_or five 0 0) × (take 4 rest ≡ drop 1 five)
shown [] bytes size long shows = absurd (omega arith)
shown (f ∷ fs) [] size long shows = absurd (omega arith)
shown (f ∷ fs) (b ∷ bytes) size long shows = (b, bytes, refl, head, tail)
  where
    head : b ≡ f
    head = cc

    same : take (length bytes) fs ≡ take 4 bytes
    same = cc

    tail : take 4 bytes ≡ fs
    tail = sym same ∙ take_all (length bytes) fs (omega arith)

above : (n : ℕ) → 0 < n → (m : ℕ) × (n ≡ suc m)
above zero some = absurd (omega arith)
above (suc n) some = (n, refl)

four : (five : List ℕ) → length five ≡ 5 → drop 1 five ≡ get_or five 1 0 ∷ get_or five 2 0 ∷ get_or five 3 0 ∷ get_or five 4 0 ∷ []
four [] size = absurd (omega arith)
four (a ∷ []) size = absurd (omega arith)
four (a ∷ b ∷ []) size = absurd (omega arith)
four (a ∷ b ∷ c ∷ []) size = absurd (omega arith)
four (a ∷ b ∷ c ∷ d ∷ []) size = absurd (omega arith)
four (a ∷ b ∷ c ∷ d ∷ e ∷ []) size = refl
four (a ∷ b ∷ c ∷ d ∷ e ∷ f ∷ rest) size = absurd (omega arith)

pub open_frame : (five bytes : List ℕ) (n : ℕ) → length five ≡ 5 → ((i : ℕ) → get_or five i 0 < 256) → Shows five bytes → 0 < get_or five 0 0
    → n ≡ from_be_bytes w32 (get_or five 1 0 ∷ get_or five 2 0 ∷ get_or five 3 0 ∷ get_or five 4 0 ∷ []) → 0 < n → n < 2 ^ 32 → 5 + n ≤ length bytes → IsFrame (Open n) bytes
open_frame five bytes n size small shows gate is some few within =
    let is_shown = shown five bytes size (omega arith) shows in
    let first = above is_shown.0 (omega (arith, is_shown.3)) in
    let says : to_be_bytes w32 n ≡ take 4 is_shown.1 =
    be_bytes_4 (drop 1 five) n (omega (arith, length-drop 1 five)) (λ i. omega (arith, small (1 + i), get_or-drop 1 five i 0)) (is ∙ ap (from_be_bytes w32) (sym (four five size))) ∙ sym is_shown.4 in (
      first.0,
      drop 4 is_shown.1,
      is_shown.2 ∙ ap (λ (b : ℕ). b ∷ is_shown.1) first.1 ∙ ap (λ (l : List ℕ). suc first.0 ∷ l) (sym (take-append-drop 4 is_shown.1) ∙ ap (λ (l : List ℕ). l ++ drop 4 is_shown.1) (sym says)),
      some,
      few,
      omega (arith, length-drop 4 is_shown.1, ap length is_shown.2),
    )
