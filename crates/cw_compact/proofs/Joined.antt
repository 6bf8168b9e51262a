-- Steps of walks over the frames of a log.
use Rattle.std.proofs.Common.{◌≡◌, ℕ, zero, suc, ◌+◌, ◌-◌, ◌<◌, Bool, not, cond, ◌==◌, List, [], ◌∷◌, ◌++◌, length, take, get_or, map, refl, sym, ap, ◌∙◌, arith, length-append}
use Rattle.std.specs.List.{filter}
use Rattle.std.proofs.lemmas.List.{map-append, take_more}
use Rattle.std.proofs.lemmas.List.Concat.{flat_map-append}
use Rattle.std.proofs.lemmas.List.Elements.{filter-append}
use Rattle.cw_bytes.specs.Frames.{joined, staying}

pub append_none : {A : Type 0} (l : List A) → l ++ [] ≡ l
append_none [] = refl
append_none (x ∷ l) = ap (λ (r : List _). x ∷ r) (append_none l)

-- one element more
pub more : {A : Type 0} (xs : List A) (i : ℕ) (x : A) → i < length xs → x ≡ get_or xs i x → take (i + 1) xs ≡ take i xs ++ x ∷ []
more xs i x within is = take_more xs i x within ∙ ap (λ (y : _). take i xs ++ y ∷ []) (sym is)

-- one frame more
pub joined_more : {A : Type 0} (frames : List (List A)) (i : ℕ) (frame : List A) → i < length frames → frame ≡ get_or frames i frame
    → joined (take (i + 1) frames) ≡ joined (take i frames) ++ frame
joined_more {A} frames i frame within is =
    ap joined (more frames i frame within is)
    ∙ flat_map-append (λ (f : List A). f) (take i frames) (frame ∷ [])
    ∙ ap (λ (l : List A). joined (take i frames) ++ l) (append_none frame)

take_none : {A : Type 0} (n : ℕ) → take {A = A} n [] ≡ []
take_none zero = refl
take_none (suc n) = refl

take_both : {A : Type 0} (n : ℕ) (xs ys : List A) → take n xs ++ take (n - length xs) ys ≡ take n (xs ++ ys)
take_both {A} n [] ys = let e : n - 0 ≡ n = omega arith in ap (λ (l : List A). l ++ take (n - 0) ys) (take_none n) ∙ ap (λ (k : ℕ). take k ys) e
take_both zero (x ∷ xs) ys = let e : 0 - length (x ∷ xs) ≡ 0 = omega arith in ap (λ (k : ℕ). take k ys) e
take_both {A} (suc n) (x ∷ xs) ys = let e : suc n - suc (length xs) ≡ n - length xs = omega arith in
    ap (λ (k : ℕ). (x ∷ take n xs) ++ take k ys) e ∙ ap (λ (l : List A). x ∷ l) (take_both n xs ys)

-- of so many elements of all frames, those of one frame more
pub taken_more : {A : Type 0} (n : ℕ) (frames : List (List A)) (i : ℕ) (frame : List A) → i < length frames → frame ≡ get_or frames i frame
    → take n (joined (take i frames)) ++ take (n - length (joined (take i frames))) frame ≡ take n (joined (take (i + 1) frames))
taken_more n frames i frame within is = take_both n (joined (take i frames)) frame ∙ ap (take n) (sym (joined_more frames i frame within is))

pub left_more : {A : Type 0} (n : ℕ) (frames : List (List A)) (i : ℕ) (frame : List A) → i < length frames → frame ≡ get_or frames i frame
    → n - length (joined (take i frames)) - length frame ≡ n - length (joined (take (i + 1) frames))
left_more n frames i frame within is =
    let e : length (joined (take (i + 1) frames)) ≡ length (joined (take i frames)) + length frame = ap length (joined_more frames i frame within is) ∙ length-append (joined (take i frames)) frame in
    omega (arith, e)

-- ---- frames with what stays

module _ {A : Type 0} (stays : A → Bool) where
  pub staying-push : (frames : List (List A)) (frame : List A) → staying stays (frames ++ frame ∷ []) ≡ staying stays frames ++ cond (not (length (filter stays frame) == 0)) (filter stays frame ∷ []) []
  staying-push frames frame =
      ap (filter (λ (f : List A). not (length f == 0))) (map-append (filter stays) frames (frame ∷ []))
      ∙ filter-append (λ (f : List A). not (length f == 0)) (map (filter stays) frames) (filter stays frame ∷ [])
