-- Tasks' configs beside those that are proposed, one task behind the other.
use Rattle.std.proofs.Common.{◌≡◌, ◌≢◌, ℕ, zero, suc, ◌+◌, ◌-◌, ◌<◌, ◌&&◌, Bool, true, false, List, [], ◌∷◌, length, map, drop, get_or, Option, Some, refl, sym, ap, ◌∙◌, arith}
use Rattle.std.specs.Option.{option_eq}
use Rattle.std.specs.List.{range_with_len}
use Rattle.std.specs.Cmp.Lexicographic.{pointwise}
use Rattle.std.proofs.lemmas.List.{drop_more, drop_all}
use Rattle.cw_config.specs.View.{Properties}
use Rattle.cw_model.specs.Proposals.{same_properties, are_configs}

module _ (f : ℕ → Option Properties) (ps : List Properties) where
  -- whether the tasks from one on have the configs from there on
  abbrev pub from_on : ℕ → Bool
  from_on at = are_configs (map f (range_with_len at (length ps - at))) (drop at ps)

  pub next-config : (at : ℕ) (p : Properties) (b : Bool) → at < length ps → p ≡ get_or ps at p → option_eq same_properties (f at) (Some p) ≡ b →
      from_on at ≡ (b && from_on (at + 1))
  next-config at p b within here is =
      let more : length ps - at ≡ suc (length ps - (at + 1)) = omega arith in
      let rest : drop at ps ≡ p ∷ drop (at + 1) ps =
      drop_more ps at p within ∙ ap (λ (q : Properties). q ∷ drop (at + 1) ps) (sym here) in
      ap (λ (n : ℕ). are_configs (map f (range_with_len at n)) (drop at ps)) more ∙
      ap (λ (qs : List Properties). are_configs (map f (range_with_len at (suc (length ps - (at + 1))))) qs) rest ∙
      ap (λ (c : Bool). c && from_on (at + 1)) is

  pub no-config : (at : ℕ) → length ps ≡ at → from_on at ≡ true
  no-config at is =
      let none : length ps - at ≡ 0 = omega arith in
      ap (λ (n : ℕ). are_configs (map f (range_with_len at n)) (drop at ps)) none ∙
      ap (λ (qs : List Properties). are_configs [] qs) (drop_all at ps (omega arith))

unlike-lengths : {A : Type 0} (E : A → A → Bool) (xs ys : List A) → length xs ≢ length ys → pointwise E xs ys ≡ false
unlike-lengths E [] [] unlike = absurd (unlike refl)
unlike-lengths E [] (y ∷ ys) unlike = refl
unlike-lengths E (x ∷ xs) [] unlike = refl
unlike-lengths E (x ∷ xs) (y ∷ ys) unlike = behind (E x y) (unlike-lengths E xs ys (λ same. unlike (ap suc same))) where
  behind : (b : Bool) → pointwise E xs ys ≡ false → (b && pointwise E xs ys) ≡ false
  behind true none = none
  behind false none = refl

length-mapped : (f : ℕ → Option Properties) (at n : ℕ) → length (map f (range_with_len at n)) ≡ n
length-mapped f at zero = refl
length-mapped f at (suc n) = ap suc (length-mapped f (at + 1) n)

length-some : (ps : List Properties) → length (map Some ps) ≡ length ps
length-some [] = refl
length-some (p ∷ ps) = ap suc (length-some ps)

-- other numbers of tasks have other configs
pub other-counts : (f : ℕ → Option Properties) (n : ℕ) (ps : List Properties) → n ≢ length ps →
    are_configs (map f (range_with_len 0 n)) ps ≡ false
other-counts f n ps other = unlike-lengths (option_eq same_properties) (map f (range_with_len 0 n)) (map Some ps)
    (λ same. other (sym (length-mapped f 0 n) ∙ same ∙ length-some ps))
