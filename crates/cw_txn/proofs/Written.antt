-- Writing a list field by field.
use Rattle.std.proofs.Common.{◌≡◌, ℕ, ◌+◌, ◌<◌, ◌≤◌, List, [], ◌∷◌, ◌++◌, length, take, get_or, All, sym, ap, subst, ◌∙◌, append_assoc}
use Rattle.std.specs.List.{flat_map, AllByRecursion}
use Rattle.std.proofs.lemmas.List.{append-nil, take_more, take_all}
use Rattle.std.proofs.lemmas.List.Concat.{flat_map-cons}
use Rattle.std.proofs.lemmas.List.Elements.{All-more, recursion_from_All}
use Rattle.std.proofs.lemmas.Grind.{flat_map-append}

module _ {A : Type 0} (bytes : A → List ℕ) (is : A → Type 0) (xs : List A) (i : ℕ) (x : A) (within : i < length xs) (item : x ≡ get_or xs i x) where
  flat_map-more : flat_map bytes (take (i + 1) xs) ≡ flat_map bytes (take i xs) ++ bytes x
  flat_map-more =
      ap (flat_map bytes) (take_more xs i x within) ∙ flat_map-append bytes (take i xs) (get_or xs i x ∷ [])
      ∙ ap (λ (l : List ℕ). flat_map bytes (take i xs) ++ l) (flat_map-cons bytes (get_or xs i x) [] ∙ append-nil (bytes (get_or xs i x)) ∙ ap bytes (sym item))

  -- the bytes behind one element more
  pub written_more : (old front now new : List ℕ) → now ≡ old ++ (front ++ flat_map bytes (take i xs)) → new ≡ now ++ bytes x → new ≡ old ++ (front ++ flat_map bytes (take (i + 1) xs))
  written_more old front now new was e =
      e ∙ ap (λ (l : List ℕ). l ++ bytes x) was ∙ append_assoc old (front ++ flat_map bytes (take i xs)) (bytes x)
      ∙ ap (λ (l : List ℕ). old ++ l) (append_assoc front (flat_map bytes (take i xs)) (bytes x) ∙ ap (λ (l : List ℕ). front ++ l) (sym flat_map-more))

  pub all_more : All is (take i xs) → is x → All is (take (i + 1) xs)
  all_more each here = All-more is xs i x within each (subst is item here)

pub all_written : {A : Type 0} (is : A → Type 0) (xs : List A) (i : ℕ) → length xs ≤ i → All is (take i xs) → AllByRecursion is xs
all_written is xs i past each = recursion_from_All is xs (subst (All is) (take_all i xs past) each)
