-- A list at a place of one of its elements.
use Rattle.std.proofs.Common.{◌≡◌, ℕ, suc, ◌+◌, ◌<◌, List, ◌∷◌, ◌++◌, length, take, drop, slice_index_or, drop-cons, add-one, sym, ap, ◌∙◌}
use Rattle.std.proofs.lemmas.List.{take-append-drop}

pub cut_at : {A : Type 0} (xs : List A) (at : ℕ) (x : A) → at < length xs → slice_index_or xs at x ≡ x → xs ≡ take at xs ++ x ∷ drop (at + 1) xs
cut_at {A} xs at x within there = sym (take-append-drop at xs) ∙ ap (λ l. take at xs ++ l) (rw (add-one, drop-cons xs at x) (ap (λ (y : A). y ∷ drop (suc at) xs) there))
