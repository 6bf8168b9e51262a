-- A test of all numbers below one.
use Rattle.std.proofs.Common.{◌≡◌, ℕ, ◌+◌, ◌<◌, Bool, true, false, ◌&&◌, List, [], ◌∷◌, ◌++◌, map, length, get_or, subst, sym, ap, ◌∙◌, zero-add, refl}
use Rattle.std.specs.List.{list_all, range_with_len}
use Rattle.std.proofs.lemmas.List.Folds.{list_all-append, list_all-map, list_all_at}
use Rattle.std.proofs.lemmas.List.FromFn.{map-range_with_len_more, length-range_with_len, get_or-range_with_len}

both_true : (a b c : Bool) → a ≡ true → b ≡ true → c ≡ true → (a && (b && c)) ≡ true
both_true a b c x y z = ap (λ (v : Bool). v && (b && c)) x ∙ ap (λ (v : Bool). v && c) y ∙ z

pub all_more : (p : ℕ → Bool) (n : ℕ) → list_all p (range_with_len 0 n) ≡ true → p n ≡ true → list_all p (range_with_len 0 (n + 1)) ≡ true
all_more p n so_far here =
    let same : (b : Bool) → Bool = λ (b : Bool). b in
    sym (list_all-map same p (range_with_len 0 (n + 1)))
    ∙ ap (list_all same) (map-range_with_len_more p 0 n n (zero-add n))
    ∙ list_all-append same (map p (range_with_len 0 n)) (p n ∷ [])
    ∙ ap (λ (b : Bool). b && (p n && true)) (list_all-map same p (range_with_len 0 n))
    ∙ both_true (list_all p (range_with_len 0 n)) (p n) true so_far here refl

pub all_fail : (p : ℕ → Bool) (n i : ℕ) → i < n → p i ≡ false → list_all p (range_with_len 0 n) ≡ false
all_fail p n i below fails =
    list_all_at p (range_with_len 0 n) i 0 (subst (λ (l : ℕ). i < l) (sym (length-range_with_len 0 n)) below)
    (ap p (get_or-range_with_len 0 n i 0 below ∙ zero-add i) ∙ fails)
