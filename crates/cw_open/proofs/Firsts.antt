-- A list as it is walked: each member so far lacks nothing, and the first that does ends the walk.
use Rattle.std.proofs.Common.{◌≡◌, ℕ, ◌+◌, ◌<◌, ◌≤◌, List, [], ◌∷◌, ◌++◌, length, take, drop, get_or, sym, ap, subst, ◌∙◌, arith, append_assoc, take-append-drop}
use Rattle.std.proofs.lemmas.List.{append-nil, take_more, drop_more, take_all, length-take-le}
use Rattle.cw_types.proofs.Lists.{cut_at}
use Rattle.cw_bytes.specs.Frames.{EachFrom}
use Rattle.cw_model.specs.StandsFor.{IsFirstLacking}

module _ {A : Type 0} (P : List A → A → Type 0) where
  pub each_from-push : (before xs : List A) (x : A) → EachFrom P before xs → P (before ++ xs) x → EachFrom P before (xs ++ x ∷ [])
  each_from-push before [] x each here = (subst (λ (l : List A). P l x) (append-nil before) here, tt)
  each_from-push before (y ∷ xs) x each here =
      (each.0, each_from-push (before ++ y ∷ []) xs x each.1 (subst (λ (l : List A). P l x) (sym (append_assoc before (y ∷ []) xs)) here))

  pub each_from-rest : (before xs ys : List A) → EachFrom P before (xs ++ ys) → EachFrom P (before ++ xs) ys
  each_from-rest before [] ys each = subst (λ (l : List A). EachFrom P l ys) (sym (append-nil before)) each
  each_from-rest before (x ∷ xs) ys each = subst (λ (l : List A). EachFrom P l ys) (append_assoc before (x ∷ []) xs) (each_from-rest (before ++ x ∷ []) xs ys each.1)

  -- what each member has, the one at a place has
  pub each_at : (old xs : List A) (at : ℕ) → EachFrom P old xs → (x : A) → at < length xs → x ≡ get_or xs at x → P (old ++ take at xs) x
  each_at old xs at all x within is = (each_from-rest old (take at xs) (x ∷ drop (at + 1) xs) (subst (EachFrom P old) (cut_at xs at x within (sym is)) all)).0

  -- the walk is at this member
  module _ (old xs : List A) (at : ℕ) (each : EachFrom P old (take at xs)) (x : A) (within : at < length xs) (is : x ≡ get_or xs at x) where
    pub taken_more : take (at + 1) xs ≡ take at xs ++ x ∷ []
    taken_more = take_more xs at x within ∙ ap (λ (y : A). take at xs ++ y ∷ []) (sym is)

    splits : xs ≡ take at xs ++ x ∷ drop (at + 1) xs
    splits = sym (take-append-drop at xs) ∙ ap (λ (l : List A). take at xs ++ l) (drop_more xs at x within ∙ ap (λ (y : A). y ∷ drop (at + 1) xs) (sym is))

    -- which lacks nothing
    pub goes_on : P (old ++ take at xs) x → EachFrom P old (take (at + 1) xs)
    goes_on here = subst (EachFrom P old) (sym taken_more) (each_from-push old (take at xs) x each here)

    -- which lacks something
    pub stops : (P (old ++ take at xs) x → ⊥) → EachFrom P old xs → ⊥
    stops lacks all = lacks (each_from-rest old (take at xs) (x ∷ drop (at + 1) xs) (subst (EachFrom P old) splits all)).0

  pub ends : (old xs : List A) (at : ℕ) → EachFrom P old (take at xs) → length xs ≤ at → EachFrom P old xs
  ends old xs at each all = subst (EachFrom P old) (take_all at xs all) each

  -- the first of all that lacks something
  pub first_lacks : (xs : List A) (at : ℕ) → EachFrom P [] (take at xs) → (x : A) → at < length xs → x ≡ get_or xs at x → (P (take at xs) x → ⊥) → IsFirstLacking P xs at
  first_lacks xs at each x within is lacks = record {
    before = take at xs;
    lacking = x;
    behind = drop (at + 1) xs;
    split = splits [] xs at each x within is;
    place = length-take-le at xs (omega arith);
    each = each;
    lacks = lacks;
  }
