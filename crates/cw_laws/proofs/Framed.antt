-- Facts of each member of a list and of all those before it: in parts, frame by frame, and several at once.
use Rattle.std.proofs.Common.{◌≡◌, ℕ, zero, suc, ◌-◌, ◌≤◌, Bool, true, false, cond, List, [], ◌∷◌, ◌++◌, length, map, drop, Some, refl, sym, subst, append_assoc, arith, length-append}
use Rattle.std.specs.List.{filter, AllByRecursion, AllZip, Any}
use Rattle.std.proofs.lemmas.List.{append-nil}
use Rattle.cw_bytes.specs.Frames.{EachFrom, joined}
use Rattle.cw_bytes.specs.Unread.{Unread}
use Rattle.cw_bytes.specs.Reading.{Read, body_at}
use Rattle.cw_laws.proofs.Written.{joined-push}

module _ {A : Type 0} (P : List A → A → Type 0) where
  pub each_from-first : (before xs ys : List A) → EachFrom P before (xs ++ ys) → EachFrom P before xs
  each_from-first before [] ys each = tt
  each_from-first before (x ∷ xs) ys each = (each.0, each_from-first (before ++ x ∷ []) xs ys each.1)

  pub each_from-rest : (before xs ys : List A) → EachFrom P before (xs ++ ys) → EachFrom P (before ++ xs) ys
  each_from-rest before [] ys each = subst (λ l. EachFrom P l ys) (sym (append-nil before)) each
  each_from-rest before (x ∷ xs) ys each = subst (λ l. EachFrom P l ys) (append_assoc before (x ∷ []) xs) (each_from-rest (before ++ x ∷ []) xs ys each.1)

  pub each_from-append : (before xs ys : List A) → EachFrom P before xs → EachFrom P (before ++ xs) ys → EachFrom P before (xs ++ ys)
  each_from-append before [] ys first rest = subst (λ l. EachFrom P l ys) (append-nil before) rest
  each_from-append before (x ∷ xs) ys first rest =
      (first.0, each_from-append (before ++ x ∷ []) xs ys first.1 (subst (λ l. EachFrom P l ys) (sym (append_assoc before (x ∷ []) xs)) rest))

  -- a list that is allowed member by member is so frame by frame
  pub framed : (before frames : List (List A)) → EachFrom P (joined before) (joined frames) → EachFrom (λ b frame. EachFrom P (joined b) frame) before frames
  framed before [] each = tt
  framed before (frame ∷ frames) each = (
    each_from-first (joined before) frame (joined frames) each,
    framed (before ++ frame ∷ []) frames
        (subst (λ l. EachFrom P l (joined frames)) (sym (joined-push before frame)) (each_from-rest (joined before) frame (joined frames) each)),
  )

  -- and back
  pub unframed : (before frames : List (List A)) → EachFrom (λ b frame. EachFrom P (joined b) frame) before frames → EachFrom P (joined before) (joined frames)
  unframed before [] each = tt
  unframed before (frame ∷ frames) each =
      each_from-append (joined before) frame (joined frames) each.0 (subst (λ l. EachFrom P l (joined frames)) (joined-push before frame) (unframed (before ++ frame ∷ []) frames each.1))

-- what each of some facts holds of, all of them hold of
pub each_from-all : {A I : Type 0} (P : I → List A → A → Type 0) (before xs : List A) → ((i : I) → EachFrom (P i) before xs) → EachFrom (λ b x. (i : I) → P i b x) before xs
each_from-all P before [] each = tt
each_from-all P before (x ∷ xs) each = (λ i. (each i).0, each_from-all P (before ++ x ∷ []) xs (λ i. (each i).1))

pub each_from-one : {A I : Type 0} (P : I → List A → A → Type 0) (i : I) (before xs : List A) → EachFrom (λ b x. (i : I) → P i b x) before xs → EachFrom (P i) before xs
each_from-one P i before [] each = tt
each_from-one P i before (x ∷ xs) each = (each.0 i, each_from-one P i (before ++ x ∷ []) xs each.1)

pub each_from-any : {A : Type 0} (P : A → Type 0) (before xs : List A) → AllByRecursion P xs → EachFrom (λ b x. P x) before xs
each_from-any P before [] each = tt
each_from-any P before (x ∷ xs) each = (each.0, each_from-any P (before ++ x ∷ []) xs each.1)

pub any_from-each : {A : Type 0} (P : A → Type 0) (before xs : List A) → EachFrom (λ b x. P x) before xs → AllByRecursion P xs
any_from-each P before [] each = tt
any_from-each P before (x ∷ xs) each = (each.0, any_from-each P (before ++ x ∷ []) xs each.1)

-- what holds from a place on holds of each that stands there or behind
pub from_mark : {A : Type 0} (P : A → Type 0) (mark d : ℕ) (before xs : List A) → d ≡ mark - length before → AllByRecursion P (drop d xs) → EachFrom (λ b x. mark ≤ length b → P x) before xs
from_mark P mark d before [] is each = tt
from_mark P mark zero before (x ∷ xs) is each =
    (λ below. each.0, from_mark P mark zero (before ++ x ∷ []) xs (omega (arith, is, length-append before (x ∷ []))) each.1)
from_mark P mark (suc d) before (x ∷ xs) is each =
    (λ below. absurd (omega (arith, below, is)), from_mark P mark d (before ++ x ∷ []) xs (omega (arith, is, length-append before (x ∷ []))) each)

-- and back
pub of_mark : {A : Type 0} (P : A → Type 0) (mark d : ℕ) (before xs : List A) → d ≡ mark - length before → EachFrom (λ b x. mark ≤ length b → P x) before xs → AllByRecursion P (drop d xs)
of_mark P mark zero before [] is each = tt
of_mark P mark (suc d) before [] is each = tt
of_mark P mark zero before (x ∷ xs) is each =
    (each.0 (omega (arith, is)), of_mark P mark zero (before ++ x ∷ []) xs (omega (arith, is, length-append before (x ∷ []))) each.1)
of_mark P mark (suc d) before (x ∷ xs) is each = of_mark P mark d (before ++ x ∷ []) xs (omega (arith, is, length-append before (x ∷ []))) each.1

-- what each of a list has, each of its first part has, and each of the rest
pub each-first : {A : Type 0} (P : A → Type 0) (xs ys : List A) → AllByRecursion P (xs ++ ys) → AllByRecursion P xs
each-first P [] ys each = tt
each-first P (x ∷ xs) ys each = (each.0, each-first P xs ys each.1)

pub each-rest : {A : Type 0} (P : A → Type 0) (xs ys : List A) → AllByRecursion P (xs ++ ys) → AllByRecursion P ys
each-rest P [] ys each = each
each-rest P (x ∷ xs) ys each = each-rest P xs ys each.1

-- ---- one of a list

pub any-here : {A : Type 0} (P : A → Type 0) (x : A) (xs : List A) → P x → Any P (x ∷ xs)
any-here P x xs here = (0, x, omega arith, refl, here)

pub any-there : {A : Type 0} (P : A → Type 0) (x : A) (xs : List A) → Any P xs → Any P (x ∷ xs)
any-there P x xs any = (suc any.0, any.1, omega (arith, any.2), any.3, any.4)

-- where one alone passes, it is one of the list
pub any-only : {A : Type 0} (P : A → Type 0) (p : A → Bool) (xs : List A) (y : A) → filter p xs ≡ y ∷ [] → (p y ≡ true → P y) → Any P xs
any-only P p [] y only so = absurd (cc)
any-only P p (x ∷ xs) y only so = by (p x) refl only (λ later. any-only P p xs y later so)
  where
    by : (b : Bool) → p x ≡ b → cond b (x ∷ filter p xs) (filter p xs) ≡ y ∷ [] → (filter p xs ≡ y ∷ [] → Any P xs) → Any P (x ∷ xs)
    by true passes only behind = let same : x ≡ y = cc in any-here P x xs (subst P (sym same) (so (subst (λ z. p z ≡ true) same passes)))
    by false fails only behind = any-there P x xs (behind only)

-- ---- bodies

-- what is written for some frames is read as them
pub read-again : {A : Type 0} (at : Unread → Read A) (bytes : A → List ℕ) (is : A → Type 0) → ((a : A) → is a → body_at at (bytes a) ≡ Some a) → (frames : List A) →
    AllByRecursion is frames → AllZip (λ body frame. body_at at body ≡ Some frame) (map bytes frames) frames
read-again at bytes is again [] each = tt
read-again at bytes is again (frame ∷ frames) each = (again frame each.0, read-again at bytes is again frames each.1)
