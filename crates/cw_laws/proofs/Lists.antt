-- Facts of each element of a list that is changed at a place, or has one more.
use Rattle.std.proofs.Common.{◌≡◌, ◌⊎◌, inl, inr, ap, ℕ, ◌<◌, List, [], ◌∷◌, ◌++◌, length, map, take, slice_index_or, slice_set, zero, suc, refl, sym, subst, arith, append_assoc}
use Rattle.std.specs.List.{AllByRecursion}
use Rattle.std.proofs.lemmas.List.{append-nil}
use Rattle.cw_bytes.specs.Frames.{EachFrom}
use Rattle.std.proofs.lemmas.List.Elements.{All-from_recursion, recursion_from_All, All-set, All-push}

pub each-set : {X : Type 0} (P : X → Type 0) (xs : List X) (i : ℕ) (x : X) → P x → AllByRecursion P xs → AllByRecursion P (slice_set xs i x)
each-set P xs i x here each = recursion_from_All P (slice_set xs i x) (All-set P xs i x here (All-from_recursion P xs each))

pub each-push : {X : Type 0} (P : X → Type 0) (xs : List X) (x : X) → P x → AllByRecursion P xs → AllByRecursion P (xs ++ x ∷ [])
each-push P xs x here each = recursion_from_All P (xs ++ x ∷ []) (All-push P xs x (All-from_recursion P xs each) here)

pub each-weaker : {X : Type 0} (P Q : X → Type 0) (xs : List X) → ((x : X) → P x → Q x) → AllByRecursion P xs → AllByRecursion Q xs
each-weaker P Q [] so each = tt
each-weaker P Q (x ∷ xs) so each = (so x each.0, each-weaker P Q xs so each.1)

pub each-map : {X Y : Type 0} (P : X → Type 0) (Q : Y → Type 0) (f : X → Y) (xs : List X) → ((x : X) → P x → Q (f x)) → AllByRecursion P xs → AllByRecursion Q (map f xs)
each-map P Q f [] so each = tt
each-map P Q f (x ∷ xs) so each = (so x each.0, each-map P Q f xs so each.1)

pub each-read : {X : Type 0} (P : X → Type 0) (xs : List X) (i : ℕ) (d : X) → P d → AllByRecursion P xs → P (slice_index_or xs i d)
each-read P [] i d none each = none
each-read P (x ∷ xs) zero d none each = each.0
each-read P (x ∷ xs) (suc i) d none each = each-read P xs i d none each.1

-- a relation between what is read before and behind a change at a place holds at each place where it holds of equals and of what was changed
pub reads-set : {X : Type 0} (R : X → X → Type 0) (xs : List X) (i : ℕ) (x d : X) → ((y : X) → R y y) → R (slice_index_or xs i d) x → (n : ℕ) →
    R (slice_index_or xs n d) (slice_index_or (slice_set xs i x) n d)
reads-set R [] i x d same here n = same d
reads-set R (y ∷ ys) zero x d same here zero = here
reads-set R (y ∷ ys) zero x d same here (suc n) = same (slice_index_or ys n d)
reads-set R (y ∷ ys) (suc i) x d same here zero = same y
reads-set R (y ∷ ys) (suc i) x d same here (suc n) = reads-set R ys i x d same here n

pub reads-push : {X : Type 0} (R : X → X → Type 0) (xs : List X) (x d : X) → ((y : X) → R y y) → R d x → (n : ℕ) →
    R (slice_index_or xs n d) (slice_index_or (xs ++ x ∷ []) n d)
reads-push R [] x d same here zero = here
reads-push R [] x d same here (suc n) = same d
reads-push R (y ∷ ys) x d same here zero = same y
reads-push R (y ∷ ys) x d same here (suc n) = reads-push R ys x d same here n

pub reads-map : {X : Type 0} (R : X → X → Type 0) (f : X → X) (xs : List X) (d : X) → R d d → ((x : X) → R x (f x)) → (n : ℕ) →
    R (slice_index_or xs n d) (slice_index_or (map f xs) n d)
reads-map R f [] d none so n = none
reads-map R f (x ∷ xs) d none so zero = so x
reads-map R f (x ∷ xs) d none so (suc n) = reads-map R f xs d none so n

pub each-at : {X : Type 0} (P : X → Type 0) (xs : List X) (i : ℕ) (d : X) → i < length xs → AllByRecursion P xs → P (slice_index_or xs i d)
each-at P [] i d within each = absurd (omega arith)
each-at P (x ∷ xs) zero d within each = each.0
each-at P (x ∷ xs) (suc i) d within each = each-at P xs i d (omega arith) each.1

-- a fact that goes from what is read before to what is read behind
pub each-reads : {X : Type 0} (P : X → Type 0) (R : X → X → Type 0) (xs ys : List X) (d : X) → length ys ≡ length xs →
    ((n : ℕ) → R (slice_index_or xs n d) (slice_index_or ys n d)) → ((x y : X) → R x y → P x → P y) → AllByRecursion P xs → AllByRecursion P ys
each-reads P R xs [] d size reads so each = tt
each-reads P R [] (y ∷ ys) d size reads so each = absurd (omega arith)
each-reads P R (x ∷ xs) (y ∷ ys) d size reads so each =
    (so x y (reads 0) each.0, each-reads P R xs ys d (omega arith) (λ n. reads (suc n)) so each.1)

-- a place is the one that is changed, or reads as before
pub set-cases : {X : Type 0} (xs : List X) (i : ℕ) (x d : X) (n : ℕ) → (n ≡ i) ⊎ (slice_index_or (slice_set xs i x) n d ≡ slice_index_or xs n d)
set-cases [] i x d n = inr refl
set-cases (y ∷ ys) zero x d zero = inl refl
set-cases (y ∷ ys) zero x d (suc n) = inr refl
set-cases (y ∷ ys) (suc i) x d zero = inr refl
set-cases (y ∷ ys) (suc i) x d (suc n) = next (set-cases ys i x d n) where
  next : (n ≡ i) ⊎ (slice_index_or (slice_set ys i x) n d ≡ slice_index_or ys n d) → (suc n ≡ suc i) ⊎ (slice_index_or (slice_set ys i x) n d ≡ slice_index_or ys n d)
  next (inl same) = inl (ap (λ m. suc m) same)
  next (inr other) = inr other

-- a place is within, or reads as what stands for none
pub read-cases : {X : Type 0} (xs : List X) (i : ℕ) (d : X) → (i < length xs) ⊎ (slice_index_or xs i d ≡ d)
read-cases [] i d = inr refl
read-cases (y ∷ ys) zero d = inl (omega arith)
read-cases (y ∷ ys) (suc i) d = elim (read-cases ys i d) [ inl within ↦ inl (omega arith) | inr none ↦ inr none ]

pub each-append : {X : Type 0} (P : X → Type 0) (xs ys : List X) → AllByRecursion P xs → AllByRecursion P ys → AllByRecursion P (xs ++ ys)
each-append P [] ys a b = b
each-append P (x ∷ xs) ys a b = (a.0, each-append P xs ys a.1 b)

pub each_from-weaker : {A : Type 0} (P Q : List A → A → Type 0) (before xs : List A) → ((before : List A) (x : A) → P before x → Q before x) → EachFrom P before xs → EachFrom Q before xs
each_from-weaker P Q before [] so each = tt
each_from-weaker P Q before (x ∷ xs) so each = (so before x each.0, each_from-weaker P Q (before ++ x ∷ []) xs so each.1)

-- one element more, which may stand behind all before it
pub each_from-push : {A : Type 0} (P : List A → A → Type 0) (before xs : List A) (x : A) → EachFrom P before xs → P (before ++ xs) x → EachFrom P before (xs ++ x ∷ [])
each_from-push P before [] x each here = (subst (λ l. P l x) (append-nil before) here, tt)
each_from-push P before (y ∷ ys) x each here =
    (each.0, each_from-push P (before ++ y ∷ []) ys x each.1 (subst (λ l. P l x) (sym (append_assoc before (y ∷ []) ys)) here))

-- what is so of each element, whatever stands before it
pub each_from-each : {A : Type 0} (P : List A → A → Type 0) (Q : A → Type 0) (before xs : List A) → ((before : List A) (x : A) → P before x → Q x) → EachFrom P before xs → AllByRecursion Q xs
each_from-each P Q before [] so each = tt
each_from-each P Q before (x ∷ xs) so each = (so before x each.0, each_from-each P Q (before ++ x ∷ []) xs so each.1)
