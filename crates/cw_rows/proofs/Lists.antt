-- Facts of truth values, of choices, and of each element of a list that is changed at a place, or has one more.
use Rattle.std.proofs.Common.{◌≡◌, ℕ, ◌<◌, List, [], ◌∷◌, ◌++◌, length, map, get_or, set, zero, suc, arith, refl, ap, ◌∙◌, Bool, true, false, ◌&&◌, if◌then◌else◌}
use Rattle.std.specs.List.{AllByRecursion}
use Rattle.std.proofs.lemmas.List.Elements.{All-from_recursion, recursion_from_All, All-set, All-push}

pub and-true : (b : Bool) → (b && true) ≡ b
and-true true = refl
and-true false = refl

pub and-false : (b : Bool) → (b && false) ≡ false
and-false true = refl
and-false false = refl

pub if-true : {A : Type 0} (b : Bool) (x y : A) → b ≡ true → (if b then x else y) ≡ x
if-true true x y is = refl
if-true false x y is = absurd (cc)

pub each-set : {X : Type 0} (P : X → Type 0) (xs : List X) (i : ℕ) (x : X) → P x → AllByRecursion P xs →
    AllByRecursion P (set xs i x)
each-set P xs i x here each = recursion_from_All P (set xs i x) (All-set P xs i x here (All-from_recursion P xs each))

pub each-push : {X : Type 0} (P : X → Type 0) (xs : List X) (x : X) → P x → AllByRecursion P xs →
    AllByRecursion P (xs ++ x ∷ [])
each-push P xs x here each =
    recursion_from_All P (xs ++ x ∷ []) (All-push P xs x (All-from_recursion P xs each) here)

pub each-weaker : {X : Type 0} (P Q : X → Type 0) (xs : List X) → ((x : X) → P x → Q x) → AllByRecursion P xs →
    AllByRecursion Q xs
each-weaker P Q [] so each = tt
each-weaker P Q (x ∷ xs) so each = (so x each.0, each-weaker P Q xs so each.1)

pub each-map : {X Y : Type 0} (P : X → Type 0) (Q : Y → Type 0) (f : X → Y) (xs : List X) →
    ((x : X) → P x → Q (f x)) → AllByRecursion P xs → AllByRecursion Q (map f xs)
each-map P Q f [] so each = tt
each-map P Q f (x ∷ xs) so each = (so x each.0, each-map P Q f xs so each.1)

pub each-at : {X : Type 0} (P : X → Type 0) (xs : List X) (i : ℕ) (d : X) → i < length xs → AllByRecursion P xs →
    P (get_or xs i d)
each-at P [] i d within each = absurd (omega arith)
each-at P (x ∷ xs) zero d within each = each.0
each-at P (x ∷ xs) (suc i) d within each = each-at P xs i d (omega arith) each.1

pub map-push : {A B : Type 0} (f : A → B) (xs : List A) (x : A) → map f (xs ++ x ∷ []) ≡ map f xs ++ f x ∷ []
map-push f [] x = refl
map-push {A} {B} f (y ∷ xs) x = ap (λ (l : List B). f y ∷ l) (map-push f xs x)

pub map-same : {X Y : Type 0} (f g : X → Y) (xs : List X) → ((x : X) → f x ≡ g x) → map f xs ≡ map g xs
map-same f g [] same = refl
map-same {X} {Y} f g (x ∷ xs) same = ap (λ (y : Y). y ∷ map f xs) (same x) ∙ ap (λ (ys : List Y). g x ∷ ys) (map-same f g xs same)

pub map-map : {X Y Z : Type 0} (f : X → Y) (g : Y → Z) (xs : List X) → map g (map f xs) ≡ map (λ x. g (f x)) xs
map-map f g [] = refl
map-map {Z = Z} f g (x ∷ xs) = ap (λ (zs : List Z). g (f x) ∷ zs) (map-map f g xs)

pub map-none : {X : Type 0} (f : X → X) (xs : List X) → ((x : X) → f x ≡ x) → map f xs ≡ xs
map-none f [] none = refl
map-none {X} f (x ∷ xs) none = ap (λ (y : X). y ∷ map f xs) (none x) ∙ ap (λ (ys : List X). x ∷ ys) (map-none f xs none)
