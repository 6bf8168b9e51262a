-- Words that are parted by one space.
use Rattle.std.proofs.Common.{◌≡◌, ℕ, ◌≤◌, List, [], ◌∷◌, ◌++◌, map, length, take, codes, decimal, Result, Ok, Err, refl, sym, ap, ◌∙◌, append-nil, append_assoc}
use Rattle.std.specs.Prelude.{OnOk}
use Rattle.std.specs.List.{flat_map}
use Rattle.std.proofs.lemmas.List.{take_all}
use Rattle.cw_model.specs.TickText.{words}
use Rattle.cw_run.specs.Answers.{worker_words}
use Rattle.cw_cluster.specs.Outcomes.{spaced}

-- the first one, and each other one behind a space
pub words-spaced : (word : List ℕ) (more : List (List ℕ)) → words (word ∷ more) ≡ word ++ spaced more
words-spaced word [] = sym (append-nil word)
words-spaced word (next ∷ more) = ap (λ (text : List ℕ). word ++ 32 ∷ text) (words-spaced next more)

spaced-append : (a b : List (List ℕ)) → spaced (a ++ b) ≡ spaced a ++ spaced b
spaced-append [] b = refl
spaced-append (word ∷ a) b =
    ap (λ (text : List ℕ). (32 ∷ word) ++ text) (spaced-append a b) ∙ sym (append_assoc (32 ∷ word) (spaced a) (spaced b))

-- the words of each element
pub spaced-flat : {A : Type 0} (f : A → List (List ℕ)) (xs : List A) → flat_map (λ x. spaced (f x)) xs ≡ spaced (flat_map f xs)
spaced-flat f [] = refl
spaced-flat f (x ∷ xs) =
    ap (λ (text : List ℕ). spaced (f x) ++ text) (spaced-flat f xs) ∙ sym (spaced-append (f x) (flat_map f xs))

-- a word of each element
pub spaced-map : {A : Type 0} (f : A → List ℕ) (xs : List A) → flat_map (λ x. 32 ∷ f x) xs ≡ spaced (map f xs)
spaced-map f [] = refl
spaced-map f (x ∷ xs) = ap (λ (text : List ℕ). (32 ∷ f x) ++ text) (spaced-map f xs)

-- all have been put behind a text
pub all-listed : {A : Type 0} (f : A → List ℕ) (xs : List A) (i : ℕ) (before after : List ℕ) → length xs ≤ i →
    after ≡ before ++ flat_map f (take i xs) → after ≡ before ++ flat_map f xs
all-listed f xs i before after all is = is ∙ ap (λ l. before ++ flat_map f l) (take_all i xs all)

-- and a word in front of them
pub listed-words : {A : Type 0} (f : A → List (List ℕ)) (xs : List A) (before word middle : List ℕ) → middle ≡ before ++ word →
    middle ++ flat_map (λ x. spaced (f x)) xs ≡ before ++ words (word ∷ flat_map f xs)
listed-words f xs before word middle is =
    ap (λ (l : List ℕ). l ++ flat_map (λ x. spaced (f x)) xs) is ∙ append_assoc before word (flat_map (λ x. spaced (f x)) xs)
    ∙ ap (λ (l : List ℕ). before ++ (word ++ l)) (spaced-flat f xs) ∙ ap (λ (l : List ℕ). before ++ l) (sym (words-spaced word (flat_map f xs)))

-- what a worker holds, behind the worker
pub held-words : (items : List (List ℕ)) (w : ℕ) (before middle after : List ℕ) → middle ≡ before ++ (codes "held " ++ decimal w) →
    after ≡ middle ++ spaced items → after ≡ before ++ words (worker_words (codes "held") w ++ items)
held-words items w before middle after is put =
    put ∙ ap (λ (l : List ℕ). l ++ spaced items) is ∙ append_assoc before (codes "held " ++ decimal w) (spaced items)
    ∙ ap (λ (l : List ℕ). before ++ (codes "held " ++ l)) (sym (words-spaced (decimal w) items))

-- what is so where it is done
pub done-then : {A E P Q : Type 0} (result : Result A E) → (P → Q) → OnOk result P → OnOk result Q
done-then (Ok x) then p = then p
done-then (Err e) then p = tt
