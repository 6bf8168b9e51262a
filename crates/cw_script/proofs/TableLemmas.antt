use Rattle.std.proofs.Common.{◌≡◌, ℕ, List, [], ◌∷◌, Bool, true, Result, Ok, Err, MatchResult, refl, sym, ap, ◌∙◌, bytes_eq}
use Rattle.std.proofs.lemmas.Slice.Eq.{bytes_eq-Decides}
use Rattle.cw_script.specs.Table.{Place, nothing, ValueOf, row}
use Rattle.cw_script.specs.declared.directive.Directive.{Directive}
use Rattle.cw_script.specs.declared.fault.LineKind.{LineKind}
use Rattle.cw_script.specs.Lines.{only, said, after}

-- a row with one place says what its one word is
said-one : (word : List ℕ) (place : Place) (make : ValueOf place → Directive) (ws : List (List ℕ))
    → said (row word (place ∷ []) nothing make) ws ≡ after (only place ws) (λ value. Ok (make value))
said-one word place make [] = refl
said-one word place make (w ∷ []) = refl
said-one word place make (w ∷ v ∷ ws) = refl

made_after : {A : Type 0} (r : Result A LineKind) (d : Result Directive LineKind) (make : A → Directive) → MatchResult r (λ x. d ≡ Ok (make x)) (λ e. d ≡ Err e)
    → d ≡ after r (λ value. Ok (make value))
made_after (Ok x) d make h = h
made_after (Err e) d make h = h

-- what is made of the value at its one place
pub made_of_one : (word : List ℕ) (place : Place) (make : ValueOf place → Directive) (ws : List (List ℕ)) {r : Result (ValueOf place) LineKind} {d : Result Directive LineKind}
    → r ≡ only place ws → MatchResult r (λ x. d ≡ Ok (make x)) (λ e. d ≡ Err e) → d ≡ said (row word (place ∷ []) nothing make) ws
made_of_one word place make ws {r} {d} value made =
    made_after r d make made ∙ ap (λ r. after r (λ value. Ok (make value))) value ∙ sym (said-one word place make ws)

pub bytes_are : (xs ys : List ℕ) → bytes_eq xs ys ≡ true → xs ≡ ys
bytes_are xs ys e = (bytes_eq-Decides xs ys).0 e

-- a word that passed the test for another is that word
pub found_word : {other name : List ℕ} {test : Bool} (word : List ℕ) → test ≡ bytes_eq word other → test ≡ true → other ≡ name → word ≡ name
found_word word tested passed named = bytes_are word _ (sym tested ∙ passed) ∙ named
