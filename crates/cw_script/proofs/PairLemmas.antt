use Rattle.std.proofs.Common.{◌≡◌, ℕ, ◌-◌, ◌^◌, List, [], ◌∷◌, Option, Some, None, refl, sym, ap, ◌∙◌}
use Rattle.cw_types.specs.Decimal.{number_of}
use Rattle.cw_script.specs.declared.directive.PartEnd.{PartEnd}
use Rattle.cw_script.specs.Pairs.{pairs_onto, add_pair}

pub none_onto : (ws : List (List ℕ)) → pairs_onto None ws ≡ None
none_onto [] = refl
none_onto (p ∷ []) = refl
none_onto (p ∷ to ∷ rest) = none_onto rest

abbrev Found : Type 0
Found = List PartEnd

-- two words are read, and the others follow
pub onto_next : (found : Found) (state : Option Found) (p to : List ℕ) (ws rest : List (List ℕ)) (all : Option Found) → ws ≡ p ∷ to ∷ rest
    → state ≡ add_pair found (number_of (2 ^ 32 - 1) p) (number_of (2 ^ 64 - 1) to) → pairs_onto (Some found) ws ≡ all → pairs_onto state rest ≡ all
onto_next found state p to ws rest all is added e = ap (λ o. pairs_onto o rest) added ∙ sym (ap (pairs_onto (Some found)) is) ∙ e

-- two words are no pair, and no pair follows
pub onto_none : (found : Found) (p to : List ℕ) (ws rest : List (List ℕ)) (all : Option Found) → ws ≡ p ∷ to ∷ rest
    → None ≡ add_pair found (number_of (2 ^ 32 - 1) p) (number_of (2 ^ 64 - 1) to) → pairs_onto (Some found) ws ≡ all → None ≡ all
onto_none found p to ws rest all is added e = sym (none_onto rest) ∙ onto_next found None p to ws rest all is added e
