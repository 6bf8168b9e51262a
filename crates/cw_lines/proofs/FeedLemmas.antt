-- How a session goes through a piece of a script, line by line.
use Rattle.std.proofs.Common.{◌≡◌, List, ℕ, [], ◌++◌, refl, sym, ap, subst, ◌∙◌, append_assoc}
use Rattle.cw_lines.specs.declared.end.DriveEnd.{DriveEnd}
use Rattle.cw_lines.specs.Players.{Rules}
use Rattle.cw_lines.specs.Sessions.{Session, Goes, EndsIn}
use Rattle.cw_lines.proofs.EndLemmas.{goes_none, goes_then, ends_in_then, ends_longer}

module _ {C S : Type 0} (rules : Rules C S) where
  -- how far a piece was taken
  pub record IsFed (piece rest : List ℕ) (old new : Session C S) : Type 0 where
    pub taken : List ℕ
    pub split : piece ≡ taken ++ rest
    pub goes : Goes rules taken [] old new

  pub fed_none : (piece : List ℕ) (session : Session C S) → IsFed piece piece session session
  fed_none piece session = record { taken = []; split = refl; goes = goes_none rules session }

  module _ (piece rest : List ℕ) (old mid : Session C S) (fed : IsFed piece rest old mid) where
    further : (b tail : List ℕ) → rest ≡ b ++ tail → piece ≡ (fed.taken ++ b) ++ tail
    further b tail is = fed.split ∙ ap (λ (r : List ℕ). fed.taken ++ r) is ∙ sym (append_assoc fed.taken b tail)

    pub fed_more : (b tail : List ℕ) (new : Session C S) → rest ≡ b ++ tail → Goes rules b [] mid new → IsFed piece tail old new
    fed_more b tail new is goes = record {
      taken = fed.taken ++ b;
      split = further b tail is;
      goes = goes_then rules fed.taken b [] [] old mid new fed.goes goes;
    }

    pub fed_goes : (new : Session C S) → Goes rules rest [] mid new → Goes rules piece [] old new
    fed_goes new goes = subst (λ (p : List ℕ). Goes rules p [] old new) (sym fed.split) (goes_then rules fed.taken rest [] [] old mid new fed.goes goes)

    pub fed_ends : (at : S → Type 0) (broken : ℕ → List ℕ → S → List ℕ → Type 0) (end : DriveEnd) (b tail text : List ℕ) → rest ≡ b ++ tail
        → EndsIn rules at broken ⊥ end b mid text → EndsIn rules at broken ⊥ end piece old text
    fed_ends at broken end b tail text is ends =
        subst (λ (p : List ℕ). EndsIn rules at broken ⊥ end p old text) (sym (further b tail is))
        (ends_longer rules at broken end (fed.taken ++ b) tail text old (ends_in_then rules at broken end fed.taken b text old mid fed.goes ends))
