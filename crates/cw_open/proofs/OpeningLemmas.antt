-- Which side of a pair was opened, and what was found before anything was shown.
use Rattle.std.proofs.Common.{◌≡◌, inl, inr, ℕ, Bool, true, false, List, [], Option, None, sym, subst}
use Rattle.cw_bytes.specs.Unread.{Unread}
use Rattle.cw_bytes.specs.Reading.{Read}
use Rattle.cw_log.specs.Log.{OpensAs}
use Rattle.cw_pair.specs.Pair.{IsRight}
use Rattle.cw_pair.specs.State.{OpensPairAs}
use Rattle.cw_open.specs.FoundFrames.{FoundState, IsFoundIn}
use Rattle.cw_open.specs.OpenedLogs.{HasNumber, IsNumbered}
use Rattle.cw_open.proofs.FoundLemmas.{found-none}

number-of : (kind number : ℕ) (file : List ℕ) (now : Option (List ℕ)) → OpensAs kind number file now → HasNumber number file
number-of kind number file now (inl new) = inl (new.0, new.2)
number-of kind number file now (inr made) = inr made.0

pub numbered-by : (kind : ℕ) (on_b : Bool) (number : ℕ) (a b : List ℕ) (now other : Option (List ℕ)) → IsRight kind on_b a b → OpensPairAs kind on_b number a b now other → IsNumbered kind on_b number a b
numbered-by kind true number a b now other right opens = (right, number-of kind number b now opens.0)
numbered-by kind false number a b now other right opens = (right, number-of kind number a now opens.0)

-- nothing was found yet
pub begins-empty : {A : Type 0} (at : Unread → Read A) (found : FoundState A) → found ≡ record { frames = []; gates = []; unread = None; count = 0; size = 17 } → IsFoundIn at found []
begins-empty at found is = subst (λ f. IsFoundIn at f []) (sym is) (found-none at)
