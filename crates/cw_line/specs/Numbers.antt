-- The links that a server accepts are numbered from 0 in the order in which they came. This project's own rule.
use Rattle.std.specs.Prelude.{◌≡◌, ℕ, suc, List, [], ◌∷◌}
use Rattle.std.specs.List.Sorted.{IsPermutation}
use mathlib.Core.Option.{some}
use lib.ListN.{get_elem?}
use Rattle.cw_line.specs.declared.rule.Ticket.{Ticket}

module _ {L : Type 0} where
  -- links with their numbers, from n on
  abbrev pub numbered_from : ℕ → List L → List (Ticket L)
  numbered_from n [] = []
  numbered_from n (link ∷ links) = record { number = n; link = link } ∷ numbered_from (suc n) links

  -- and from 0 on
  abbrev pub numbered : List L → List (Ticket L)
  numbered links = numbered_from 0 links

  -- the ticket has the link that stands at its number, as it was then
  abbrev pub IsNumbered : List L → Ticket L → Type 0
  IsNumbered links ticket = get_elem? links ticket.number ≡ some ticket.link

  -- of the links that were pushed each was taken once, as it was then, and no other was
  abbrev pub IsEachOnce : List L → List (Ticket L) → Type 0
  IsEachOnce pushed taken = IsPermutation taken (numbered pushed)
