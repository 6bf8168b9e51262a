-- Links are pushed by the thread that accepts them, and taken by several handlers: those taken, followed by those that
-- wait, are those pushed, in order. This project's own rule.
use Rattle.std.specs.Prelude.{◌≡◌, ℕ, ◌+◌, Bool, true, List, [], ◌∷◌, ◌++◌}
use Rattle.std.specs.List.{flat_map}
use Rattle.std.specs.List.Sorted.{IsPermutation}
use mathlib.Core.Option.{some}
use lib.ListN.{get_elem?}
use Rattle.crossbeam_queue.specs.Passes.{Pass, view}
use Rattle.cw_line.specs.declared.rule.Hand.{Hand}
use Rattle.cw_line.specs.declared.rule.Ticket.{Ticket}

module _ {L : Type 0} where
  -- what a pass knows: its parts of the right to know the whole, whether it may push, what was pushed, what it took
  abbrev pub hand : ℕ → Bool → List (Ticket L) → List (Ticket L) → Hand L
  hand parts pushes put taken = record { parts = parts; pushes = pushes; put = put; taken = taken }

  -- the hand of a pass
  abbrev pub told : Pass (Ticket L) (Hand L) → Hand L
  told pass = view pass

  -- the parts of all hands
  abbrev pub all_parts : List (Hand L) → ℕ
  all_parts [] = 0
  all_parts (v ∷ vs) = v.parts + all_parts vs

  -- what all of them took
  abbrev pub all_taken : List (Hand L) → List (Ticket L)
  all_taken views = flat_map (λ v. v.taken) views

  -- those that were taken, in whatever order they are told, followed by those left, are those put, in order
  pub record Accounts (put taken left : List (Ticket L)) : Type 0 where
    pub got : List (Ticket L)
    pub in_order : put ≡ got ++ left
    pub same : IsPermutation taken got

  -- it has every part, and may push
  abbrev pub IsWhole : Hand L → Type 0
  IsWhole v = (v.parts ≡ 1024) × (v.pushes ≡ true)

  -- one pass at most may push, and it has the list of what was put. A pass with no part has taken nothing
  pub record Fits (pusher : ℕ) (put : List (Ticket L)) (pass : ℕ) (v : Hand L) : Type 0 where
    pub only : v.pushes ≡ true → pass ≡ pusher
    pub knows : v.pushes ≡ true → v.put ≡ put
    pub none : v.parts ≡ 0 → v.taken ≡ []

  -- each pass fits
  abbrev pub AllFit : ℕ → List (Ticket L) → List (Hand L) → Type 0
  AllFit pusher put views = (pass : ℕ) (v : Hand L) → get_elem? views pass ≡ some v → Fits pusher put pass v

  -- the rule: `left` are the links that wait, and `views` the hands of all passes
  pub record Handed (left : List (Ticket L)) (views : List (Hand L)) : Type 0 where
    pub pusher : ℕ
    pub put : List (Ticket L)
    pub got : List (Ticket L)
    pub in_order : put ≡ got ++ left
    pub parts : all_parts views ≡ 1024
    pub taken : IsPermutation (all_taken views) got
    pub fit : AllFit pusher put views
