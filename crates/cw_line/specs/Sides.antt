-- What the two sides of a line know: the thread that accepts links and pushes them, and the handlers, which take them.
-- This project's own rule.
use Rattle.std.specs.Prelude.{◌≡◌, ℕ, ◌+◌, ◌-◌, true, false, List, [], ◌∷◌, ◌++◌, map, Option}
use Rattle.atomic_table.specs.Seated.{TableId}
use Rattle.crossbeam_queue.specs.declared.array_queue.Doing.{Doing}
use Rattle.crossbeam_queue.specs.declared.array_queue.Slotted.{Slotted}
use Rattle.crossbeam_queue.specs.Passes.{Pass}
use Rattle.cw_line.specs.declared.rule.Hand.{Hand}
use Rattle.cw_line.specs.declared.rule.Ticket.{Ticket}
use Rattle.cw_line.specs.Numbers.{numbered}
use Rattle.cw_line.specs.Hands.{hand, told}

-- the name of no line
abbrev pub no_table : TableId
no_table = record { words = 0; slots = 0; views_name = 0; atom = 0; block = 0; offset = 0; slot_names = [] }

module _ {T V Q A : Type 0} where
  -- a line's name
  abbrev pub name_of : Slotted (Option T) (Doing T V) Q A → TableId
  name_of line = line.table.shared.table_id

-- the accepting side: how many of the 1024 parts it has, the links that it pushed, which it took and took over
pub record Accepting (L : Type 0) : Type 0 where
  pub parts : ℕ
  pub pushed : List L
  pub taken : List (Ticket L)

module _ {L : Type 0} where
  -- a pass of the line of this name, which is in no call
  abbrev pub IsOf : TableId → Pass (Ticket L) (Hand L) → Type 0
  IsOf table pass = (pass.table_id ≡ table) × (pass.me.1 ≡ [])

  -- the first pass of the line of this name: it has every part, may push, and has pushed and taken nothing
  abbrev pub IsFirstOf : TableId → Pass (Ticket L) (Hand L) → Type 0
  IsFirstOf table pass = IsOf table pass × (told pass ≡ hand 1024 true [] [])

  -- before the first link, with every part
  abbrev pub beginning : Accepting L
  beginning = record { parts = 1024; pushed = []; taken = [] }

  -- links more were pushed
  abbrev pub with_pushed : List L → Accepting L → Accepting L
  with_pushed links a = record { parts = a.parts; pushed = a.pushed ++ links; taken = a.taken }

  -- one more link was taken
  abbrev pub with_taken : Ticket L → Accepting L → Accepting L
  with_taken ticket a = record { parts = a.parts; pushed = a.pushed; taken = a.taken ++ ticket ∷ [] }

  -- a handler's part was split off
  abbrev pub without_part : Accepting L → Accepting L
  without_part a = record { parts = a.parts - 1; pushed = a.pushed; taken = a.taken }

  -- a handler's part came back, with what the handler took
  abbrev pub with_part : List (Ticket L) → Accepting L → Accepting L
  with_part tickets a = record { parts = a.parts + 1; pushed = a.pushed; taken = a.taken ++ tickets }

  -- the hands of the two sides
  abbrev pub accepting_of : Hand L → Accepting L
  accepting_of v = record { parts = v.parts; pushed = map (λ ticket. ticket.link) v.put; taken = v.taken }

  abbrev pub acceptors_hand : Accepting L → Hand L
  acceptors_hand a = hand a.parts true (numbered a.pushed) a.taken

  abbrev pub takers_hand : List (Ticket L) → Hand L
  takers_hand taken = hand 1 false [] taken
