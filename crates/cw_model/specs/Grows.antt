-- What no event takes back: the session lists, the journal and what each worker has read only grow. By it an entry of
-- the journal stays true whatever happens next, and a length of a session list names a moment for ever. This project's
-- own.
use Rattle.std.specs.Prelude.{◌≡◌, ◌≤◌, ℕ, List, ◌++◌, Option, Some, IsSome}
use Rattle.cw_model.specs.State.{Cluster}
use Rattle.cw_model.specs.Lookups.{row_of}

-- a list that goes on behind another
pub record GoesOn {A : Type 0} (old new : List A) : Type 0 where
  pub more : List A
  pub is : new ≡ old ++ more

-- a state behind another
pub record Grows (s t : Cluster) : Type 0 where
  pub configs : GoesOn s.configs t.configs
  pub statuses : GoesOn s.statuses t.statuses
  pub entries : GoesOn s.entries t.entries
  pub journal : GoesOn s.journal t.journal
  pub read : (w : ℕ) → (row_of w s).prefix ≤ (row_of w t).prefix
  pub closed : IsSome s.closed → IsSome t.closed
