-- What the two sides of a board know: the one that puts, and a view. This project's own rule.
use Rattle.std.specs.Prelude.{ℕ, List}
use Rattle.cw_board.specs.declared.posted.Posted.{Posted}

-- what is published; all that was given to be published, which goes on from it where memory was lacking; and the
-- front, the number of puts so far that published all
pub record Writing : Type 0 where
  pub published : List Posted
  pub given : List Posted
  pub front : ℕ

-- what a view shows, and of which worker
pub record Viewed : Type 0 where
  pub shown : List Posted
  pub worker : ℕ
