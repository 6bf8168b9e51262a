-- Parts that are sent one behind the other, some of which wait to be sent with those behind them.
use Rattle.std.specs.Prelude.{◌≡◌, ℕ, List, ◌++◌, Option}
use Rattle.cw_io.specs.Told.{with_back}

-- of a text, a first part was written, and the rest waits
pub record Waits (text waiting : List ℕ) (before after : Option (List ℕ)) : Type 0 where
  pub part : List ℕ
  pub split : text ≡ part ++ waiting
  pub added : after ≡ with_back part before
