-- Where a round stands (KIP-415): members join, then the leader plans, then each is told its share.
use Rattle.std.specs.Prelude.{Bool, true, false}
use Rattle.cw_group.specs.declared.answers.Phase.{Phase}
use Rattle.cw_group.specs.declared.answers.Phase.TheVariants.{Open, Closed, Planned}

-- whether members join
abbrev pub is_open : Phase → Bool
is_open Open = true
is_open Closed = false
is_open Planned = false

-- whether the leader plans
abbrev pub is_closed : Phase → Bool
is_closed Open = false
is_closed Closed = true
is_closed Planned = false
