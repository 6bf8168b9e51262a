-- How a worker joins (KIP-415): where it is no member it enters first, with nothing in its claim.
use Rattle.std.specs.Prelude.{ℕ, List}
use Rattle.cw_types.specs.declared.ids.Item.{Item}
use Rattle.cw_group.specs.Group.{join_row}
use Rattle.cw_model.specs.State.{Cluster}
use Rattle.cw_model.specs.Answers.{Answer, answered, at_group}
use Rattle.cw_model.specs.EventsGroups.{entered, incarnation_in, joining}
use Rattle.cw_model.specs.Updates.{changes_row}

-- the cluster, whose group a worker has entered where it isn't a member
abbrev pub with_entered : ℕ → Cluster → Cluster
with_entered w s = record s { group = entered w s }

-- a member joins, and may run these items
abbrev pub joins_group : ℕ → List Item → Cluster → Answer ℕ
joins_group w held s = at_group (join_row w (incarnation_in w s.group) held s.group)
    (λ did. answered did.0 (changes_row w (joining (incarnation_in w did.1) held) (record s { group = did.1 }))) s
