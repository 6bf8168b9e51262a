-- Which worker may write through which leader, and which connectors it has to fence. Kafka Connect's workers hand a
-- write on to the leader; that a worker without one answers that a rebalance goes on is Connect's REST API.
use Rattle.std.specs.Prelude.{ℕ, ◌==◌, ◌&&◌, Bool, true, false, List, Option, Some, None, is_some, if◌then◌else◌}
use Rattle.std.specs.List.{filter, filter_map}
use Rattle.cw_types.specs.declared.ids.Item.{Item}
use Rattle.cw_types.specs.declared.ids.Item.TheVariants.{Connector, Task}
use Rattle.cw_config.specs.declared.records.ConfigRecord.{ConfigRecord}
use Rattle.cw_config.specs.View.{is_pending}
use Rattle.cw_model.specs.declared.row.RowPhase.{RowPhase}
use Rattle.cw_model.specs.declared.row.RowPhase.TheVariants.{Out, Joining, Stable}
use Rattle.cw_model.specs.State.{Cluster}
use Rattle.cw_model.specs.Lookups.{row_of, seen, configured_items}
use Rattle.cw_model.specs.EventsItems.{is_active}
use Rattle.cw_model.specs.EventsLeading.{leads}

-- whether a worker has an assignment
abbrev pub is_stable : RowPhase → Bool
is_stable Out = false
is_stable Joining = false
is_stable (Stable round leader) = true

-- whether it has that of a round
abbrev pub is_stable_in : ℕ → RowPhase → Bool
is_stable_in round Out = false
is_stable_in round Joining = false
is_stable_in round (Stable own leader) = own == round

-- whether a worker leads a round: it takes part, has the round's assignment from itself, and claimed an epoch
abbrev pub leads_round : (round w : ℕ) → Cluster → Bool
leads_round round w s = is_active s w && is_stable_in round (row_of w s).phase && leads w (row_of w s).phase &&
    is_some (row_of w s).lead

-- the leader of a worker's assignment, where it leads that round
abbrev pub leader_for : RowPhase → Cluster → Option ℕ
leader_for Out s = None
leader_for Joining s = None
leader_for (Stable round leader) s = if leads_round round leader s then Some leader else None

-- the leader through which a worker may write; it is ready where there is one
abbrev pub ready : ℕ → Cluster → Option ℕ
ready w s = if is_active s w then leader_for (row_of w s).phase s else None

-- the connector that an item is
abbrev pub connector_in : Item → Option (List ℕ)
connector_in (Connector name) = Some name
connector_in (Task id) = None

-- the connectors that are configured, in the order of their names
abbrev pub configured_connectors : List ConfigRecord → List (List ℕ)
configured_connectors records = filter_map connector_in (configured_items records)

-- the connectors of which a worker has read that their older tasks aren't fenced yet (KIP-618)
abbrev pub pending_connectors : ℕ → Cluster → List (List ℕ)
pending_connectors w s = filter (λ name. is_pending name (seen w s)) (configured_connectors (seen w s))
