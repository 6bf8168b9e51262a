-- What is looked up in a state: a worker's row, an instance, what a worker has read of the config log, what it holds,
-- which items are configured, and what stands in the transaction list.
use Rattle.std.specs.Prelude.{ℕ, ◌==◌, ◌&&◌, Bool, true, false, not, List, [], ◌∷◌, length, map, take, drop, nat_lt}
use Rattle.std.specs.Prelude.{slice_index_or, Option, Some, None, unwrap_or, is_some}
use Rattle.std.specs.List.{filter, filter_map, flat_map, range_with_len}
use Rattle.cw_types.specs.declared.ids.Item.{Item}
use Rattle.cw_types.specs.declared.ids.Item.TheVariants.{Connector, Task}
use Rattle.cw_types.specs.declared.ids.Tid.{Tid}
use Rattle.cw_types.specs.declared.ids.Tid.TheVariants as producer
use Rattle.cw_types.specs.declared.ids.PartKey.{PartKey}
use Rattle.cw_assign.specs.Items.{in_order}
use Rattle.cw_group.specs.Members.{member_of}
use Rattle.cw_group.specs.declared.member.Member.{Member}
use Rattle.cw_config.specs.declared.records.ConfigRecord.{ConfigRecord}
use Rattle.cw_config.specs.View.{config_of, task_count_of}
use Rattle.cw_txn.specs.declared.entry.Entry.{Entry}
use Rattle.cw_txn.specs.History.{end_of}
use Rattle.cw_txn.specs.Legal.{epoch_of}
use Rattle.cw_rest.specs.Seen.{connector_key}
use Rattle.cw_model.specs.declared.row.Row.{Row}
use Rattle.cw_model.specs.declared.row.RowPhase.TheVariants.{Out}
use Rattle.cw_model.specs.declared.instance.Instance.{Instance}
use Rattle.cw_model.specs.declared.instance.InstancePhase.TheVariants as phase
use Rattle.cw_model.specs.State.{Cluster}
use Rattle.cw_model.specs.Phases.{is_ended}

-- a worker as it is made: it lives and hears, and is no member
abbrev pub new_row : Row
new_row = record {
  live = true;
  hearing = true;
  incarnation = None;
  phase = Out;
  round = 0;
  assigned = [];
  revoked = [];
  prefix = 0;
  lead = None;
  fencing = None;
}

-- a worker that never was, which counts as killed
abbrev pub no_row : Row
no_row = record {
  live = false;
  hearing = false;
  incarnation = None;
  phase = Out;
  round = 0;
  assigned = [];
  revoked = [];
  prefix = 0;
  lead = None;
  fencing = None;
}

-- the row of a worker
abbrev pub row_of : ℕ → Cluster → Row
row_of w s = slice_index_or s.rows w no_row

-- an instance that never was, which counts as ended
abbrev pub no_instance : Instance
no_instance = record {
  worker = 0;
  item = Connector [];
  phase = phase.Ended;
  generation = 0;
  epoch = None;
  number = 0;
  task = None;
  positions = [];
  last = None;
  cut = None;
  trace = None;
  reported = None;
}

-- the instance of a number
abbrev pub instance_of : ℕ → Cluster → Instance
instance_of i s = slice_index_or s.instances i no_instance

-- what a worker has read of the config log
abbrev pub seen : ℕ → Cluster → List ConfigRecord
seen w s = take (row_of w s).prefix s.configs

-- whether a worker has an instance, which hasn't ended
abbrev pub is_at : ℕ → Instance → Bool
is_at w i = (i.worker == w) && not (is_ended i.phase)

-- what a worker holds: the items of its instances that haven't ended, in item order
abbrev pub held : ℕ → Cluster → List Item
held w s = in_order (map (λ i. i.item) (filter (is_at w) s.instances))

-- whether the group knows a worker as the member as which it entered last
abbrev pub is_same_incarnation : Option ℕ → Option Member → Bool
is_same_incarnation None m = false
is_same_incarnation (Some incarnation) None = false
is_same_incarnation (Some incarnation) (Some m) = m.incarnation == incarnation

-- a worker whose row has the incarnation that the group has for it
abbrev pub is_member : ℕ → Cluster → Bool
is_member w s = is_same_incarnation (row_of w s).incarnation (member_of w s.group.members)

-- the connector of an item
abbrev pub connector_of : Item → List ℕ
connector_of (Connector name) = name
connector_of (Task id) = id.connector

-- the items of a connector that is configured: itself and its tasks
abbrev pub items_of : List ConfigRecord → List ℕ → List Item
items_of records name = Connector name ∷ map (λ index. Task (record { connector = name; index = index }))
    (range_with_len 0 (task_count_of name records))

-- the configured connectors' items, in item order
abbrev pub configured_items : List ConfigRecord → List Item
configured_items records =
    in_order (flat_map (items_of records) (filter (λ name. is_some (config_of name records))
    (filter_map (λ r. connector_key r.key) records)))

-- whether an item is configured: its connector is, and a task's number is below the count
abbrev pub is_configured : List ConfigRecord → Item → Bool
is_configured records (Connector name) = is_some (config_of name records)
is_configured records (Task id) = is_some (config_of id.connector records) &&
    nat_lt id.index (task_count_of id.connector records)

-- the last epoch of a producer
abbrev pub last_epoch : Tid → Cluster → ℕ
last_epoch tid s = epoch_of tid s.entries

-- the connector of which a producer is a task
abbrev pub task_connector : Tid → Option (List ℕ)
task_connector producer.Lead = None
task_connector (producer.Task id) = Some id.connector
task_connector (producer.Raw n) = None

-- the position behind what is committed of a part, 0 where nothing is
abbrev pub end_or_start : PartKey → List Entry → ℕ
end_or_start part entries = unwrap_or (end_of part entries) 0

-- the place behind the last entry of the transaction list: how long the list is
abbrev pub list_end : List Entry → ℕ
list_end entries = length entries

-- the entries from a place on
abbrev pub from_place : ℕ → List Entry → List Entry
from_place place entries = drop place entries
