-- What of a board's records may go to other threads, and be shared by them: the config states, and what is put.
use denote.Builtin.{u64}
use denote.Param.Send.{IsSend, IsSync, struct_send, struct_sync, sendable}
use Rattle.std.proofs.Crossing.{crosses}
use Rattle.std.proofs.MapsCrossing.{crosses as maps_cross, BTreeMap-send, BTreeMap-sync}
use Rattle.std.specs.contracts.option.Option as Option
use Rattle.cw_types.specs.contracts.past.Past as Past
use Rattle.cw_types.proofs.past.Past.TheSendSync as past
use Rattle.cw_types.specs.contracts.name.Name as Name
use Rattle.cw_types.specs.contracts.ids.TaskId as TaskId
use Rattle.cw_json.specs.contracts.text.Text as Text
use Rattle.cw_json.specs.contracts.props.Props as Props
use Rattle.cw_keys.specs.contracts.config_value.ConfigValue as ConfigValue
use Rattle.cw_config.specs.contracts.records.ConfigRecord as Record
use Rattle.cw_config.specs.contracts.state.ConfigState as State
use Rattle.cw_config.specs.contracts.tables.Tables as Tables
use Rattle.cw_config.specs.contracts.tables.Stored as Stored
use Rattle.cw_config.specs.contracts.tables.TaskRow as TaskRow
use Rattle.logbook.proofs.tokens.Seen.TheSendSync as seen
use Rattle.cw_board.specs.contracts.history.Front as Front
use Rattle.cw_board.specs.contracts.shelf.Shelf as Shelf
use Rattle.cw_board.specs.contracts.shelves.Shelves as Shelves
use Rattle.cw_board.specs.contracts.shelves.Post as Post

text_send : IsSend Text.the_row
text_send = search (sendable, crosses, maps_cross) depth 20

text_sync : IsSync Text.the_row
text_sync = search (sendable, crosses, maps_cross) depth 20

props_send : IsSend Props.the_row
props_send = search (sendable, crosses, text_send) depth 20

props_sync : IsSync Props.the_row
props_sync = search (sendable, crosses, text_sync) depth 20

value_send : IsSend ConfigValue.the_row
value_send = search (sendable, props_send) depth 20

value_sync : IsSync ConfigValue.the_row
value_sync = search (sendable, props_sync) depth 20

stored_send : IsSend Stored.the_row
stored_send = search (sendable, value_send) depth 20

stored_sync : IsSync Stored.the_row
stored_sync = search (sendable, value_sync) depth 20

stored_field_send : IsSend Stored.the_field.row
stored_field_send = search (sendable, value_send) depth 20

stored_field_sync : IsSync Stored.the_field.row
stored_field_sync = search (sendable, value_sync) depth 20

task_send : IsSend TaskRow.the_row
task_send = search (sendable, stored_send, stored_field_send) depth 12

task_sync : IsSync TaskRow.the_row
task_sync = search (sendable, stored_sync, stored_field_sync) depth 12

name_send : IsSend Name.the_row
name_send = search (sendable, crosses, maps_cross) depth 20

name_sync : IsSync Name.the_row
name_sync = search (sendable, crosses, maps_cross) depth 20

id_send : IsSend TaskId.the_row
id_send = search (sendable, name_send) depth 20

id_sync : IsSync TaskId.the_row
id_sync = search (sendable, name_sync) depth 20

stored_option_send : IsSend (Option.the_row Stored.the_row)
stored_option_send = search (sendable, stored_send) depth 12

stored_option_sync : IsSync (Option.the_row Stored.the_row)
stored_option_sync = search (sendable, stored_sync) depth 12

task_option_send : IsSend (Option.the_row TaskRow.the_row)
task_option_send = search (sendable, task_send) depth 12

task_option_sync : IsSync (Option.the_row TaskRow.the_row)
task_option_sync = search (sendable, task_sync) depth 12

number_option_send : IsSend (Option.the_field u64).row
number_option_send = search sendable depth 12

number_option_sync : IsSync (Option.the_field u64).row
number_option_sync = search sendable depth 12

tables_send : IsSend Tables.the_field.row
tables_send = search (struct_send, BTreeMap-send, name_send, id_send, stored_option_send, task_option_send, number_option_send) depth 20

tables_sync : IsSync Tables.the_field.row
tables_sync = search (struct_sync, BTreeMap-sync, name_sync, id_sync, stored_option_sync, task_option_sync, number_option_sync) depth 20

record_send : IsSend Record.the_row
record_send = search (sendable, name_send, value_send) depth 20

records_send : IsSend (Past.the_row Record.the_row)
records_send = past.the_send Record.the_row record_send

records_sync : IsSync (Past.the_row Record.the_row)
records_sync = past.the_sync Record.the_row

inside_send : IsSend State.TheInside.the_row
inside_send = search (sendable, records_send, tables_send) depth 12

inside_sync : IsSync State.TheInside.the_row
inside_sync = search (sendable, records_sync, tables_sync) depth 12

pub state_send : IsSend State.the_row
state_send = search (sendable, inside_send) depth 5

pub state_sync : IsSync State.the_row
state_sync = search (sendable, inside_sync) depth 5

shelf_send : IsSend Shelf.the_row
shelf_send = search (sendable, state_send) depth 12

shelf_sync : IsSync Shelf.the_row
shelf_sync = search (sendable, state_sync) depth 12

pub front_send : IsSend Front.the_row
front_send = search (sendable, seen.the_send) depth 12

front_sync : IsSync Front.the_row
front_sync = search (sendable, seen.the_sync) depth 12

pub shelves_send : IsSend Shelves.the_row
shelves_send = search (sendable, crosses, shelf_send, front_send) depth 12

pub shelves_sync : IsSync Shelves.the_row
shelves_sync = search (sendable, crosses, shelf_sync, front_sync) depth 12

pub post_send : IsSend Post.the_row
post_send = search (sendable, crosses, front_send) depth 24
