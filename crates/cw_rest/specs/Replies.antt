-- What each call of Connect's REST API is answered: the first refusal that holds, in the order in which they stand
-- here, and else the success.
use Rattle.std.specs.Prelude.{ℕ, ◌==◌, Bool, true, false, not, List, [], ◌∷◌, Option, Some, None, is_some, is_none}
use Rattle.std.specs.Prelude.{Result, Ok, Err, option_and_then, unwrap_or, codes, if◌then◌else◌}
use Rattle.std.specs.Option.{option_map_or}
use Rattle.cw_types.specs.declared.ids.Epoch.{Epoch}
use Rattle.cw_types.specs.declared.ids.Item.TheVariants.{Connector, Task}
use Rattle.cw_types.specs.declared.ids.TaskId.{TaskId}
use Rattle.cw_types.specs.declared.ids.Tid.TheVariants.{Lead}
use Rattle.cw_keys.specs.declared.status.StatusValue.{StatusValue}
use Rattle.cw_keys.specs.declared.target.Target.{Target}
use Rattle.cw_keys.specs.declared.target.Target.TheVariants.{Started, Paused, Stopped}
use Rattle.cw_config.specs.View.{Properties, fenced_count_of, target_of}
use Rattle.cw_plugin.specs.declared.class.Class.{Class}
use Rattle.cw_plugin.specs.declared.fault.PluginFault.{PluginFault}
use Rattle.cw_plugin.specs.Checks.{checked, is_name, is_among}
use Rattle.cw_route.specs.declared.call.Call.{Call}
use Rattle.cw_route.specs.declared.call.Call.TheVariants.{Refused, Connectors, Create, Info, Delete, Config, PutConfig}
use Rattle.cw_route.specs.declared.call.Call.TheVariants.{Status, Tasks, TaskStatus, Pause, Resume, Stop, Restart}
use Rattle.cw_route.specs.declared.call.Call.TheVariants.{RestartTask, Offsets, Alter, Reset, Plugins}
use Rattle.cw_status.specs.Statuses.{latest}
use Rattle.cw_txn.specs.declared.entry.Entry.{Entry}
use Rattle.cw_txn.specs.declared.entry.SetOffset.{SetOffset}
use Rattle.cw_txn.specs.Legal.{epoch_of}
use Rattle.cw_route.specs.declared.reply.Reply.{Reply}
use Rattle.cw_rest.specs.Seen.{Seen, KeyedValues, behind_write, is_connector, is_task}
use Rattle.cw_rest.specs.Operations.{config_values, target_values, stop_values, delete_values, offset_entries, removals}
use Rattle.cw_rest.specs.Messages.{replied, empty_reply, not_called, bad_body, bad_name, rebalancing, no_connector}
use Rattle.cw_rest.specs.Messages.{no_status, no_task, already_there, not_stopped, bad_offset, bad_config}
use Rattle.cw_rest.specs.Bodies.{Asked, asked_in, config_in}
use Rattle.cw_rest.specs.Offsets.{Alteration, alterations_in, sets_by}
use Rattle.cw_rest.specs.Pages.{config_seen, is_source, info, names, task_infos, task_status, connector_status}
use Rattle.cw_rest.specs.Pages.{parts_seen, offset_infos, message, plugins, properties}

-- ---- one refusal behind the other

-- a reply, unless something that it needs is lacking
abbrev pub unless : Bool → (lacking done : Reply) → Reply
unless true lacking done = done
unless false lacking done = lacking

-- a reply over what was read of a body, unless that can't be read
abbrev pub unless_bad : {A : Type 0} → Option A → (A → Reply) → Reply
unless_bad None done = bad_body
unless_bad (Some read) done = done read

-- a reply, unless the connector isn't configured
abbrev pub if_there : List ℕ → Seen → Reply → Reply
if_there name seen done = unless (is_connector name seen) (no_connector name) done

-- a reply, unless the class of a config doesn't take it
abbrev pub unless_faulty : Result Class PluginFault → Reply → Reply
unless_faulty (Ok class) done = done
unless_faulty (Err fault) done = bad_config fault

abbrev pub if_taken : Properties → Seen → Reply → Reply
if_taken props seen done = unless_faulty (checked (is_among seen.feeds) props) done

-- ---- calls that read

-- the states of a connector and its tasks, unless none was reported of it
abbrev pub status_reply : List ℕ → Seen → Option StatusValue → Reply
status_reply name seen None = no_status name
status_reply name seen (Some status) = replied 200 (connector_status name status seen)

-- the state of a task, unless none was reported of it
abbrev pub task_status_reply : TaskId → Option StatusValue → Reply
task_status_reply id None = no_task id
task_status_reply id (Some status) = replied 200 (task_status id.index status)

-- ---- calls that write configs

-- a connector as it is once something was written
abbrev pub written : ℕ → List ℕ → KeyedValues → Seen → Reply
written code name values seen = replied code (info name (behind_write values seen))

-- a new connector, whose name is one
abbrev pub create_named : (ready : Bool) → Seen → List ℕ → Properties → Reply
create_named ready seen name config =
    unless ready rebalancing (
    unless (not (is_connector name seen)) (already_there name) (
    if_taken config seen (written 201 name (config_values name config) seen)))

-- a new connector
abbrev pub create_reply : (ready : Bool) → Seen → Asked → Reply
create_reply ready seen asked =
    unless (is_name asked.name) bad_name (create_named ready seen asked.name asked.config)

-- a connector's config, which makes it where it isn't there
abbrev pub put_reply : (ready : Bool) → Seen → List ℕ → Properties → Reply
put_reply ready seen name config =
    unless ready rebalancing (
    if_taken config seen (
    written (if is_connector name seen then 200 else 201) name (config_values name config) seen))

-- a connector is paused, resumed, stopped or removed: there is nothing to tell
abbrev pub target_reply : (ready : Bool) → Seen → List ℕ → (code : ℕ) → Reply
target_reply ready seen name code = unless ready rebalancing (if_there name seen (empty_reply code))

-- ---- calls that restart

-- a task is restarted
abbrev pub restart_reply : (ready : Bool) → Seen → TaskId → Reply
restart_reply ready seen id =
    unless ready rebalancing (if_there id.connector seen (unless (is_task id seen) (no_task id) (empty_reply 204)))

-- ---- calls that write offsets (KIP-875)

-- whether a target state is that of a stopped connector
abbrev pub is_stopped : Target → Bool
is_stopped Started = false
is_stopped Paused = false
is_stopped Stopped = true

-- offsets of a stopped connector may be modified
abbrev pub if_stopped : (ready : Bool) → Seen → List ℕ → Reply → Reply
if_stopped ready seen name done =
    unless ready rebalancing (
    if_there name seen (
    unless (is_stopped (target_of name seen.configs)) not_stopped done))

-- what alterations set of a connector, by its type
abbrev pub sets_of : List ℕ → Seen → List Alteration → Option (List SetOffset)
sets_of name seen list = sets_by (is_source (config_seen name seen)) name list

-- offsets are altered
abbrev pub alter_reply : (ready : Bool) → Seen → List ℕ → List Alteration → Reply
alter_reply ready seen name list =
    if_stopped ready seen name (
    unless (is_some (sets_of name seen list)) bad_offset (
    replied 200 (message (codes "The offsets for this connector have been altered successfully"))))

-- offsets are reset
abbrev pub reset_reply : (ready : Bool) → Seen → List ℕ → Reply
reset_reply ready seen name = if_stopped ready seen name (
    replied 200 (message (codes "The offsets for this connector have been reset successfully")))

-- ---- the table

-- the reply to a call through a worker that may write or not, over what the call sees
abbrev pub reply_to : (ready : Bool) → Seen → Call → Reply
reply_to ready seen (Refused fault) = not_called fault
reply_to ready seen Connectors = replied 200 (names seen)
reply_to ready seen (Create body) = unless_bad (asked_in body) (create_reply ready seen)
reply_to ready seen (Info name) = if_there name seen (replied 200 (info name seen))
reply_to ready seen (Delete name) = target_reply ready seen name 204
reply_to ready seen (Config name) = if_there name seen (replied 200 (properties (config_seen name seen)))
reply_to ready seen (PutConfig name body) = unless_bad (config_in name body) (put_reply ready seen name)
reply_to ready seen (Status name) = if_there name seen (status_reply name seen (latest (Connector name) seen.statuses))
reply_to ready seen (Tasks name) = if_there name seen (replied 200 (task_infos name seen))
reply_to ready seen (TaskStatus id) = if_there id.connector seen (
    unless (is_task id seen) (no_task id) (task_status_reply id (latest (Task id) seen.statuses)))
reply_to ready seen (Pause name) = target_reply ready seen name 202
reply_to ready seen (Resume name) = target_reply ready seen name 202
reply_to ready seen (Stop name) = target_reply ready seen name 204
reply_to ready seen (Restart name) = target_reply ready seen name 204
reply_to ready seen (RestartTask id) = restart_reply ready seen id
reply_to ready seen (Offsets name) = if_there name seen (replied 200 (offset_infos name seen))
reply_to ready seen (Alter name body) = unless_bad (alterations_in name body) (alter_reply ready seen name)
reply_to ready seen (Reset name) = reset_reply ready seen name
reply_to ready seen Plugins = replied 200 plugins

-- ---- what a call writes where it succeeds

-- the records of the config log
abbrev pub values_of : Call → KeyedValues
values_of (Create body) = option_map_or (λ asked. config_values asked.name asked.config) (asked_in body) []
values_of (PutConfig name body) = option_map_or (config_values name) (config_in name body) []
values_of (Delete name) = delete_values name
values_of (Pause name) = target_values name Paused
values_of (Resume name) = target_values name Started
values_of (Stop name) = stop_values name
values_of _ = []

-- the offsets that it sets
abbrev pub offsets_of : Seen → Call → List SetOffset
offsets_of seen (Alter name body) = unwrap_or (option_and_then (sets_of name seen) (alterations_in name body)) []
offsets_of seen (Reset name) = removals (parts_seen name seen)
offsets_of seen _ = []

-- the connector whose offsets it sets
abbrev pub connector_set : Call → List ℕ
connector_set (Alter name body) = name
connector_set (Reset name) = name
connector_set _ = []

-- the entries of the transaction list, under the leader's last epoch
abbrev pub entries_of : Seen → Call → List Entry
entries_of seen call = offset_entries (connector_set call) (fenced_count_of (connector_set call) seen.configs)
    (record { 0 = epoch_of Lead seen.entries }) (offsets_of seen call)
