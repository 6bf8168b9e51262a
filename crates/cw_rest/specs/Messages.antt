-- The replies that aren't successes: a code, and a message in Connect's form of an error. The first messages of 404,
-- 405 and 409 and that on stopped connectors are Kafka Connect's, the others are this project's own.
use Rattle.std.specs.Prelude.{ℕ, List, [], ◌∷◌, ◌++◌, codes, decimal}
use Rattle.serde_json.specs.Data.{Data, object, member, no_members, number, unsigned, string}
use Rattle.serde_json.specs.Written.{compact_text}
use Rattle.cw_types.specs.declared.ids.TaskId.{TaskId}
use Rattle.cw_types.specs.declared.logs.LogName.{LogName}
use Rattle.cw_types.specs.declared.logs.LogName.TheVariants as log
use Rattle.cw_route.specs.declared.call.RouteFault.{RouteFault}
use Rattle.cw_route.specs.declared.call.RouteFault.TheVariants as route
use Rattle.cw_plugin.specs.declared.fault.PluginFault.{PluginFault}
use Rattle.cw_plugin.specs.declared.fault.PluginFault.TheVariants as plugin
use Rattle.cw_route.specs.declared.reply.Reply.{Reply}

-- a reply with a JSON value
abbrev pub replied : ℕ → Data → Reply
replied code body = record { code = code; body = compact_text body }

-- a reply without a body
abbrev pub empty_reply : ℕ → Reply
empty_reply code = record { code = code; body = [] }

-- an error
abbrev pub error_data : ℕ → List ℕ → Data
error_data code message = object (member (codes "error_code") (number (unsigned code))
    (member (codes "message") (string message) no_members))

abbrev pub refusal : ℕ → List ℕ → Reply
refusal code message = replied code (error_data code message)

-- the name of a log
abbrev pub log_text : LogName → List ℕ
log_text log.Config = codes "config"
log_text log.Offsets = codes "offsets"
log_text log.Status = codes "status"
log_text log.Txn = codes "transactions"
log_text log.Batches = codes "batches"

-- memory ran out; a log is full; a disk failed
abbrev pub memory_reply : Reply
memory_reply = refusal 503 (codes "Out of memory")

abbrev pub full_reply : LogName → Reply
full_reply log = refusal 507 (codes "Log " ++ log_text log ++ codes " is full")

abbrev pub failed_reply : Reply
failed_reply = refusal 500 (codes "Store failed")

-- a request that is no call. No such request is refused for want of memory, which has its own reply
abbrev pub not_called : RouteFault → Reply
not_called route.NotFound = refusal 404 (codes "HTTP 404 Not Found")
not_called route.NotAllowed = refusal 405 (codes "HTTP 405 Method Not Allowed")
not_called route.BadQuery = refusal 400 (codes "Query parameters are not supported")
not_called route.BadPath = refusal 400 (codes "Bad path")
not_called route.Memory = memory_reply

-- a body that can't be read as the call's, or whose name is no connector's
abbrev pub bad_body : Reply
bad_body = refusal 400 (codes "Bad request body")

abbrev pub bad_name : Reply
bad_name = refusal 400 (codes "Bad connector name")

-- there is no leader through which the asked worker may write
abbrev pub rebalancing : Reply
rebalancing = refusal 409 (codes "Cannot complete request because of a rebalance")

-- what is asked for isn't there
abbrev pub no_connector : List ℕ → Reply
no_connector name = refusal 404 (codes "Connector " ++ name ++ codes " not found")

abbrev pub no_status : List ℕ → Reply
no_status name = refusal 404 (codes "No status found for connector " ++ name)

abbrev pub no_task : TaskId → Reply
no_task id = refusal 404 (codes "Task " ++ decimal id.index ++ codes " of connector " ++ id.connector ++
    codes " not found")

-- what is to be made is there
abbrev pub already_there : List ℕ → Reply
already_there name = refusal 409 (codes "Connector " ++ name ++ codes " already exists")

-- offsets can't be set
abbrev pub not_stopped : Reply
not_stopped = refusal 400 (codes "Connectors must be in the STOPPED state before their offsets can be modified")

abbrev pub bad_offset : Reply
bad_offset = refusal 400 (codes "Bad partition or offset")

-- a config that its class doesn't take. A check's want of memory has its own reply
abbrev pub bad_config : PluginFault → Reply
bad_config plugin.NoClass = refusal 400 (codes "Missing connector.class")
bad_config plugin.UnknownClass = refusal 400 (codes "Unknown class")
bad_config (plugin.Missing key) = refusal 400 (codes "Missing " ++ key)
bad_config (plugin.BadInt key) = refusal 400 (codes "Bad number in " ++ key)
bad_config (plugin.NoFeed feed) = refusal 400 (codes "No feed " ++ feed)
bad_config (plugin.BadName key) = refusal 400 (codes "Bad name in " ++ key)
bad_config plugin.Memory = memory_reply
