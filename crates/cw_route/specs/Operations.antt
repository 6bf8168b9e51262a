-- Which methods each path of Connect's REST API has (KIP-875 added those of offsets and stop), and what they ask for.
use Rattle.std.specs.Prelude.{ℕ, List, Option, Some, None, codes, bytes_eq, if◌then◌else◌}
use Rattle.cw_route.specs.declared.page.Page.{Page}
use Rattle.cw_route.specs.declared.page.Page.TheVariants.{Connectors, Plugins, Connector, Config, Offsets, Pause}
use Rattle.cw_route.specs.declared.page.Page.TheVariants.{Resume, Stop, Restart, Status, Tasks, TaskRestart, TaskStatus}
use Rattle.cw_route.specs.declared.operation.Operation.{Operation}
use Rattle.cw_route.specs.declared.operation.Operation.TheVariants as op

-- the operation, where the method is the wanted one
abbrev pub only : List ℕ → Operation → List ℕ → Option Operation
only wanted operation method = if bytes_eq method wanted then Some operation else None

-- what a method asks for at a page, if the page has it
abbrev pub operation : Page → List ℕ → Option Operation
operation Connectors method = if bytes_eq method (codes "GET") then Some op.Connectors
    else only (codes "POST") op.Create method
operation Plugins method = only (codes "GET") op.Plugins method
operation Connector method = if bytes_eq method (codes "GET") then Some op.Info
    else only (codes "DELETE") op.Delete method
operation Config method = if bytes_eq method (codes "GET") then Some op.Config
    else only (codes "PUT") op.PutConfig method
operation Offsets method =
    if bytes_eq method (codes "GET") then Some op.Offsets else
    if bytes_eq method (codes "PATCH") then Some op.Alter else only (codes "DELETE") op.Reset method
operation Pause method = only (codes "PUT") op.Pause method
operation Resume method = only (codes "PUT") op.Resume method
operation Stop method = only (codes "PUT") op.Stop method
operation Restart method = only (codes "POST") op.Restart method
operation Status method = only (codes "GET") op.Status method
operation Tasks method = only (codes "GET") op.Tasks method
operation TaskRestart method = only (codes "POST") op.RestartTask method
operation TaskStatus method = only (codes "GET") op.TaskStatus method
