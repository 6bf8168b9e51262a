-- Which call of Connect's REST API a request is: the target is a path and a query behind the first `?`; the path
-- decides the page, the method
-- what is asked of it, and the page's parameters name the connector or the task.
use Rattle.std.specs.Prelude.{◌+◌, ℕ, ◌==◌, Bool, true, false, List, [], length, take, drop, Option, Some, None, Result}
use Rattle.std.specs.Prelude.{Ok, Err, position, if◌then◌else◌}
use Rattle.std.specs.List.{list_all}
use Rattle.matchit.specs.Router.{RouteOf}
use Rattle.matchit.specs.Seek.{first}
use Rattle.matchit.specs.Params.{walk}
use Rattle.cw_types.specs.Name.{is_name_byte}
use Rattle.cw_route.specs.Table.{table}
use Rattle.cw_route.specs.Operations.{operation}
use Rattle.cw_route.specs.Parts.{name_in, task_in}
use Rattle.cw_route.specs.declared.page.Page.{Page}
use Rattle.cw_route.specs.declared.operation.Operation.{Operation}
use Rattle.cw_route.specs.declared.operation.Operation.TheVariants as op
use Rattle.cw_route.specs.declared.call.Call.{Call}
use Rattle.cw_route.specs.declared.call.Call.TheVariants.{Refused, Connectors, Create, Info, Delete, Config, PutConfig}
use Rattle.cw_route.specs.declared.call.Call.TheVariants.{Status, Tasks, TaskStatus, Pause, Resume, Stop, Restart}
use Rattle.cw_route.specs.declared.call.Call.TheVariants.{RestartTask, Offsets, Alter, Reset, Plugins}
use Rattle.cw_route.specs.declared.call.RouteFault.{RouteFault}
use Rattle.cw_route.specs.declared.call.RouteFault.TheVariants.{NotFound, NotAllowed, BadQuery}

-- the call of a part, where the path has it
abbrev pub of_part : {A : Type 0} → (A → Call) → Result A RouteFault → Result Call RouteFault
of_part call (Ok part) = Ok (call part)
of_part call (Err fault) = Err fault

-- the call of an operation, by the parts that the path's parameters took
abbrev pub call_for : Operation → List (List ℕ × List ℕ) → List ℕ → Result Call RouteFault
call_for op.Connectors params body = Ok Connectors
call_for op.Plugins params body = Ok Plugins
call_for op.Create params body = Ok (Create body)
call_for op.Info params body = of_part Info (name_in params)
call_for op.Delete params body = of_part Delete (name_in params)
call_for op.Config params body = of_part Config (name_in params)
call_for op.PutConfig params body = of_part (λ name. PutConfig name body) (name_in params)
call_for op.Status params body = of_part Status (name_in params)
call_for op.Tasks params body = of_part Tasks (name_in params)
call_for op.TaskStatus params body = of_part TaskStatus (task_in params)
call_for op.Pause params body = of_part Pause (name_in params)
call_for op.Resume params body = of_part Resume (name_in params)
call_for op.Stop params body = of_part Stop (name_in params)
call_for op.Restart params body = of_part Restart (name_in params)
call_for op.RestartTask params body = of_part RestartTask (task_in params)
call_for op.Offsets params body = of_part Offsets (name_in params)
call_for op.Alter params body = of_part (λ name. Alter name body) (name_in params)
call_for op.Reset params body = of_part Reset (name_in params)

-- the call of an operation, if the page has the method and there is no query
abbrev pub call_asked : Option Operation → List (List ℕ × List ℕ) → List ℕ → List ℕ → Result Call RouteFault
call_asked None params query body = Err NotAllowed
call_asked (Some operation) params query body = if length query == 0 then call_for operation params body
    else Err BadQuery

-- the parts of a path that a route's parameters took
abbrev pub params_of : List ℕ → RouteOf Page → List (List ℕ × List ℕ)
params_of path route = walk route.pattern route.text path route.names 0 0

-- the call at the route that a path has
abbrev pub call_on : List ℕ → List ℕ → List ℕ → List ℕ → Option (RouteOf Page) → Result Call RouteFault
call_on method path query body None = Err NotFound
call_on method path query body (Some route) = call_asked (operation route.value method) (params_of path route) query
    body

-- the call at a path, which holds no byte but `!` to `~`
abbrev pub call_at : List ℕ → List ℕ → List ℕ → List ℕ → Result Call RouteFault
call_at method path query body = if list_all is_name_byte path
    then call_on method path query body (first table path) else Err NotFound

-- the bytes before a place, or all
abbrev pub before : List ℕ → Option ℕ → List ℕ
before bytes None = bytes
before bytes (Some at) = take at bytes

-- the bytes behind a place, or none
abbrev pub behind : List ℕ → Option ℕ → List ℕ
behind bytes None = []
behind bytes (Some at) = drop (at + 1) bytes

-- the path of a target: what stands before the first `?`
abbrev pub path_in : List ℕ → List ℕ
path_in target = before target (position (λ b. b == 63) target)

-- the query of a target: what stands behind the first `?`
abbrev pub query_in : List ℕ → List ℕ
query_in target = behind target (position (λ b. b == 63) target)

-- the call of a method, a target and a body
abbrev pub call_of : List ℕ → List ℕ → List ℕ → Result Call RouteFault
call_of method target body = call_at method (path_in target) (query_in target) body

-- a request that is no call
abbrev pub is_refused : Call → Bool
is_refused (Refused fault) = true
is_refused _ = false
