use Rattle.std.proofs.Common.{◌≡◌, ℕ, List, Bool, true, false, Option, Some, None, Result, Ok, Err, ◌==◌, cond, length, refl}
use Rattle.std.specs.List.{list_all}
use Rattle.matchit.specs.Router.{RouteOf}
use Rattle.matchit.specs.Seek.{first}
use Rattle.cw_types.specs.Name.{is_name_byte}
use Rattle.cw_route.specs.declared.call.Call.{Call}
use Rattle.cw_route.specs.declared.call.Call.TheVariants.{Info, Delete, Config, PutConfig, Status, Tasks, TaskStatus, Pause, Resume, Stop, Restart, RestartTask, Offsets, Alter, Reset}
use Rattle.cw_route.specs.declared.call.RouteFault.{RouteFault}
use Rattle.cw_route.specs.declared.call.RouteFault.TheVariants.{NotFound, BadQuery}
use Rattle.cw_route.specs.declared.operation.Operation.{Operation}
use Rattle.cw_route.specs.declared.operation.Operation.TheVariants as op
use Rattle.cw_route.specs.declared.page.Page.{Page}
use Rattle.cw_route.specs.Table.{table}
use Rattle.cw_route.specs.Operations.{operation}
use Rattle.cw_route.specs.Parts.{name_in, task_in}
use Rattle.cw_route.specs.Calls.{of_part, call_for, call_asked, call_on, call_at, call_of, params_of, path_in, query_in, is_refused}

-- no refusal
abbrev Kept : Result Call RouteFault → Type 0
Kept (Ok call) = is_refused call ≡ false
Kept (Err fault) = Unit {0}

part_kept : {A : Type 0} (call : A → Call) → ((x : A) → is_refused (call x) ≡ false) → (part : Result A RouteFault) → Kept (of_part call part)
part_kept call kept (Ok x) = kept x
part_kept call kept (Err fault) = tt

for_kept : (operation : Operation) (ps : List (List ℕ × List ℕ)) (body : List ℕ) → Kept (call_for operation ps body)
for_kept op.Connectors ps body = refl
for_kept op.Plugins ps body = refl
for_kept op.Create ps body = refl
for_kept op.Info ps body = part_kept Info (λ x. refl) (name_in ps)
for_kept op.Delete ps body = part_kept Delete (λ x. refl) (name_in ps)
for_kept op.Config ps body = part_kept Config (λ x. refl) (name_in ps)
for_kept op.Status ps body = part_kept Status (λ x. refl) (name_in ps)
for_kept op.Tasks ps body = part_kept Tasks (λ x. refl) (name_in ps)
for_kept op.Pause ps body = part_kept Pause (λ x. refl) (name_in ps)
for_kept op.Resume ps body = part_kept Resume (λ x. refl) (name_in ps)
for_kept op.Stop ps body = part_kept Stop (λ x. refl) (name_in ps)
for_kept op.Restart ps body = part_kept Restart (λ x. refl) (name_in ps)
for_kept op.Offsets ps body = part_kept Offsets (λ x. refl) (name_in ps)
for_kept op.Reset ps body = part_kept Reset (λ x. refl) (name_in ps)
for_kept op.PutConfig ps body = part_kept (λ name. PutConfig name body) (λ x. refl) (name_in ps)
for_kept op.Alter ps body = part_kept (λ name. Alter name body) (λ x. refl) (name_in ps)
for_kept op.TaskStatus ps body = part_kept TaskStatus (λ x. refl) (task_in ps)
for_kept op.RestartTask ps body = part_kept RestartTask (λ x. refl) (task_in ps)

either_kept : (b : Bool) (x y : Result Call RouteFault) → Kept x → Kept y → Kept (cond b x y)
either_kept true x y k l = k
either_kept false x y k l = l

asked_kept : (o : Option Operation) (ps : List (List ℕ × List ℕ)) (query body : List ℕ) → Kept (call_asked o ps query body)
asked_kept None ps query body = tt
asked_kept (Some operation) ps query body = either_kept (length query == 0) (call_for operation ps body) (Err BadQuery) (for_kept operation ps body) tt

on_kept : (method path query body : List ℕ) (o : Option (RouteOf Page)) → Kept (call_on method path query body o)
on_kept method path query body None = tt
on_kept method path query body (Some route) = asked_kept (operation route.value method) (params_of path route) query body

at_kept : (method path query body : List ℕ) → Kept (call_at method path query body)
at_kept method path query body = either_kept (list_all is_name_byte path) (call_on method path query body (first table path)) (Err NotFound) (on_kept method path query body (first table path)) tt

from_ok : (result : Result Call RouteFault) (call : Call) → Kept result → result ≡ Ok call → is_refused call ≡ false
from_ok (Ok other) call kept e = cc
from_ok (Err fault) call kept e = cc

-- a request's call is no refusal
pub call_kept : (method target body : List ℕ) (call : Call) → call_of method target body ≡ Ok call → is_refused call ≡ false
call_kept method target body call e = from_ok _ call (at_kept method (path_in target) (query_in target) body) e
