-- The connector that a call names by its path has a name.
use Rattle.std.proofs.Common.{◌≡◌, ℕ, ◌==◌, ◌^◌, ◌-◌, ◌∷◌, [], Bool, true, false, List, Option, Some, None, length, Result, Ok, Err, if◌then◌else◌, refl, sym, subst, ap, ◌∙◌}
use Rattle.std.specs.List.{list_all}
use Rattle.matchit.specs.Router.{RouteOf}
use Rattle.matchit.specs.Seek.{first}
use Rattle.percent_encoding.specs.Percent.{percent_decode}
use Rattle.std.specs.Prelude.{ok_or}
use Rattle.cw_types.specs.Name.{IsName, name_fault, name_of, unless_fault, is_name_byte}
use Rattle.cw_types.specs.Task.{task_of_parts}
use Rattle.cw_types.specs.declared.name.NameFault.{NameFault}
use Rattle.cw_route.specs.Table.{table}
use Rattle.cw_route.specs.Operations.{operation}
use Rattle.cw_route.specs.Parts.{name_in, task_in}
use Rattle.cw_route.specs.Calls.{of_part, call_for, call_asked, params_of, call_on, call_at, path_in, query_in, call_of}
use Rattle.cw_route.specs.declared.page.Page.{Page}
use Rattle.cw_route.specs.declared.operation.Operation.{Operation}
use Rattle.cw_route.specs.declared.operation.Operation.TheVariants as op
use Rattle.cw_route.specs.declared.call.Call.{Call}
use Rattle.cw_route.specs.declared.call.Call.TheVariants.{Refused, Connectors, Create, Info, Delete, Config, PutConfig, Status, Tasks, TaskStatus, Pause, Resume, Stop, Restart, RestartTask, Offsets, Alter, Reset, Plugins}
use Rattle.cw_route.specs.declared.call.RouteFault.{RouteFault}
use Rattle.cw_route.specs.declared.call.RouteFault.TheVariants.{NotFound, NotAllowed, BadPath, BadQuery}
use Rattle.cw_types.specs.declared.ids.TaskId.{TaskId}
use Rattle.cw_types.specs.Decimal.{number_of}
use Rattle.cw_route.specs.HeldNames.{HoldsName}

-- what was called holds a name
abbrev pub Holds : Result Call RouteFault → Type 0
Holds (Ok call) = HoldsName call
Holds (Err fault) = Unit {0}

-- bytes that are a name
of-named : (bytes name : List ℕ) → name_of bytes ≡ Some name → IsName name
of-named bytes name is = at (name_fault bytes) refl is where
  at : (o : Option NameFault) → name_fault bytes ≡ o → unless_fault bytes o ≡ Some name → IsName name
  at None good is = let equal : bytes ≡ name = cc in subst (λ t. name_fault t ≡ None) equal good
  at (Some fault) bad is = absurd (cc)

-- what a parameter took is a name
name_in-named : (params : List (List ℕ × List ℕ)) (name : List ℕ) → name_in params ≡ Ok name → IsName name
name_in-named [] name is = absurd (cc)
name_in-named (p ∷ ps) name is = at (name_of (percent_decode p.1)) refl is where
  at : (o : Option (List ℕ)) → name_of (percent_decode p.1) ≡ o → ok_or o BadPath ≡ Ok name → IsName name
  at None found is = absurd (cc)
  at (Some own) found is = let same : own ≡ name = cc in subst IsName same (of-named (percent_decode p.1) own found)

task_in-named : (params : List (List ℕ × List ℕ)) (id : TaskId) → task_in params ≡ Ok id → IsName id.connector
task_in-named [] id is = absurd (cc)
task_in-named (p ∷ []) id is = absurd (cc)
task_in-named (p ∷ q ∷ ps) id is = at (name_of (percent_decode p.1)) (number_of (2 ^ 32 - 1) (percent_decode q.1)) refl is where
  at : (o : Option (List ℕ)) (index : Option ℕ) → name_of (percent_decode p.1) ≡ o → ok_or (task_of_parts o index) BadPath ≡ Ok id → IsName id.connector
  at None index found is = absurd (cc)
  at (Some name) None found is = absurd (cc)
  at (Some name) (Some index) found is =
      let same : record { connector = name; index = index } ≡ id = cc in
      subst (λ (x : TaskId). IsName x.connector) same (of-named (percent_decode p.1) name found)

-- a call of that name has it
part-named : (call : List ℕ → Call) → ((name : List ℕ) → IsName name → HoldsName (call name)) → (o : Result (List ℕ) RouteFault) → ((name : List ℕ) → o ≡ Ok name → IsName name) → Holds (of_part call o)
part-named call has (Err fault) named = tt
part-named call has (Ok name) named = has name (named name refl)

task-named : (call : TaskId → Call) → ((id : TaskId) → IsName id.connector → HoldsName (call id)) → (o : Result TaskId RouteFault) → ((id : TaskId) → o ≡ Ok id → IsName id.connector) → Holds (of_part call o)
task-named call has (Err fault) named = tt
task-named call has (Ok id) named = has id (named id refl)

for-named : (o : Operation) (params : List (List ℕ × List ℕ)) (body : List ℕ) → Holds (call_for o params body)
for-named op.Connectors params body = tt
for-named op.Plugins params body = tt
for-named op.Create params body = tt
for-named op.Info params body = part-named Info (λ name is. is) (name_in params) (name_in-named params)
for-named op.Delete params body = part-named Delete (λ name is. is) (name_in params) (name_in-named params)
for-named op.Config params body = part-named Config (λ name is. is) (name_in params) (name_in-named params)
for-named op.PutConfig params body = part-named (λ name. PutConfig name body) (λ name is. is) (name_in params) (name_in-named params)
for-named op.Status params body = part-named Status (λ name is. is) (name_in params) (name_in-named params)
for-named op.Tasks params body = part-named Tasks (λ name is. is) (name_in params) (name_in-named params)
for-named op.TaskStatus params body = task-named TaskStatus (λ id is. is) (task_in params) (task_in-named params)
for-named op.Pause params body = part-named Pause (λ name is. is) (name_in params) (name_in-named params)
for-named op.Resume params body = part-named Resume (λ name is. is) (name_in params) (name_in-named params)
for-named op.Stop params body = part-named Stop (λ name is. is) (name_in params) (name_in-named params)
for-named op.Restart params body = part-named Restart (λ name is. is) (name_in params) (name_in-named params)
for-named op.RestartTask params body = task-named RestartTask (λ id is. is) (task_in params) (task_in-named params)
for-named op.Offsets params body = part-named Offsets (λ name is. is) (name_in params) (name_in-named params)
for-named op.Alter params body = part-named (λ name. Alter name body) (λ name is. is) (name_in params) (name_in-named params)
for-named op.Reset params body = part-named Reset (λ name is. is) (name_in params) (name_in-named params)

asked-named : (o : Option Operation) (params : List (List ℕ × List ℕ)) (query body : List ℕ) → Holds (call_asked o params query body)
asked-named None params query body = tt
asked-named (Some o) params query body = at (length query == 0) where
  at : (b : Bool) → Holds (if b then call_for o params body else Err BadQuery)
  at true = for-named o params body
  at false = tt

on-named : (method path query body : List ℕ) (o : Option (RouteOf Page)) → Holds (call_on method path query body o)
on-named method path query body None = tt
on-named method path query body (Some route) = asked-named (operation route.value method) (params_of path route) query body

at-named : (method path query body : List ℕ) → Holds (call_at method path query body)
at-named method path query body = at (list_all is_name_byte path) where
  at : (b : Bool) → Holds (if b then call_on method path query body (first table path) else Err NotFound)
  at true = on-named method path query body (first table path)
  at false = tt

pub call-named : (method target body : List ℕ) (call : Call) → call_of method target body ≡ Ok call → HoldsName call
call-named method target body call is = at (call_of method target body) is (at-named method (path_in target) (query_in target) body) where
  at : (result : Result Call RouteFault) → result ≡ Ok call → Holds result → HoldsName call
  at (Ok own) is holds = let same : own ≡ call = cc in subst HoldsName same holds
  at (Err fault) is holds = absurd (cc)
