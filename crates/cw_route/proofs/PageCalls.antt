use Rattle.std.proofs.Common.{◌≡◌, ℕ, List, Bool, true, false, Option, Some, None, Err, cond, refl, ap, ◌∙◌}
use Rattle.std.specs.List.{list_all}
use Rattle.matchit.specs.Router.{RouteOf}
use Rattle.matchit.specs.Seek.{first}
use Rattle.cw_types.specs.Name.{is_name_byte}
use Rattle.cw_route.specs.declared.call.RouteFault.TheVariants.{NotFound}
use Rattle.cw_route.specs.declared.page.Page.{Page}
use Rattle.cw_route.specs.Table.{table, page_path, page_params}
use Rattle.cw_route.specs.Operations.{operation}
use Rattle.cw_route.specs.Calls.{call_at, call_on, call_asked}
use Rattle.cw_route.specs.Spelled.{IsSegment, AreBytes, IsAt}
use Rattle.cw_route.proofs.Found.{page_found}
use Rattle.cw_route.proofs.Only.{table_only}
use Rattle.cw_route.proofs.Taken.{params_taken}

-- a page's path with a page's method is the page's call
pub page_call : (page : Page) (method name task query body : List ℕ) → IsSegment name → IsSegment task → list_all is_name_byte (page_path page name task) ≡ true
    → call_at method (page_path page name task) query body ≡ call_asked (operation page method) (page_params page name task) query body
page_call page method name task query body s t plain =
    ap (λ b. cond b (call_on method (page_path page name task) query body (first table (page_path page name task))) (Err NotFound)) plain
    ∙ ap (call_on method (page_path page name task) query body) (page_found page name task s t)
    ∙ ap (λ params. call_asked (operation page method) params query body) (params_taken page name task s t)

no_page : (method path query body : List ℕ) (plain : Bool) (o : Option (RouteOf Page)) → AreBytes path → ((page : Page) → IsAt path page → ⊥) → first table path ≡ o
    → cond plain (call_on method path query body o) (Err NotFound) ≡ Err NotFound
no_page method path query body false o small other e = refl
no_page method path query body true None small other e = refl
no_page method path query body true (Some r) small other e = let found = table_only path r small e in absurd (other found.0 found.1)

-- a path of no page isn't found
pub other_path : (method path query body : List ℕ) → AreBytes path → ((page : Page) → IsAt path page → ⊥) → call_at method path query body ≡ Err NotFound
other_path method path query body small other = no_page method path query body (list_all is_name_byte path) (first table path) small other refl
