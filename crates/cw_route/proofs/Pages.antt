-- The pages go into the table one after the other.
use Rattle.std.proofs.Common.{◌≡◌, ℕ, ◌+◌, ◌<◌, ◌≤◌, List, [], ◌∷◌, length, drop, get_or, None, Result, refl, subst}
use Rattle.std.proofs.lemmas.List.{drop_more, drop_all}
use Rattle.matchit.specs.Rows.{RowsOf}
use Rattle.matchit.specs.Order.{placed}
use Rattle.matchit.specs.Route.{parse_route}
use Rattle.matchit.specs.Router.{RouteOf, Inserted, InsertsRead, Refused, nearest}
use Rattle.matchit.specs.declared.error.InsertError.{InsertError}
use Rattle.matchit.specs.declared.error.InsertError.TheVariants.{Conflict, InvalidParam, InvalidParamSegment, InvalidCatchAll, OutOfMemory}
use Rattle.matchit.proofs.OnLiterals.{matchit_on_literals}
use Rattle.cw_route.specs.declared.page.Page.{Page}
use Rattle.cw_route.specs.declared.page.Page.TheVariants.{Connectors, Plugins, Connector, Config, Offsets, Pause, Resume, Stop, Restart, Status, Tasks, TaskRestart, TaskStatus}
use Rattle.cw_route.specs.Table.{table, page_text, page_route}

-- a page's pattern reads as its route
pub page_inserted : (page : Page) (old new : RowsOf (RouteOf Page)) (result : Result (Unit {0}) InsertError)
    → InsertsRead (parse_route (page_text page)) page old new result → Inserted (page_route page) old new result
unfolding matchit_on_literals
page_inserted Connectors old new result inserted = inserted
page_inserted Plugins old new result inserted = inserted
page_inserted Connector old new result inserted = inserted
page_inserted Config old new result inserted = inserted
page_inserted Offsets old new result inserted = inserted
page_inserted Pause old new result inserted = inserted
page_inserted Resume old new result inserted = inserted
page_inserted Stop old new result inserted = inserted
page_inserted Restart old new result inserted = inserted
page_inserted Status old new result inserted = inserted
page_inserted Tasks old new result inserted = inserted
page_inserted TaskRestart old new result inserted = inserted
page_inserted TaskStatus old new result inserted = inserted

-- what has no conflict is refused for want of memory alone
pub refused_for_memory : (pattern : List ℕ) (rows : RowsOf (RouteOf Page)) (fault : InsertError) → Refused pattern rows fault → nearest pattern rows ≡ None → fault ≡ OutOfMemory
refused_for_memory pattern rows (Conflict with) refused free = let taken = refused.1 in cc
refused_for_memory pattern rows OutOfMemory refused free = refl
refused_for_memory pattern rows InvalidParamSegment refused free = absurd refused
refused_for_memory pattern rows InvalidParam refused free = absurd refused
refused_for_memory pattern rows InvalidCatchAll refused free = absurd refused

-- these pages fill the rows up to the table, and none conflicts on the way
abbrev pub Fills : RowsOf (RouteOf Page) → List Page → Type 0
Fills rows [] = rows ≡ table
Fills rows (page ∷ rest) = (nearest (page_route page).pattern rows ≡ None) × Fills (placed ((page_route page).pattern, page_route page) rows) rest

-- the page at a place of the list, and those behind it
pub fills_next : (pages : List Page) (at : ℕ) (other : Page) (rows : RowsOf (RouteOf Page)) → at < length pages → Fills rows (drop at pages) → Fills rows (get_or pages at other ∷ drop (at + 1) pages)
fills_next pages at other rows within fills = subst (Fills rows) (drop_more pages at other within) fills

-- where no page is left the rows are the table
pub fills_all : (pages : List Page) (at : ℕ) (rows : RowsOf (RouteOf Page)) → length pages ≤ at → Fills rows (drop at pages) → rows ≡ table
fills_all pages at rows past fills = subst (Fills rows) (drop_all at pages past) fills

-- all pages, in the order in which the router gets them
abbrev pub pages_in_order : List Page
pages_in_order = Connectors ∷ Plugins ∷ Connector ∷ Config ∷ Offsets ∷ Pause ∷ Resume ∷ Stop ∷ Restart ∷ Status ∷ Tasks ∷ TaskRestart ∷ TaskStatus ∷ []

pub all_fill : Fills [] pages_in_order
all_fill = (refl, (refl, (refl, (refl, (refl, (refl, (refl, (refl, (refl, (refl, (refl, (refl, (refl, refl)))))))))))))
