use Rattle.std.proofs.Common.{drop}
use Rattle.cw_route.proofs.Pages.{Fills}
use Rattle.cw_route.proofs.page.router.Given as goal

abbrev pub invariant-loop-page : goal.invariant-loop-page
invariant-loop-page l = Fills l.router (drop l.page-index l.page-items)
