use Rattle.cw_route.specs.declared.page.Page.TheVariants.{Connectors}
use Rattle.cw_route.proofs.Pages.{pages_in_order, all_fill, fills_next, fills_all}
use Rattle.cw_route.proofs.page.router.Goals as goal

pub loop-page-init : goal.loop-page-init
loop-page-init c = rw c.new-router.ensures all_fill

pub add-requires : goal.add-requires
add-requires c = (fills_next pages_in_order c.loop-page.page-index Connectors c.loop-page.router c.loop-page-test.true c.loop-page.invariant).0

pub loop-page-preserved : goal.loop-page-preserved
loop-page-preserved c = rw c.in_ok-add.ensures (fills_next pages_in_order c.loop-page.page-index Connectors c.loop-page.router c.loop-page-test.true c.loop-page.invariant).1

pub returns : goal.returns
returns c = fills_all pages_in_order c.loop-page.page-index c.loop-page.router c.loop-page-test.false c.loop-page.invariant
