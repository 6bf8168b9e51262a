use Rattle.std.proofs.Common.{◌≡◌}
use Rattle.cw_rest.specs.Pages as page
use Rattle.cw_reply.proofs.page.tasks_of.Given as goal

abbrev pub invariant-loop-index : goal.invariant-loop-index
invariant-loop-index l = l.tasks.items ≡ page.tasks_of l.connector l.index
