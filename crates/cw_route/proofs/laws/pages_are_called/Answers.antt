use Rattle.cw_route.proofs.PageCalls.{page_call, other_path}
use Rattle.cw_route.proofs.Kept.{call_kept}
use Rattle.cw_route.proofs.laws.pages_are_called.Goals as goal

pub returns-clause-page : goal.returns-clause-page
returns-clause-page c = page_call

pub returns-clause-other : goal.returns-clause-other
returns-clause-other c = other_path

pub returns-clause-kept : goal.returns-clause-kept
returns-clause-kept c = call_kept
