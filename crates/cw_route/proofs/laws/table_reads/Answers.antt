use Rattle.cw_route.proofs.Found.{page_found}
use Rattle.cw_route.proofs.Only.{table_only}
use Rattle.cw_route.proofs.Taken.{params_taken}
use Rattle.cw_route.proofs.laws.table_reads.Goals as goal

pub returns-clause-found : goal.returns-clause-found
returns-clause-found c = page_found

pub returns-clause-taken : goal.returns-clause-taken
returns-clause-taken c = params_taken

pub returns-clause-only : goal.returns-clause-only
returns-clause-only c = table_only
