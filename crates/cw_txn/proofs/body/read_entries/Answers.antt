use Rattle.std.proofs.Common.{arith}
use Rattle.cw_txn.proofs.Bodies.{is_found, is_only, not_refused}
use Rattle.cw_txn.proofs.body.read_entries.Goals as goal

pub returns-clause-found : goal.returns-clause-found
returns-clause-found c = is_found c.args.body.now c.read_body.result (λ i. omega (arith, c.type_inv.body i)) c.read_body.ensures

pub returns-clause-only : goal.returns-clause-only
returns-clause-only c entries are is = is_only c.args.body.now c.read_body.result entries are is c.read_body.ensures

pub returns-clause-refused : goal.returns-clause-refused
returns-clause-refused c entries are is = not_refused c.args.body.now c.read_body.result entries are is c.read_body.ensures
