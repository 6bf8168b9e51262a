use Rattle.std.proofs.Common.{arith}
use Rattle.cw_txn.proofs.Bodies.{isnt_unreadable}
use Rattle.cw_txn.proofs.WalkLemmas.{takes_body}
use Rattle.cw_txn.proofs.replay.Replay.take_body.Goals as goal

pub returns-in-Ok-clause-taken : goal.returns-in-Ok-clause-taken
returns-in-Ok-clause-taken c = rw (← c.self.view_is)
    (takes_body c.args.body.now c.args.gate c.in-Ok.field-0.items c.self.inside.walk c.take_whole.new.self (λ i. omega (arith, c.type_inv.body i)) c.in-Ok.ensures.read c.in-Ok.ensures.took)

pub returns-in-Err-clause-refused : goal.returns-in-Err-clause-refused
returns-in-Err-clause-refused c entries are is same = isnt_unreadable c.args.body.now c.in-Err.fault entries are is c.in-Err.ensures.read (cc)
