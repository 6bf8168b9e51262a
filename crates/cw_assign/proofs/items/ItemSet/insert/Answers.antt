use Rattle.cw_assign.proofs.ItemLemmas.{has-inserted, keys-inserted}
use Rattle.cw_assign.proofs.items.ItemSet.insert.Goals as goal

pub returns-clause-has : goal.returns-clause-has
returns-clause-has c = rw (← c.self.view_is) (has-inserted c.self.inside.items.keys c.insert.new.self.keys c.args.item c.in_ok-insert.ensures.updates.0)

pub returns-clause-items : goal.returns-clause-items
returns-clause-items c = rw (← c.self.view_is) (keys-inserted c.self.inside.items.keys c.insert.new.self.keys c.args.item c.in_ok-insert.ensures.keys)
