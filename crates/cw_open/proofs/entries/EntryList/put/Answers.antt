use Rattle.std.proofs.Common.{arith, subst, sym, ◌∷◌, ◌++◌, List, [], ap}
use Rattle.cw_txn.specs.declared.entry.Entry.{Entry}
use Rattle.cw_open.specs.Entries.{AreListed}
use Rattle.cw_open.proofs.EntryLemmas.{few_bumps, list_more}
use Rattle.cw_open.proofs.entries.EntryList.put.Goals as goal

pub note-requires : goal.note-requires
note-requires c = few_bumps c.self.inside.entries.items c.self.inside.epochs c.self.inside.committed c.self.inside.length c.self.invariant (omega arith)
