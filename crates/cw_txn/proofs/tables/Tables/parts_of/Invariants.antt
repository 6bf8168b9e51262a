use Rattle.std.proofs.Common.{◌≡◌, ◌++◌}
use Rattle.cw_txn.specs.Tables.{rows_from, first_parts}
use Rattle.cw_txn.proofs.tables.Tables.parts_of.Given as goal

abbrev pub invariant-loop-part : goal.invariant-loop-part
invariant-loop-part l = l.parts.items ++ first_parts l.connector l.part-iterator ≡ first_parts l.connector (rows_from l.connector l.self.parts.entries)
