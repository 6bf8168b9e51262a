use Rattle.std.proofs.Common.{◌↔◌, drop}
use Rattle.cw_model.specs.Committed.{Agrees}
use Rattle.cw_rows.proofs.agreeing.log_agrees.Given as goal

abbrev pub invariant-loop-entry : goal.invariant-loop-entry
invariant-loop-entry l = Agrees l.feeds l.coordinator.entries l.log ↔ Agrees l.feeds l.coordinator.entries (drop l.entry-index l.log)
