use Rattle.std.proofs.Common.{◌≡◌, ◌++◌}
use Rattle.std.specs.List.{flat_map}
use Rattle.cw_audit.specs.Rows.{lines_in}
use Rattle.cw_audit.proofs.rows.Rows.write.Given as goal

abbrev pub invariant-loop-line : goal.invariant-loop-line
invariant-loop-line l = l.report.items ++ flat_map (λ line. line) l.line-iterator ≡ l.initial.report.items ++ lines_in l.self
