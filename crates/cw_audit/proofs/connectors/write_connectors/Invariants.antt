use Rattle.std.proofs.Common.{◌≡◌, [], take}
use Rattle.cw_audit.specs.Rows.{with_connectors}
use Rattle.cw_audit.proofs.connectors.write_connectors.Given as goal

abbrev pub invariant-loop-config : goal.invariant-loop-config
invariant-loop-config l = l.rows ≡ with_connectors l.configs (take l.config-index l.records) []
