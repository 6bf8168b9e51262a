use Rattle.std.proofs.Common.{◌≡◌, drop}
use Rattle.cw_plugin.specs.Checks.{missing_key}
use Rattle.cw_plugin.proofs.check.missing_key.Given as goal

abbrev pub invariant-loop-field : goal.invariant-loop-field
invariant-loop-field l = missing_key l.props (drop l.field-index l.fields) ≡ missing_key l.props l.fields
