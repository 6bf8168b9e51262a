use Rattle.std.proofs.Common.{◌≡◌, drop}
use Rattle.cw_plugin.specs.Checks.{bad_key, is_bad_number}
use Rattle.cw_plugin.proofs.check.bad_required_number.Given as goal

abbrev pub invariant-loop-field : goal.invariant-loop-field
invariant-loop-field l = bad_key is_bad_number l.props (drop l.field-index l.fields) ≡ bad_key is_bad_number l.props l.fields
