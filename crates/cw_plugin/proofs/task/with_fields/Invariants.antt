use Rattle.std.proofs.Common.{◌≡◌, drop}
use Rattle.cw_plugin.specs.Parts.{with_fields}
use Rattle.cw_plugin.proofs.task.with_fields.Given as goal

abbrev pub invariant-loop-field : goal.invariant-loop-field
invariant-loop-field l = with_fields l.connector l.props l.made (drop l.field-index l.fields) ≡ with_fields l.connector l.props l.fn.spec l.fields
