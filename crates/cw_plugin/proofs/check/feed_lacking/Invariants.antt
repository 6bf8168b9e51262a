use Rattle.std.proofs.Common.{◌≡◌, drop}
use Rattle.cw_plugin.specs.Checks.{feed_lacking, is_name}
use Rattle.cw_plugin.specs.Loaded.{is_loaded_by}
use Rattle.cw_plugin.proofs.check.feed_lacking.Given as goal

abbrev pub invariant-loop-field : goal.invariant-loop-field
invariant-loop-field l = record {
  first : feed_lacking (is_loaded_by l.feeds) l.props (drop l.field-index l.fields) ≡ feed_lacking (is_loaded_by l.feeds) l.props l.fields;
  named : feed_lacking is_name l.props (drop l.field-index l.fields) ≡ feed_lacking is_name l.props l.fields;
}
