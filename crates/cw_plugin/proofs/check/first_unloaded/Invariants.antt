use Rattle.std.proofs.Common.{◌≡◌, drop}
use Rattle.cw_plugin.specs.Checks.{first_failing, is_name}
use Rattle.cw_plugin.specs.Loaded.{is_loaded_by}
use Rattle.cw_plugin.proofs.check.first_unloaded.Given as goal

abbrev pub invariant-loop-text : goal.invariant-loop-text
invariant-loop-text l = record {
  first : first_failing (is_loaded_by l.feeds) (drop l.text-index l.texts) ≡ first_failing (is_loaded_by l.feeds) l.texts;
  named : first_failing is_name (drop l.text-index l.texts) ≡ first_failing is_name l.texts;
}
