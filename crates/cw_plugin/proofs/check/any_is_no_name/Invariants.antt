use Rattle.std.proofs.Common.{◌≡◌, drop, not}
use Rattle.std.specs.List.{list_any}
use Rattle.cw_plugin.specs.Checks.{is_name}
use Rattle.cw_plugin.proofs.check.any_is_no_name.Given as goal

abbrev pub invariant-loop-text : goal.invariant-loop-text
invariant-loop-text l = list_any (λ e. not (is_name e)) (drop l.text-index l.texts) ≡ list_any (λ e. not (is_name e)) l.texts
