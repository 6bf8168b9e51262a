-- A report, as the turn of its rule.
use Rattle.std.proofs.Common.{◌≡◌, ℕ, [], Option, Some, ap, option_map}
use Rattle.std.specs.Option.{is_some}
use Rattle.cw_model.specs.declared.instance.Instance.{Instance}
use Rattle.cw_model.specs.EventsReports.{state_of}
use Rattle.cw_model.specs.Lookups.{seen}
use Rattle.cw_model.specs.State.{Cluster}
use Rattle.cw_model.specs.Tick.{first_rule}
use Rattle.cw_model.specs.TickRules.{report_applies, reports_state}
use Rattle.cw_ticks.specs.declared.turn.Turn.TheVariants as turn
use Rattle.cw_ticks.specs.Stages.{reporting_rules, IsStage}
use Rattle.cw_ticks.proofs.Stages.{finds}

module _ (w : ℕ) (s : Cluster) (i : Instance) where
  pub report-stage : report_applies w s ≡ Some i →
      IsStage (Some (turn.Report i.item (state_of (seen w s) i))) (first_rule (reporting_rules w s)) w s
  report-stage is =
      let rule : first_rule (reporting_rules w s) ≡ Some (λ _. reports_state w s i) =
      finds (report_applies w s) (reports_state w s) [] i is in
      (ap is_some rule, record { follows = rule; told = tt; may = ap (option_map (λ x. x.item)) is })
