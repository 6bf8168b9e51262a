use Rattle.std.proofs.Common.{ℕ, ◌<◌, List, length, Option, sym, ap, subst, ◌∙◌}
use Rattle.std.specs.List.{find, AllByRecursion}
use Rattle.std.specs.Option.{option_map}
use Rattle.cw_config.specs.declared.records.ConfigRecord.{ConfigRecord}
use Rattle.cw_model.specs.Lookups.{is_at, instance_of, seen, no_instance}
use Rattle.cw_rows.specs.Crew.{numbers_at}
use Rattle.cw_rows.proofs.CrewLemmas.{numbers-within}
use Rattle.cw_ticks.specs.Running.{to_report}
use Rattle.cw_ticks.proofs.Lists.{finds-second}
use Rattle.cw_ticks.proofs.reporting.report_applies.Goals as goal

pub first_to_report-requires : goal.first_to_report-requires
first_to_report-requires c =
    let s = c.args.cluster.now.state in
    subst (λ (ns : List ℕ). AllByRecursion (λ n. n < length s.instances) ns) (sym c.numbers_of.ensures) (numbers-within c.args.w s.instances)

pub returns-clause-first : goal.returns-clause-first
returns-clause-first c =
    let s = c.args.cluster.now.state in
    ap (λ (o : Option ℕ). option_map (λ n. instance_of n s) o)
    (c.first_to_report.ensures.first ∙
    ap (λ (ns : List ℕ). find (λ n. to_report c.config_of.result.now (instance_of n s)) ns) c.numbers_of.ensures ∙
    ap (λ (r : List ConfigRecord). find (λ n. to_report r (instance_of n s)) (numbers_at c.args.w s.instances)) c.config_of.ensures) ∙
    finds-second (is_at c.args.w) (to_report (seen c.args.w s)) no_instance s.instances
