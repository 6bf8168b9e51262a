use Rattle.std.proofs.Common.{Bor, sym, ap, subst, ◌∙◌}
use Rattle.std.specs.Prelude.{option_copied, Option}
use Rattle.cw_model.specs.EventsReports.{MayReport, is_item_at}
use Rattle.cw_model.specs.declared.instance.Instance.{Instance}
use Rattle.cw_rows.specs.Kept.{Kept}
use Rattle.cw_rows.proofs.RunningLemmas.{finds-any}
use Rattle.cw_rows.proofs.cluster.Cluster.status_to_report.Goals as goal

pub unreachable-requires : goal.unreachable-requires
unreachable-requires c = finds-any (is_item_at c.args.w c.args.item.now) c.self.inside.crew.instances
    (subst (λ (k : Kept). MayReport c.args.w c.args.item.now k.state) (sym c.self.view_is) c.requires.may)
    (sym c.running.ensures ∙ ap (λ (r : Option (Bor Instance)). option_copied r) c.in_default.is)
