use Rattle.std.proofs.Common.{sym, ap, ◌∙◌}
use Rattle.std.proofs.lemmas.List.{get_or_default}
use Rattle.std.proofs.lemmas.Bool.Decides.{same_from_decides}
use Rattle.cw_assign.specs.Items.{same_item}
use Rattle.cw_assign.proofs.ItemLemmas.{same_item-Decides}
use Rattle.cw_model.specs.declared.instance.Instance.{Instance}
use Rattle.cw_model.specs.Lookups.{no_instance}
use Rattle.cw_rows.specs.Statuses.{reporting}
use Rattle.cw_rows.proofs.Restarts.{change_none, change_some}
use Rattle.cw_rows.proofs.running.report_if.Goals as goal

pub returns-then-is_of : goal.returns-then-is_of
returns-then-is_of c =
    let looked = c.index.ensures ∙ get_or_default c.args.instances.now.items c.args.at c.index.result.now no_instance c.requires in
    change_some (λ i. same_item i.item c.args.item.now) (reporting c.args.state) no_instance c.args.instances.now.items c.args.at c.index_mut.result.now
    (c.index_mut.ensures.value ∙ get_or_default c.args.instances.now.items c.args.at c.index_mut.result.now no_instance c.requires)
    (ap (λ (i : Instance). same_item i.item c.args.item.now) (sym looked) ∙ sym (same_from_decides c.is_of.result (same_item c.index.result.now.item c.args.item.now) c.is_of.ensures (same_item-Decides c.index.result.now.item c.args.item.now)) ∙ c.if-is_of.true)

pub returns-else-is_of : goal.returns-else-is_of
returns-else-is_of c =
    let looked = c.index.ensures ∙ get_or_default c.args.instances.now.items c.args.at c.index.result.now no_instance c.requires in
    change_none (λ i. same_item i.item c.args.item.now) (reporting c.args.state) no_instance c.args.instances.now.items c.args.at
    (ap (λ (i : Instance). same_item i.item c.args.item.now) (sym looked) ∙ sym (same_from_decides c.is_of.result (same_item c.index.result.now.item c.args.item.now) c.is_of.ensures (same_item-Decides c.index.result.now.item c.args.item.now)) ∙ c.if-is_of.false)
