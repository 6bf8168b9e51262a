use Rattle.std.proofs.Common.{◌<◌, Some, length, get_or, sym, ap, ◌∙◌}
use Rattle.std.proofs.lemmas.List.{get_or_default}
use Rattle.std.proofs.lemmas.Bool.Decides.{same_from_decides}
use Rattle.cw_assign.specs.Items.{same_item}
use Rattle.cw_assign.proofs.ItemLemmas.{same_item-Decides}
use Rattle.cw_model.specs.declared.instance.Instance.{Instance}
use Rattle.cw_model.specs.Lookups.{no_instance}
use Rattle.cw_rows.proofs.Lists.{each-at}
use Rattle.cw_rows.proofs.RunningLemmas.{first-next, first-here, not-here}
use Rattle.cw_rows.proofs.running.first_of.Goals as goal

pub returns-then-is_of : goal.returns-then-is_of
returns-then-is_of c =
    let item = c.args.item.now in
    let instances = c.args.instances.now in
    let number = get_or c.args.numbers.now c.loop-number.number-index 0 in
    let found = c.index-instances-number.result in
    let within = each-at (λ n. n < length instances) c.args.numbers.now c.loop-number.number-index 0 c.loop-number-test.true c.requires in
    let read = c.index-instances-number.is ∙ get_or_default instances number found no_instance within in
    let is = ap (λ (i : Instance). same_item i.item item) (sym read) ∙
    sym (same_from_decides c.is_of.result (same_item found.item item) c.is_of.ensures (same_item-Decides found.item item)) ∙ c.if-is_of.true in
    sym (c.loop-number.invariant ∙ first-next item instances c.args.numbers.now c.loop-number.number-index 0 c.loop-number-test.true ∙
    first-here _ (get_or instances number no_instance) _ is ∙ ap (λ (i : Instance). Some i) (sym read))

pub loop-number-preserved : goal.loop-number-preserved
loop-number-preserved c =
    let item = c.args.item.now in
    let instances = c.args.instances.now in
    let number = get_or c.args.numbers.now c.loop-number.number-index 0 in
    let found = c.index-instances-number.result in
    let within = each-at (λ n. n < length instances) c.args.numbers.now c.loop-number.number-index 0 c.loop-number-test.true c.requires in
    let read = c.index-instances-number.is ∙ get_or_default instances number found no_instance within in
    let is = ap (λ (i : Instance). same_item i.item item) (sym read) ∙
    sym (same_from_decides c.is_of.result (same_item found.item item) c.is_of.ensures (same_item-Decides found.item item)) ∙ c.if-is_of.false in
    c.loop-number.invariant ∙ first-next item instances c.args.numbers.now c.loop-number.number-index 0 c.loop-number-test.true ∙
    not-here _ (get_or instances number no_instance) _ is
