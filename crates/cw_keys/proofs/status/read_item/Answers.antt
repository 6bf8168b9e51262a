use Rattle.std.proofs.Common.{option_map, sym, ap, ◌∙◌}
use Rattle.cw_types.specs.declared.ids.Item.TheVariants.{Task}
use Rattle.cw_keys.specs.Names.{task_of}
use Rattle.cw_keys.proofs.Choice.{taken, passed, behind, if_ok}
use Rattle.cw_keys.proofs.status.read_item.Goals as goal

pub returns-then-starts_with-2 : goal.returns-then-starts_with-2
returns-then-starts_with-2 c =
    if_ok c.task_item.result _ _ (λ item is. passed _ _ _ item (sym c.starts_with.ensures.value ∙ c.if-starts_with.false)
    (taken _ _ _ item (sym c.starts_with-else-starts_with.ensures.value ∙ c.if-starts_with-2.true) (is ∙ ap (λ xs. option_map Task (task_of xs)) (behind 12 c.args.bytes.now))))
    c.task_item.ensures
