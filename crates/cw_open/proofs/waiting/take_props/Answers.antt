use Rattle.std.proofs.Common.{true, List, sym, subst, ◌∙◌}
use Rattle.cw_types.specs.declared.ids.PartKey.{PartKey}
use Rattle.cw_open.specs.WaitingTasks.{TakesParts}
use Rattle.cw_open.proofs.OwnerLemmas.{parts_some, parts_none, no_parts}
use Rattle.cw_open.proofs.waiting.take_props.Goals as goal

pub returns-in_ok-taken-in-Some : goal.returns-in_ok-taken-in-Some
returns-in_ok-taken-in-Some c =
    subst (λ (l : List PartKey). TakesParts l c.args.id.now.index c.args.owners.now c.take_parts.new.owners c.in_ok-taken-in-Some.taken)
    (c.as_slice.ensures ∙ sym (parts_some c.args.id.now.connector c.args.props.now c.in-Some.task (sym c.in_ok-task.ensures ∙ c.in-Some.is)))
    c.in_ok-taken-in-Some.ensures

pub returns-in-None : goal.returns-in-None
returns-in-None c =
    subst (λ (l : List PartKey). TakesParts l c.args.id.now.index c.args.owners.now c.args.owners.now true)
    (sym (parts_none c.args.id.now.connector c.args.props.now (sym c.in_ok-task.ensures ∙ c.in-None.is)))
    (no_parts c.args.id.now.index c.args.owners.now)
