use Rattle.std.proofs.Common.{◌≡◌, ◌∙◌, Option, Some, sym, ap, unwrap_or}
use Rattle.cw_types.specs.declared.logs.LogName.{LogName}
use Rattle.cw_types.specs.declared.logs.LogName.TheVariants.{Batches}
use Rattle.cw_laws.proofs.Ticks.{mark-parts}
use Rattle.cw_model.specs.EventsMarking.{mark}
use Rattle.cw_model.specs.TickRules.{mark_applies}
use Rattle.cw_herder.specs.declared.op.OpDone.TheVariants as done
use Rattle.cw_herder.specs.Operations.{log_to_mark, marks, done_as}
use Rattle.cw_herder.proofs.Done.{done-op, failed-op}
use Rattle.cw_herder.proofs.operations.mark.Goals as goal

pub mark-requires : goal.mark-requires
mark-requires g c =
    let s = c.args.world.now.state in
    mark-parts c.args.w c.in-Some.log s (sym (c.mark_applies.ensures ∙ ap (mark_applies c.args.w) c.cluster.ensures.state) ∙ c.in-Some.is)

pub returns-in-Ok : goal.returns-in-Ok
returns-in-Ok g c =
    let s = c.args.world.now.state in
    let log = c.in-Some.log in
    let found : mark_applies c.args.w s ≡ Some log =
    sym (c.mark_applies.ensures ∙ ap (mark_applies c.args.w) c.cluster.ensures.state) ∙ c.in-Some.is in
    let same : log_to_mark c.args.w s ≡ log = ap (λ (o : Option LogName). unwrap_or o Batches) found in
    done-op g.D.Disk (mark log) (λ did. done.Marked log did.0 did.1) (marks c.args.w) c.args.world.now c.mark.new.self c.mark.result
    (ap (λ (l : LogName). done_as (mark l s) (λ did. done.Marked l did.0 did.1)) same) log c.mark.ensures (c.in-Ok.tag, c.in-Ok.committed) c.in-Ok.is

pub returns-in-Err : goal.returns-in-Err
returns-in-Err g c =
    let s = c.args.world.now.state in
    let log = c.in-Some.log in
    let found : mark_applies c.args.w s ≡ Some log =
    sym (c.mark_applies.ensures ∙ ap (mark_applies c.args.w) c.cluster.ensures.state) ∙ c.in-Some.is in
    let same : log_to_mark c.args.w s ≡ log = ap (λ (o : Option LogName). unwrap_or o Batches) found in
    failed-op g.D.Disk (mark log) (λ did. done.Marked log did.0 did.1) (marks c.args.w) c.args.world.now c.mark.new.self c.mark.result
    (ap (λ (l : LogName). done_as (mark l s) (λ did. done.Marked l did.0 did.1)) same) log c.mark.ensures c.in-Err.fault c.in-Err.is
