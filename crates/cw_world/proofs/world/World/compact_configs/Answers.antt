use Rattle.std.proofs.Common.{◌+◌, ◌<◌, ◌^◌, ℕ, List, sym, ap, subst, ◌∙◌, arith}
use Rattle.std.proofs.lemmas.Result.{err_from_is_err_and}
use Rattle.cw_types.specs.declared.logs.LogName.TheVariants.{Config}
use Rattle.cw_log.specs.Log.{length_of}
use Rattle.cw_model.specs.EventsCompaction.{compact}
use Rattle.cw_model.proofs.Shorter.{configs-shorter}
use Rattle.cw_world.specs.Logs.{logs_of}
use Rattle.cw_world.proofs.Turning.{carried, refused-by, configs-not, configs-done}
use Rattle.cw_world.proofs.Writing.{refuses}
use Rattle.cw_world.proofs.world.World.compact_configs.Goals as goal

pub rewrite-requires-clause-bodies : goal.rewrite-requires-clause-bodies
rewrite-requires-clause-bodies g c = carried _ c.in_ok-left.ensures.left.fit

pub rewrite-requires-clause-fits : goal.rewrite-requires-clause-fits
rewrite-requires-clause-fits g c = subst (λ (l : List (List ℕ)). length_of l < 2 ^ 64) (sym c.in_ok-left.ensures.left.bodies_are)
    (omega (arith, configs-shorter c.self.inside.cluster.state.config.frames, c.self.invariant.facts.logs.disks.config))

pub rewrite-requires-clause-ready : goal.rewrite-requires-clause-ready
rewrite-requires-clause-ready g c = (c.self.invariant.holds c.in_ok-left.ensures.due.alive Config).ready

pub invariant_of-self : goal.invariant_of-self
invariant_of-self g c = let l = c.self.inside.logs in let logs = logs_of l.config l.offsets l.status l.txn l.batches in
    (configs-not g.D.Disk c.self.inside.cluster c.rewrite.new.cluster logs c.rewrite.new.log _ c.self.invariant c.in_ok-left.ensures.due c.in_ok-left.ensures.left.bodies_are
    c.in_err-side.field-0.0 c.in_err-side.ensures).1

pub returns-in_err-side : goal.returns-in_err-side
returns-in_err-side g c = let l = c.self.inside.logs in let logs = logs_of l.config l.offsets l.status l.txn l.batches in
    let p = err_from_is_err_and c.from_residual-in_err-side.result c.from_residual-in_err-side.ensures.1 in
    rw (← c.self.view_is, p.1, p.2) ((configs-not g.D.Disk c.self.inside.cluster c.rewrite.new.cluster logs c.rewrite.new.log _ c.self.invariant c.in_ok-left.ensures.due c.in_ok-left.ensures.left.bodies_are
    c.in_err-side.field-0.0 c.in_err-side.ensures).0 _)

pub invariant_of-self-2 : goal.invariant_of-self-2
invariant_of-self-2 g c = let l = c.self.inside.logs in let logs = logs_of l.config l.offsets l.status l.txn l.batches in
    (configs-done g.D.Disk c.self.inside.cluster c.rewrite.new.cluster logs c.rewrite.new.log _ c.self.invariant c.in_ok-left.ensures.due c.in_ok-left.ensures.left.bodies_are
    c.put_left_configs.new.self c.put_left_configs.result c.in_ok-side.side (c.logs_keep_facts.ensures.compact c.self.inside.cluster.setting c.self.inside.cluster.state Config) c.in_ok-side.ensures c.put_left_configs.ensures).1

pub returns : goal.returns
returns g c = let l = c.self.inside.logs in let logs = logs_of l.config l.offsets l.status l.txn l.batches in
    rw (← c.self.view_is) ((configs-done g.D.Disk c.self.inside.cluster c.rewrite.new.cluster logs c.rewrite.new.log _ c.self.invariant c.in_ok-left.ensures.due c.in_ok-left.ensures.left.bodies_are
    c.put_left_configs.new.self c.put_left_configs.result c.in_ok-side.side (c.logs_keep_facts.ensures.compact c.self.inside.cluster.setting c.self.inside.cluster.state Config) c.in_ok-side.ensures c.put_left_configs.ensures).0 _)

pub returns-in_err-left : goal.returns-in_err-left
returns-in_err-left g c = let l = c.self.inside.logs in let logs = logs_of l.config l.offsets l.status l.txn l.batches in
    let p = err_from_is_err_and c.from_residual.result c.from_residual.ensures.1 in
    rw (← c.self.view_is, p.1, p.2) ((refuses g.D.Disk (compact Config) Config c.self.inside.cluster c.self.inside.cluster logs c.in_err-left.field-0.0
    (c.logs_keep_facts.ensures.compact c.self.inside.cluster.setting c.self.inside.cluster.state Config) c.self.invariant
    (refused-by (compact Config) c.in_err-left.field-0.0 c.self.inside.cluster c.in_err-left.ensures.refused)).0 _)

pub put_left_configs-requires-clause-left : goal.put_left_configs-requires-clause-left
put_left_configs-requires-clause-left g c = rw (c.in_ok-side.ensures.answer.kept) c.in_ok-left.ensures.left

pub put_left_configs-requires-clause-side : goal.put_left_configs-requires-clause-side
put_left_configs-requires-clause-side g c = rw (c.in_ok-side.ensures.answer.kept) (c.in_ok-side.ensures.answer.side_is ∙ ap (λ (n : ℕ). n + 1) (c.self.invariant.sides c.in_ok-left.ensures.due.alive).config)

pub put_left_configs-requires-clause-alive : goal.put_left_configs-requires-clause-alive
put_left_configs-requires-clause-alive g c = rw (c.in_ok-side.ensures.answer.kept) c.in_ok-left.ensures.due.alive

pub left_configs-requires-clause-facts : goal.left_configs-requires-clause-facts
left_configs-requires-clause-facts g c = c.self.invariant.facts

pub left_configs-requires-clause-side : goal.left_configs-requires-clause-side
left_configs-requires-clause-side g c = λ alive. (c.self.invariant.sides alive).config

pub left_configs-requires-clause-size : goal.left_configs-requires-clause-size
left_configs-requires-clause-size g c = λ alive. (c.self.invariant.holds alive Config).ready.bytes_are
