use Rattle.std.proofs.Common.{◌≡◌, ℕ, Vec, length, get_or, ap, arith}
use Rattle.std.specs.declared.alloc.Global.{Global}
use Rattle.cw_log.proofs.Replaced.{next_fits}
use Rattle.cw_log.proofs.compact.total_of.Goals as goal

pub overflow_add-total-in-loop-body : goal.overflow_add-total-in-loop-body
overflow_add-total-in-loop-body c =
    let e : get_or c.args.bodies.now c.loop-body.body-index c.body-item.result ≡ c.body-item.result = cc in
    omega (arith, next_fits c.args.bodies.now c.loop-body.body-index c.body-item.result c.loop-body-test.true, ap (λ (v : Vec ℕ Global). length v.items) e)
