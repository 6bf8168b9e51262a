use Rattle.std.proofs.Common.{ℕ, subst}
use Rattle.cw_route.specs.declared.call.Call.{Call}
use Rattle.cw_edges.specs.Requests.{call_of}
use Rattle.cw_herder.specs.Submits.{Submits}
use Rattle.cw_cluster.proofs.Requested.{not-read}
use Rattle.cw_cluster.proofs.requests.ask.Goals as goal

pub returns : goal.returns
returns g c =
    subst (λ (n : ℕ). Submits g.D.Disk n (call_of c.args.method.now c.args.target.now c.args.body.now) c.args.world.now c.submit.new.world c.submit.result) c.number_of-number.ensures
    (subst (λ (call : Call). Submits g.D.Disk c.number_of-number.result call c.args.world.now c.submit.new.world c.submit.result) c.in-Ok.ensures c.submit.ensures)

pub returns-in_default : goal.returns-in_default
returns-in_default g c = not-read g.D.Disk c.args.worker (call_of c.args.method.now c.args.target.now c.args.body.now) c.args.world.now
