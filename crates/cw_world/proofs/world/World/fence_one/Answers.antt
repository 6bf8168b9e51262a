use Rattle.std.proofs.Common.{sym, subst}
use Rattle.std.proofs.lemmas.Result.{err_from_is_err_and}
use Rattle.cw_types.specs.declared.logs.LogName.TheVariants.{Txn}
use Rattle.cw_model.specs.EventsLeading.{fence_one, MayFence}
use Rattle.cw_world.specs.Logs.{logs_of}
use Rattle.cw_world.specs.World.{WorldState}
use Rattle.cw_world.proofs.Holding.{only-txn}
use Rattle.cw_world.proofs.Writing.{by-bytes, open-log, refuses, not-written, written}
use Rattle.cw_world.proofs.world.World.fence_one.Goals as goal

pub write-requires-clause-ready : goal.write-requires-clause-ready
write-requires-clause-ready g c = let l = c.self.inside.logs in let logs = logs_of l.config l.offsets l.status l.txn l.batches in
    open-log g.D.Disk (fence_one c.args.w c.args.name.now) Txn c.self.inside.cluster c.ready_fence_one.new.self logs c.body.result.now c.self.invariant (by-bytes Txn (fence_one c.args.w c.args.name.now) c.body.result.now _ c.self.inside.cluster c.ready_fence_one.new.self c.body.ensures.bytes c.in_ok-frame.ensures.due)

pub invariant_of-self-in_err-write : goal.invariant_of-self-in_err-write
invariant_of-self-in_err-write g c = let l = c.self.inside.logs in let logs = logs_of l.config l.offsets l.status l.txn l.batches in
    (not-written g.D.Disk (fence_one c.args.w c.args.name.now) Txn c.self.inside.cluster c.ready_fence_one.new.self c.write.new.cluster logs (record logs { txn = c.write.new.log }) c.body.result.now
    (only-txn logs c.write.new.log) c.self.invariant (by-bytes Txn (fence_one c.args.w c.args.name.now) c.body.result.now _ c.self.inside.cluster c.ready_fence_one.new.self c.body.ensures.bytes c.in_ok-frame.ensures.due) c.in_err-write.field-0.0 c.in_err-write.ensures).1

pub returns-in_err-write : goal.returns-in_err-write
returns-in_err-write g c = let l = c.self.inside.logs in let logs = logs_of l.config l.offsets l.status l.txn l.batches in
    let p = err_from_is_err_and c.from_residual-in_err-write.result c.from_residual-in_err-write.ensures.1 in
    rw (← c.self.view_is, p.1, p.2) ((not-written g.D.Disk (fence_one c.args.w c.args.name.now) Txn c.self.inside.cluster c.ready_fence_one.new.self c.write.new.cluster logs (record logs { txn = c.write.new.log }) c.body.result.now
    (only-txn logs c.write.new.log) c.self.invariant (by-bytes Txn (fence_one c.args.w c.args.name.now) c.body.result.now _ c.self.inside.cluster c.ready_fence_one.new.self c.body.ensures.bytes c.in_ok-frame.ensures.due) c.in_err-write.field-0.0 c.in_err-write.ensures).0 _)

pub invariant_of-self-2 : goal.invariant_of-self-2
invariant_of-self-2 g c = let l = c.self.inside.logs in let logs = logs_of l.config l.offsets l.status l.txn l.batches in
    (written g.D.Disk (fence_one c.args.w c.args.name.now) Txn c.self.inside.cluster c.ready_fence_one.new.self c.write.new.cluster logs (record logs { txn = c.write.new.log }) c.body.result.now
    (only-txn logs c.write.new.log) c.self.invariant (by-bytes Txn (fence_one c.args.w c.args.name.now) c.body.result.now _ c.self.inside.cluster c.ready_fence_one.new.self c.body.ensures.bytes c.in_ok-frame.ensures.due)
    c.put_fence_one.new.self c.put_fence_one.result (c.lead_keeps_facts.ensures.fence_one c.self.inside.cluster.setting c.self.inside.cluster.state c.args.w c.args.name.now (subst (λ (v : WorldState g.row.D.Denot). MayFence c.args.w c.args.name.now v.state) (sym c.self.view_is) c.requires.may)) c.in_ok-write.ensures c.put_fence_one.ensures).1

pub returns : goal.returns
returns g c = let l = c.self.inside.logs in let logs = logs_of l.config l.offsets l.status l.txn l.batches in
    rw (← c.self.view_is) ((written g.D.Disk (fence_one c.args.w c.args.name.now) Txn c.self.inside.cluster c.ready_fence_one.new.self c.write.new.cluster logs (record logs { txn = c.write.new.log }) c.body.result.now
    (only-txn logs c.write.new.log) c.self.invariant (by-bytes Txn (fence_one c.args.w c.args.name.now) c.body.result.now _ c.self.inside.cluster c.ready_fence_one.new.self c.body.ensures.bytes c.in_ok-frame.ensures.due)
    c.put_fence_one.new.self c.put_fence_one.result (c.lead_keeps_facts.ensures.fence_one c.self.inside.cluster.setting c.self.inside.cluster.state c.args.w c.args.name.now (subst (λ (v : WorldState g.row.D.Denot). MayFence c.args.w c.args.name.now v.state) (sym c.self.view_is) c.requires.may)) c.in_ok-write.ensures c.put_fence_one.ensures).0 _)

pub returns-in_err-frame : goal.returns-in_err-frame
returns-in_err-frame g c = let l = c.self.inside.logs in let logs = logs_of l.config l.offsets l.status l.txn l.batches in
    let p = err_from_is_err_and c.from_residual.result c.from_residual.ensures.1 in
    rw (← c.self.view_is, p.1, p.2) ((refuses g.D.Disk (fence_one c.args.w c.args.name.now) Txn c.self.inside.cluster c.ready_fence_one.new.self logs c.in_err-frame.field-0.0
    (c.lead_keeps_facts.ensures.fence_one c.self.inside.cluster.setting c.self.inside.cluster.state c.args.w c.args.name.now (subst (λ (v : WorldState g.row.D.Denot). MayFence c.args.w c.args.name.now v.state) (sym c.self.view_is) c.requires.may)) c.self.invariant c.in_err-frame.ensures.due).0 _)
