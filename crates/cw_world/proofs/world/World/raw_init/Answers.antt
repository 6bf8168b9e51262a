use Rattle.std.proofs.lemmas.Result.{err_from_is_err_and}
use Rattle.cw_types.specs.declared.logs.LogName.TheVariants.{Txn}
use Rattle.cw_model.specs.EventsRaw.{raw_init}
use Rattle.cw_world.specs.Logs.{logs_of}
use Rattle.cw_world.proofs.Holding.{only-txn}
use Rattle.cw_world.proofs.Writing.{by-bytes, open-log, not-written, written}
use Rattle.cw_world.proofs.world.World.raw_init.Goals as goal

pub write-requires-clause-ready : goal.write-requires-clause-ready
write-requires-clause-ready g c = let l = c.self.inside.logs in let logs = logs_of l.config l.offsets l.status l.txn l.batches in
    open-log g.D.Disk (raw_init c.args.n) Txn c.self.inside.cluster c.ready_raw_init.new.self logs c.body.result.now c.self.invariant (by-bytes Txn (raw_init c.args.n) c.body.result.now _ c.self.inside.cluster c.ready_raw_init.new.self c.body.ensures.bytes c.in_ok-frame.ensures.due)

pub invariant_of-self-in_err-write : goal.invariant_of-self-in_err-write
invariant_of-self-in_err-write g c = let l = c.self.inside.logs in let logs = logs_of l.config l.offsets l.status l.txn l.batches in
    (not-written g.D.Disk (raw_init c.args.n) Txn c.self.inside.cluster c.ready_raw_init.new.self c.write.new.cluster logs (record logs { txn = c.write.new.log }) c.body.result.now
    (only-txn logs c.write.new.log) c.self.invariant (by-bytes Txn (raw_init c.args.n) c.body.result.now _ c.self.inside.cluster c.ready_raw_init.new.self c.body.ensures.bytes c.in_ok-frame.ensures.due) c.in_err-write.field-0.0 c.in_err-write.ensures).1

pub returns-in_err-write : goal.returns-in_err-write
returns-in_err-write g c = let l = c.self.inside.logs in let logs = logs_of l.config l.offsets l.status l.txn l.batches in
    let p = err_from_is_err_and c.from_residual-in_err-write.result c.from_residual-in_err-write.ensures.1 in
    rw (← c.self.view_is, p.1, p.2) ((not-written g.D.Disk (raw_init c.args.n) Txn c.self.inside.cluster c.ready_raw_init.new.self c.write.new.cluster logs (record logs { txn = c.write.new.log }) c.body.result.now
    (only-txn logs c.write.new.log) c.self.invariant (by-bytes Txn (raw_init c.args.n) c.body.result.now _ c.self.inside.cluster c.ready_raw_init.new.self c.body.ensures.bytes c.in_ok-frame.ensures.due) c.in_err-write.field-0.0 c.in_err-write.ensures).0 _)

pub invariant_of-self-2 : goal.invariant_of-self-2
invariant_of-self-2 g c = let l = c.self.inside.logs in let logs = logs_of l.config l.offsets l.status l.txn l.batches in
    (written g.D.Disk (raw_init c.args.n) Txn c.self.inside.cluster c.ready_raw_init.new.self c.write.new.cluster logs (record logs { txn = c.write.new.log }) c.body.result.now
    (only-txn logs c.write.new.log) c.self.invariant (by-bytes Txn (raw_init c.args.n) c.body.result.now _ c.self.inside.cluster c.ready_raw_init.new.self c.body.ensures.bytes c.in_ok-frame.ensures.due)
    c.put_raw_init.new.self c.put_raw_init.result (c.script_producers_keep_facts.ensures.raw_init c.self.inside.cluster.setting c.self.inside.cluster.state c.args.n c.ranges.n.fits) c.in_ok-write.ensures c.put_raw_init.ensures).1

pub returns : goal.returns
returns g c = let l = c.self.inside.logs in let logs = logs_of l.config l.offsets l.status l.txn l.batches in
    rw (← c.self.view_is) ((written g.D.Disk (raw_init c.args.n) Txn c.self.inside.cluster c.ready_raw_init.new.self c.write.new.cluster logs (record logs { txn = c.write.new.log }) c.body.result.now
    (only-txn logs c.write.new.log) c.self.invariant (by-bytes Txn (raw_init c.args.n) c.body.result.now _ c.self.inside.cluster c.ready_raw_init.new.self c.body.ensures.bytes c.in_ok-frame.ensures.due)
    c.put_raw_init.new.self c.put_raw_init.result (c.script_producers_keep_facts.ensures.raw_init c.self.inside.cluster.setting c.self.inside.cluster.state c.args.n c.ranges.n.fits) c.in_ok-write.ensures c.put_raw_init.ensures).0 _)
