use Rattle.std.proofs.lemmas.Result.{err_from_is_err_and}
use Rattle.cw_types.specs.declared.logs.LogName.TheVariants.{Txn}
use Rattle.cw_model.specs.EventsLeading.{claim_lead}
use Rattle.cw_world.specs.Logs.{logs_of}
use Rattle.cw_world.proofs.Holding.{only-txn}
use Rattle.cw_world.proofs.Writing.{by-bytes, open-log, not-written, written}
use Rattle.cw_world.proofs.world.World.claim_lead.Goals as goal

pub write-requires-clause-ready : goal.write-requires-clause-ready
write-requires-clause-ready g c = let l = c.self.inside.logs in let logs = logs_of l.config l.offsets l.status l.txn l.batches in
    open-log g.D.Disk (claim_lead c.args.w) Txn c.self.inside.cluster c.ready_claim_lead.new.self logs c.body.result.now c.self.invariant (by-bytes Txn (claim_lead c.args.w) c.body.result.now _ c.self.inside.cluster c.ready_claim_lead.new.self c.body.ensures.bytes c.in_ok-frame.ensures.due)

pub invariant_of-self-in_err-write : goal.invariant_of-self-in_err-write
invariant_of-self-in_err-write g c = let l = c.self.inside.logs in let logs = logs_of l.config l.offsets l.status l.txn l.batches in
    (not-written g.D.Disk (claim_lead c.args.w) Txn c.self.inside.cluster c.ready_claim_lead.new.self c.write.new.cluster logs (record logs { txn = c.write.new.log }) c.body.result.now
    (only-txn logs c.write.new.log) c.self.invariant (by-bytes Txn (claim_lead c.args.w) c.body.result.now _ c.self.inside.cluster c.ready_claim_lead.new.self c.body.ensures.bytes c.in_ok-frame.ensures.due) c.in_err-write.field-0.0 c.in_err-write.ensures).1

pub returns-in_err-write : goal.returns-in_err-write
returns-in_err-write g c = let l = c.self.inside.logs in let logs = logs_of l.config l.offsets l.status l.txn l.batches in
    let p = err_from_is_err_and c.from_residual-in_err-write.result c.from_residual-in_err-write.ensures.1 in
    rw (← c.self.view_is, p.1, p.2) ((not-written g.D.Disk (claim_lead c.args.w) Txn c.self.inside.cluster c.ready_claim_lead.new.self c.write.new.cluster logs (record logs { txn = c.write.new.log }) c.body.result.now
    (only-txn logs c.write.new.log) c.self.invariant (by-bytes Txn (claim_lead c.args.w) c.body.result.now _ c.self.inside.cluster c.ready_claim_lead.new.self c.body.ensures.bytes c.in_ok-frame.ensures.due) c.in_err-write.field-0.0 c.in_err-write.ensures).0 _)

pub invariant_of-self-2 : goal.invariant_of-self-2
invariant_of-self-2 g c = let l = c.self.inside.logs in let logs = logs_of l.config l.offsets l.status l.txn l.batches in
    (written g.D.Disk (claim_lead c.args.w) Txn c.self.inside.cluster c.ready_claim_lead.new.self c.write.new.cluster logs (record logs { txn = c.write.new.log }) c.body.result.now
    (only-txn logs c.write.new.log) c.self.invariant (by-bytes Txn (claim_lead c.args.w) c.body.result.now _ c.self.inside.cluster c.ready_claim_lead.new.self c.body.ensures.bytes c.in_ok-frame.ensures.due)
    c.put_claim_lead.new.self c.put_claim_lead.result (c.lead_keeps_facts.ensures.claim_lead c.self.inside.cluster.setting c.self.inside.cluster.state c.args.w) c.in_ok-write.ensures c.put_claim_lead.ensures).1

pub returns : goal.returns
returns g c = let l = c.self.inside.logs in let logs = logs_of l.config l.offsets l.status l.txn l.batches in
    rw (← c.self.view_is) ((written g.D.Disk (claim_lead c.args.w) Txn c.self.inside.cluster c.ready_claim_lead.new.self c.write.new.cluster logs (record logs { txn = c.write.new.log }) c.body.result.now
    (only-txn logs c.write.new.log) c.self.invariant (by-bytes Txn (claim_lead c.args.w) c.body.result.now _ c.self.inside.cluster c.ready_claim_lead.new.self c.body.ensures.bytes c.in_ok-frame.ensures.due)
    c.put_claim_lead.new.self c.put_claim_lead.result (c.lead_keeps_facts.ensures.claim_lead c.self.inside.cluster.setting c.self.inside.cluster.state c.args.w) c.in_ok-write.ensures c.put_claim_lead.ensures).0 _)
