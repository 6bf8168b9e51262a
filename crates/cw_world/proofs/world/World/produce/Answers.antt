use Rattle.std.proofs.Common.{◌<◌, ap, sym, subst, length, ◌∙◌}
use Rattle.std.proofs.lemmas.Result.{err_from_is_err_and}
use Rattle.cw_types.specs.declared.logs.LogName.TheVariants.{Batches}
use Rattle.cw_model.specs.EventsSources.{produce, MayProduce}
use Rattle.cw_model.specs.State.{Setting}
use Rattle.cw_rows.specs.Kept.{Kept}
use Rattle.cw_rows.specs.Writes.{Puts}
use Rattle.cw_world.proofs.Topics.{has-topic}
use Rattle.cw_world.specs.Logs.{logs_of}
use Rattle.cw_world.specs.World.{WorldState}
use Rattle.cw_world.proofs.Holding.{only-batches}
use Rattle.cw_world.proofs.Writing.{by-bytes, open-log, refuses, not-written, written}
use Rattle.cw_world.proofs.world.World.produce.Goals as goal

pub write-requires-clause-ready : goal.write-requires-clause-ready
write-requires-clause-ready g c = let l = c.self.inside.logs in let logs = logs_of l.config l.offsets l.status l.txn l.batches in
    open-log g.D.Disk (produce c.self.inside.cluster.setting c.args.i c.args.cut) Batches c.self.inside.cluster c.ready_produce.new.self logs c.body.result.now c.self.invariant (by-bytes Batches (produce c.self.inside.cluster.setting c.args.i c.args.cut) c.body.result.now _ c.self.inside.cluster c.ready_produce.new.self c.body.ensures.bytes c.in_ok-frame.ensures.due)

pub invariant_of-self-in_err-write : goal.invariant_of-self-in_err-write
invariant_of-self-in_err-write g c = let l = c.self.inside.logs in let logs = logs_of l.config l.offsets l.status l.txn l.batches in
    (not-written g.D.Disk (produce c.self.inside.cluster.setting c.args.i c.args.cut) Batches c.self.inside.cluster c.ready_produce.new.self c.write.new.cluster logs (record logs { batches = c.write.new.log }) c.body.result.now
    (only-batches logs c.write.new.log) c.self.invariant (by-bytes Batches (produce c.self.inside.cluster.setting c.args.i c.args.cut) c.body.result.now _ c.self.inside.cluster c.ready_produce.new.self c.body.ensures.bytes c.in_ok-frame.ensures.due) c.in_err-write.field-0.0 c.in_err-write.ensures).1

pub returns-in_err-write : goal.returns-in_err-write
returns-in_err-write g c = let l = c.self.inside.logs in let logs = logs_of l.config l.offsets l.status l.txn l.batches in
    let p = err_from_is_err_and c.from_residual-in_err-write.result c.from_residual-in_err-write.ensures.1 in
    rw (← c.self.view_is, p.1, p.2) ((not-written g.D.Disk (produce c.self.inside.cluster.setting c.args.i c.args.cut) Batches c.self.inside.cluster c.ready_produce.new.self c.write.new.cluster logs (record logs { batches = c.write.new.log }) c.body.result.now
    (only-batches logs c.write.new.log) c.self.invariant (by-bytes Batches (produce c.self.inside.cluster.setting c.args.i c.args.cut) c.body.result.now _ c.self.inside.cluster c.ready_produce.new.self c.body.ensures.bytes c.in_ok-frame.ensures.due) c.in_err-write.field-0.0 c.in_err-write.ensures).0 _)

pub invariant_of-self-2 : goal.invariant_of-self-2
invariant_of-self-2 g c = let l = c.self.inside.logs in let logs = logs_of l.config l.offsets l.status l.txn l.batches in
    (written g.D.Disk (produce c.self.inside.cluster.setting c.args.i c.args.cut) Batches c.self.inside.cluster c.ready_produce.new.self c.write.new.cluster logs (record logs { batches = c.write.new.log }) c.body.result.now
    (only-batches logs c.write.new.log) c.self.invariant (by-bytes Batches (produce c.self.inside.cluster.setting c.args.i c.args.cut) c.body.result.now _ c.self.inside.cluster c.ready_produce.new.self c.body.ensures.bytes c.in_ok-frame.ensures.due)
    c.put_produce.new.self tt (c.transactions_keep_facts.ensures.produce c.self.inside.cluster.setting c.self.inside.cluster.state c.args.i c.args.cut (subst (λ (v : WorldState g.row.D.Denot). MayProduce c.args.i c.args.cut v.state) (sym c.self.view_is) c.requires.may)) c.in_ok-write.ensures (subst (λ (setting : Setting). Puts (produce setting c.args.i c.args.cut) tt c.write.new.cluster c.put_produce.new.self) (ap (λ (k : Kept). k.setting) c.in_ok-write.ensures.answer.kept ∙ c.in_ok-frame.ensures.due.setting) c.put_produce.ensures)).1

pub returns : goal.returns
returns g c = let l = c.self.inside.logs in let logs = logs_of l.config l.offsets l.status l.txn l.batches in
    rw (← c.self.view_is) ((written g.D.Disk (produce c.self.inside.cluster.setting c.args.i c.args.cut) Batches c.self.inside.cluster c.ready_produce.new.self c.write.new.cluster logs (record logs { batches = c.write.new.log }) c.body.result.now
    (only-batches logs c.write.new.log) c.self.invariant (by-bytes Batches (produce c.self.inside.cluster.setting c.args.i c.args.cut) c.body.result.now _ c.self.inside.cluster c.ready_produce.new.self c.body.ensures.bytes c.in_ok-frame.ensures.due)
    c.put_produce.new.self tt (c.transactions_keep_facts.ensures.produce c.self.inside.cluster.setting c.self.inside.cluster.state c.args.i c.args.cut (subst (λ (v : WorldState g.row.D.Denot). MayProduce c.args.i c.args.cut v.state) (sym c.self.view_is) c.requires.may)) c.in_ok-write.ensures (subst (λ (setting : Setting). Puts (produce setting c.args.i c.args.cut) tt c.write.new.cluster c.put_produce.new.self) (ap (λ (k : Kept). k.setting) c.in_ok-write.ensures.answer.kept ∙ c.in_ok-frame.ensures.due.setting) c.put_produce.ensures)).0 _)

pub returns-in_err-frame : goal.returns-in_err-frame
returns-in_err-frame g c = let l = c.self.inside.logs in let logs = logs_of l.config l.offsets l.status l.txn l.batches in
    let p = err_from_is_err_and c.from_residual.result c.from_residual.ensures.1 in
    rw (← c.self.view_is, p.1, p.2) ((refuses g.D.Disk (produce c.self.inside.cluster.setting c.args.i c.args.cut) Batches c.self.inside.cluster c.ready_produce.new.self logs c.in_err-frame.field-0.0
    (c.transactions_keep_facts.ensures.produce c.self.inside.cluster.setting c.self.inside.cluster.state c.args.i c.args.cut (subst (λ (v : WorldState g.row.D.Denot). MayProduce c.args.i c.args.cut v.state) (sym c.self.view_is) c.requires.may)) c.self.invariant c.in_err-frame.ensures.due).0 _)

pub invariant_of-self : goal.invariant_of-self
invariant_of-self g c = let l = c.self.inside.logs in let logs = logs_of l.config l.offsets l.status l.txn l.batches in
    (refuses g.D.Disk (produce c.self.inside.cluster.setting c.args.i c.args.cut) Batches c.self.inside.cluster c.ready_produce.new.self logs c.in_err-frame.field-0.0
    (c.transactions_keep_facts.ensures.produce c.self.inside.cluster.setting c.self.inside.cluster.state c.args.i c.args.cut (subst (λ (v : WorldState g.row.D.Denot). MayProduce c.args.i c.args.cut v.state) (sym c.self.view_is) c.requires.may)) c.self.invariant c.in_err-frame.ensures.due).1

pub ready_produce-requires-clause-topic : goal.ready_produce-requires-clause-topic
ready_produce-requires-clause-topic g c = has-topic c.self.inside.cluster.setting c.self.inside.cluster.state c.args.i c.args.cut c.self.invariant.facts
    (subst (λ (v : WorldState g.row.D.Denot). c.args.i < length v.state.instances) (sym c.self.view_is) c.requires.there)
    (subst (λ (v : WorldState g.row.D.Denot). MayProduce c.args.i c.args.cut v.state) (sym c.self.view_is) c.requires.may)

pub ready_produce-requires-clause-bytes : goal.ready_produce-requires-clause-bytes
ready_produce-requires-clause-bytes g c alive = c.length-bytes.ensures.length ∙ ((c.self.invariant.holds alive) Batches).ready.bytes_are

pub put_produce-requires-clause-passed : goal.put_produce-requires-clause-passed
put_produce-requires-clause-passed g c = rw (c.in_ok-write.ensures.answer.kept, c.in_ok-frame.ensures.due.state, c.in_ok-frame.ensures.due.setting) c.in_ok-frame.ensures.passed

pub put_produce-requires-clause-frame : goal.put_produce-requires-clause-frame
put_produce-requires-clause-frame g c = rw (c.in_ok-write.ensures.answer.kept, c.in_ok-frame.ensures.due.state, c.in_ok-frame.ensures.due.setting) c.in_ok-frame.ensures.frame
