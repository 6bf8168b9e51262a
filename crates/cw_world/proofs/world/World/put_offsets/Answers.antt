use Rattle.std.proofs.Common.{◌<◌, sym, subst, length, ◌∙◌}
use Rattle.std.proofs.lemmas.Result.{err_from_is_err_and}
use Rattle.cw_types.specs.declared.logs.LogName.TheVariants.{Offsets}
use Rattle.cw_model.specs.EventsSources.{put_offsets, MayPutOffsets}
use Rattle.cw_world.proofs.OwnOffsets.{not-raw, not-marked}
use Rattle.cw_world.specs.Logs.{logs_of}
use Rattle.cw_world.specs.World.{WorldState}
use Rattle.cw_world.proofs.Holding.{only-offsets}
use Rattle.cw_world.proofs.Writing.{by-bytes, open-log, refuses, not-written, written}
use Rattle.cw_world.proofs.world.World.put_offsets.Goals as goal

pub write-requires-clause-ready : goal.write-requires-clause-ready
write-requires-clause-ready g c = let l = c.self.inside.logs in let logs = logs_of l.config l.offsets l.status l.txn l.batches in
    open-log g.D.Disk (put_offsets c.args.i) Offsets c.self.inside.cluster c.ready_put_offsets.new.self logs c.body.result.now c.self.invariant (by-bytes Offsets (put_offsets c.args.i) c.body.result.now _ c.self.inside.cluster c.ready_put_offsets.new.self c.body.ensures.bytes c.in_ok-frame.ensures.due)

pub invariant_of-self-in_err-write : goal.invariant_of-self-in_err-write
invariant_of-self-in_err-write g c = let l = c.self.inside.logs in let logs = logs_of l.config l.offsets l.status l.txn l.batches in
    (not-written g.D.Disk (put_offsets c.args.i) Offsets c.self.inside.cluster c.ready_put_offsets.new.self c.write.new.cluster logs (record logs { offsets = c.write.new.log }) c.body.result.now
    (only-offsets logs c.write.new.log) c.self.invariant (by-bytes Offsets (put_offsets c.args.i) c.body.result.now _ c.self.inside.cluster c.ready_put_offsets.new.self c.body.ensures.bytes c.in_ok-frame.ensures.due) c.in_err-write.field-0.0 c.in_err-write.ensures).1

pub returns-in_err-write : goal.returns-in_err-write
returns-in_err-write g c = let l = c.self.inside.logs in let logs = logs_of l.config l.offsets l.status l.txn l.batches in
    let p = err_from_is_err_and c.from_residual-in_err-write.result c.from_residual-in_err-write.ensures.1 in
    rw (← c.self.view_is, p.1, p.2) ((not-written g.D.Disk (put_offsets c.args.i) Offsets c.self.inside.cluster c.ready_put_offsets.new.self c.write.new.cluster logs (record logs { offsets = c.write.new.log }) c.body.result.now
    (only-offsets logs c.write.new.log) c.self.invariant (by-bytes Offsets (put_offsets c.args.i) c.body.result.now _ c.self.inside.cluster c.ready_put_offsets.new.self c.body.ensures.bytes c.in_ok-frame.ensures.due) c.in_err-write.field-0.0 c.in_err-write.ensures).0 _)

pub invariant_of-self-2 : goal.invariant_of-self-2
invariant_of-self-2 g c = let l = c.self.inside.logs in let logs = logs_of l.config l.offsets l.status l.txn l.batches in
    (written g.D.Disk (put_offsets c.args.i) Offsets c.self.inside.cluster c.ready_put_offsets.new.self c.write.new.cluster logs (record logs { offsets = c.write.new.log }) c.body.result.now
    (only-offsets logs c.write.new.log) c.self.invariant (by-bytes Offsets (put_offsets c.args.i) c.body.result.now _ c.self.inside.cluster c.ready_put_offsets.new.self c.body.ensures.bytes c.in_ok-frame.ensures.due)
    c.put_put_offsets.new.self tt (c.transactions_keep_facts.ensures.put_offsets c.self.inside.cluster.setting c.self.inside.cluster.state c.args.i (subst (λ (v : WorldState g.row.D.Denot). MayPutOffsets c.args.i v.state) (sym c.self.view_is) c.requires.may)) c.in_ok-write.ensures c.put_put_offsets.ensures).1

pub returns : goal.returns
returns g c = let l = c.self.inside.logs in let logs = logs_of l.config l.offsets l.status l.txn l.batches in
    rw (← c.self.view_is) ((written g.D.Disk (put_offsets c.args.i) Offsets c.self.inside.cluster c.ready_put_offsets.new.self c.write.new.cluster logs (record logs { offsets = c.write.new.log }) c.body.result.now
    (only-offsets logs c.write.new.log) c.self.invariant (by-bytes Offsets (put_offsets c.args.i) c.body.result.now _ c.self.inside.cluster c.ready_put_offsets.new.self c.body.ensures.bytes c.in_ok-frame.ensures.due)
    c.put_put_offsets.new.self tt (c.transactions_keep_facts.ensures.put_offsets c.self.inside.cluster.setting c.self.inside.cluster.state c.args.i (subst (λ (v : WorldState g.row.D.Denot). MayPutOffsets c.args.i v.state) (sym c.self.view_is) c.requires.may)) c.in_ok-write.ensures c.put_put_offsets.ensures).0 _)

pub returns-in_err-frame : goal.returns-in_err-frame
returns-in_err-frame g c = let l = c.self.inside.logs in let logs = logs_of l.config l.offsets l.status l.txn l.batches in
    let p = err_from_is_err_and c.from_residual.result c.from_residual.ensures.1 in
    rw (← c.self.view_is, p.1, p.2) ((refuses g.D.Disk (put_offsets c.args.i) Offsets c.self.inside.cluster c.ready_put_offsets.new.self logs c.in_err-frame.field-0.0
    (c.transactions_keep_facts.ensures.put_offsets c.self.inside.cluster.setting c.self.inside.cluster.state c.args.i (subst (λ (v : WorldState g.row.D.Denot). MayPutOffsets c.args.i v.state) (sym c.self.view_is) c.requires.may)) c.self.invariant c.in_err-frame.ensures.due).0 _)

pub invariant_of-self : goal.invariant_of-self
invariant_of-self g c = let l = c.self.inside.logs in let logs = logs_of l.config l.offsets l.status l.txn l.batches in
    (refuses g.D.Disk (put_offsets c.args.i) Offsets c.self.inside.cluster c.ready_put_offsets.new.self logs c.in_err-frame.field-0.0
    (c.transactions_keep_facts.ensures.put_offsets c.self.inside.cluster.setting c.self.inside.cluster.state c.args.i (subst (λ (v : WorldState g.row.D.Denot). MayPutOffsets c.args.i v.state) (sym c.self.view_is) c.requires.may)) c.self.invariant c.in_err-frame.ensures.due).1

pub ready_put_offsets-requires-clause-part : goal.ready_put_offsets-requires-clause-part
ready_put_offsets-requires-clause-part g c = not-raw c.self.inside.cluster.setting c.self.inside.cluster.state c.args.i c.self.invariant.facts
    (subst (λ (v : WorldState g.row.D.Denot). c.args.i < length v.state.instances) (sym c.self.view_is) c.requires.there)
    (subst (λ (v : WorldState g.row.D.Denot). MayPutOffsets c.args.i v.state) (sym c.self.view_is) c.requires.may)

pub ready_put_offsets-requires-clause-bytes : goal.ready_put_offsets-requires-clause-bytes
ready_put_offsets-requires-clause-bytes g c alive = c.length-bytes.ensures ∙ ((c.self.invariant.holds alive) Offsets).ready.bytes_are

pub put_put_offsets-requires-clause-passed : goal.put_put_offsets-requires-clause-passed
put_put_offsets-requires-clause-passed g c = rw (c.in_ok-write.ensures.answer.kept, c.in_ok-frame.ensures.due.state) c.in_ok-frame.ensures.passed

pub put_put_offsets-requires-clause-frame : goal.put_put_offsets-requires-clause-frame
put_put_offsets-requires-clause-frame g c = rw (c.in_ok-write.ensures.answer.kept, c.in_ok-frame.ensures.due.state) c.in_ok-frame.ensures.frame

pub put_put_offsets-requires-clause-unmarked : goal.put_put_offsets-requires-clause-unmarked
put_put_offsets-requires-clause-unmarked g c = rw (c.in_ok-write.ensures.answer.kept, c.in_ok-frame.ensures.due.state) (not-marked c.self.inside.cluster.setting c.self.inside.cluster.state c.args.i c.self.invariant.facts
    (subst (λ (v : WorldState g.row.D.Denot). c.args.i < length v.state.instances) (sym c.self.view_is) c.requires.there)
    (subst (λ (v : WorldState g.row.D.Denot). MayPutOffsets c.args.i v.state) (sym c.self.view_is) c.requires.may)
    c.in_ok-frame.ensures.passed)
