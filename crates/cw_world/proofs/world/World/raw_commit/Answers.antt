use Rattle.std.proofs.Common.{◌∷◌, []}
use Rattle.std.proofs.lemmas.Result.{err_from_is_err_and}
use Rattle.cw_types.specs.declared.logs.LogName.TheVariants.{Txn}
use Rattle.cw_model.specs.EventsRaw.{raw_commit}
use Rattle.cw_rows.specs.Entries.{raw_commit_in}
use Rattle.cw_world.specs.Logs.{logs_of}
use Rattle.cw_world.proofs.Entries.{allowed-behind, chains-behind, room-of, raw-grown}
use Rattle.cw_world.proofs.Holding.{only-txn}
use Rattle.cw_world.proofs.Writing.{by-bytes, open-log, not-written, written}
use Rattle.cw_world.proofs.world.World.raw_commit.Goals as goal

pub write-requires-clause-ready : goal.write-requires-clause-ready
write-requires-clause-ready g c = let l = c.self.inside.logs in let logs = logs_of l.config l.offsets l.status l.txn l.batches in
    open-log g.D.Disk (raw_commit c.args.n c.args.epoch c.args.list.now) Txn c.self.inside.cluster c.ready_raw_commit.new.self logs c.body.result.now c.self.invariant (by-bytes Txn (raw_commit c.args.n c.args.epoch c.args.list.now) c.body.result.now _ c.self.inside.cluster c.ready_raw_commit.new.self c.body.ensures.bytes c.in_ok-frame.ensures.due)

pub invariant_of-self-in_err-write : goal.invariant_of-self-in_err-write
invariant_of-self-in_err-write g c = let l = c.self.inside.logs in let logs = logs_of l.config l.offsets l.status l.txn l.batches in
    (not-written g.D.Disk (raw_commit c.args.n c.args.epoch c.args.list.now) Txn c.self.inside.cluster c.ready_raw_commit.new.self c.write.new.cluster logs (record logs { txn = c.write.new.log }) c.body.result.now
    (only-txn logs c.write.new.log) c.self.invariant (by-bytes Txn (raw_commit c.args.n c.args.epoch c.args.list.now) c.body.result.now _ c.self.inside.cluster c.ready_raw_commit.new.self c.body.ensures.bytes c.in_ok-frame.ensures.due) c.in_err-write.field-0.0 c.in_err-write.ensures).1

pub returns-in_err-write : goal.returns-in_err-write
returns-in_err-write g c = let l = c.self.inside.logs in let logs = logs_of l.config l.offsets l.status l.txn l.batches in
    let p = err_from_is_err_and c.from_residual-in_err-write.result c.from_residual-in_err-write.ensures.1 in
    rw (← c.self.view_is, p.1, p.2) ((not-written g.D.Disk (raw_commit c.args.n c.args.epoch c.args.list.now) Txn c.self.inside.cluster c.ready_raw_commit.new.self c.write.new.cluster logs (record logs { txn = c.write.new.log }) c.body.result.now
    (only-txn logs c.write.new.log) c.self.invariant (by-bytes Txn (raw_commit c.args.n c.args.epoch c.args.list.now) c.body.result.now _ c.self.inside.cluster c.ready_raw_commit.new.self c.body.ensures.bytes c.in_ok-frame.ensures.due) c.in_err-write.field-0.0 c.in_err-write.ensures).0 _)

pub invariant_of-self-2 : goal.invariant_of-self-2
invariant_of-self-2 g c = let l = c.self.inside.logs in let logs = logs_of l.config l.offsets l.status l.txn l.batches in
    (written g.D.Disk (raw_commit c.args.n c.args.epoch c.args.list.now) Txn c.self.inside.cluster c.ready_raw_commit.new.self c.write.new.cluster logs (record logs { txn = c.write.new.log }) c.body.result.now
    (only-txn logs c.write.new.log) c.self.invariant (by-bytes Txn (raw_commit c.args.n c.args.epoch c.args.list.now) c.body.result.now _ c.self.inside.cluster c.ready_raw_commit.new.self c.body.ensures.bytes c.in_ok-frame.ensures.due)
    c.put_raw_commit.new.self c.put_raw_commit.result (c.script_producers_keep_facts.ensures.raw_commit c.self.inside.cluster.setting c.self.inside.cluster.state c.args.n c.args.epoch c.args.list.now c.requires) c.in_ok-write.ensures c.put_raw_commit.ensures).1

pub returns : goal.returns
returns g c = let l = c.self.inside.logs in let logs = logs_of l.config l.offsets l.status l.txn l.batches in
    rw (← c.self.view_is) ((written g.D.Disk (raw_commit c.args.n c.args.epoch c.args.list.now) Txn c.self.inside.cluster c.ready_raw_commit.new.self c.write.new.cluster logs (record logs { txn = c.write.new.log }) c.body.result.now
    (only-txn logs c.write.new.log) c.self.invariant (by-bytes Txn (raw_commit c.args.n c.args.epoch c.args.list.now) c.body.result.now _ c.self.inside.cluster c.ready_raw_commit.new.self c.body.ensures.bytes c.in_ok-frame.ensures.due)
    c.put_raw_commit.new.self c.put_raw_commit.result (c.script_producers_keep_facts.ensures.raw_commit c.self.inside.cluster.setting c.self.inside.cluster.state c.args.n c.args.epoch c.args.list.now c.requires) c.in_ok-write.ensures c.put_raw_commit.ensures).0 _)

pub put_raw_commit-requires-clause-allowed : goal.put_raw_commit-requires-clause-allowed
put_raw_commit-requires-clause-allowed g c = rw (c.in_ok-write.ensures.answer.kept, c.in_ok-frame.ensures.due.state, c.in_ok-frame.ensures.frame)
    (allowed-behind (raw_commit c.args.n c.args.epoch c.args.list.now) c.self.inside.cluster.setting c.self.inside.cluster.state (raw_commit_in c.args.n c.args.epoch c.args.list.now c.self.inside.cluster.state.entries ∷ [])
    (c.script_producers_keep_facts.ensures.raw_commit c.self.inside.cluster.setting c.self.inside.cluster.state c.args.n c.args.epoch c.args.list.now c.requires) c.self.invariant.facts (raw-grown c.self.inside.cluster.state c.args.n c.args.epoch c.args.list.now c.in_ok-frame.ensures.passed (room-of c.self.inside.cluster c.ready_raw_commit.new.self c.body.result.now c.in_ok-frame.frame _ c.in_ok-frame.ensures.due.state c.body.ensures.bytes c.in_ok-frame.ensures.frame c.in_ok-write.ensures.answer.room)))

pub put_raw_commit-requires-clause-chains : goal.put_raw_commit-requires-clause-chains
put_raw_commit-requires-clause-chains g c = rw (c.in_ok-write.ensures.answer.kept, c.in_ok-frame.ensures.due.state, c.in_ok-frame.ensures.frame)
    (chains-behind (raw_commit c.args.n c.args.epoch c.args.list.now) c.self.inside.cluster.setting c.self.inside.cluster.state (raw_commit_in c.args.n c.args.epoch c.args.list.now c.self.inside.cluster.state.entries ∷ [])
    (c.script_producers_keep_facts.ensures.raw_commit c.self.inside.cluster.setting c.self.inside.cluster.state c.args.n c.args.epoch c.args.list.now c.requires) c.self.invariant.facts (raw-grown c.self.inside.cluster.state c.args.n c.args.epoch c.args.list.now c.in_ok-frame.ensures.passed (room-of c.self.inside.cluster c.ready_raw_commit.new.self c.body.result.now c.in_ok-frame.frame _ c.in_ok-frame.ensures.due.state c.body.ensures.bytes c.in_ok-frame.ensures.frame c.in_ok-write.ensures.answer.room)))
