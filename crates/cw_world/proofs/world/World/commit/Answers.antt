use Rattle.std.proofs.Common.{◌∷◌, [], sym, subst}
use Rattle.std.proofs.lemmas.Result.{err_from_is_err_and}
use Rattle.cw_types.specs.declared.logs.LogName.TheVariants.{Txn}
use Rattle.cw_model.specs.EventsSources.{commit, MayCommit}
use Rattle.cw_model.specs.Lookups.{instance_of}
use Rattle.cw_rows.specs.Entries.{commit_of}
use Rattle.cw_world.specs.Logs.{logs_of}
use Rattle.cw_world.specs.World.{WorldState}
use Rattle.cw_world.proofs.Entries.{allowed-behind, chains-behind, room-of, commit-grown}
use Rattle.cw_world.proofs.Holding.{only-txn}
use Rattle.cw_world.proofs.Writing.{by-bytes, open-log, refuses, not-written, written}
use Rattle.cw_world.proofs.world.World.commit.Goals as goal

pub write-requires-clause-ready : goal.write-requires-clause-ready
write-requires-clause-ready g c = let l = c.self.inside.logs in let logs = logs_of l.config l.offsets l.status l.txn l.batches in
    open-log g.D.Disk (commit c.args.i) Txn c.self.inside.cluster c.ready_commit.new.self logs c.body.result.now c.self.invariant (by-bytes Txn (commit c.args.i) c.body.result.now _ c.self.inside.cluster c.ready_commit.new.self c.body.ensures.bytes c.in_ok-frame.ensures.due)

pub invariant_of-self-in_err-write : goal.invariant_of-self-in_err-write
invariant_of-self-in_err-write g c = let l = c.self.inside.logs in let logs = logs_of l.config l.offsets l.status l.txn l.batches in
    (not-written g.D.Disk (commit c.args.i) Txn c.self.inside.cluster c.ready_commit.new.self c.write.new.cluster logs (record logs { txn = c.write.new.log }) c.body.result.now
    (only-txn logs c.write.new.log) c.self.invariant (by-bytes Txn (commit c.args.i) c.body.result.now _ c.self.inside.cluster c.ready_commit.new.self c.body.ensures.bytes c.in_ok-frame.ensures.due) c.in_err-write.field-0.0 c.in_err-write.ensures).1

pub returns-in_err-write : goal.returns-in_err-write
returns-in_err-write g c = let l = c.self.inside.logs in let logs = logs_of l.config l.offsets l.status l.txn l.batches in
    let p = err_from_is_err_and c.from_residual-in_err-write.result c.from_residual-in_err-write.ensures.1 in
    rw (← c.self.view_is, p.1, p.2) ((not-written g.D.Disk (commit c.args.i) Txn c.self.inside.cluster c.ready_commit.new.self c.write.new.cluster logs (record logs { txn = c.write.new.log }) c.body.result.now
    (only-txn logs c.write.new.log) c.self.invariant (by-bytes Txn (commit c.args.i) c.body.result.now _ c.self.inside.cluster c.ready_commit.new.self c.body.ensures.bytes c.in_ok-frame.ensures.due) c.in_err-write.field-0.0 c.in_err-write.ensures).0 _)

pub invariant_of-self-2 : goal.invariant_of-self-2
invariant_of-self-2 g c = let l = c.self.inside.logs in let logs = logs_of l.config l.offsets l.status l.txn l.batches in
    (written g.D.Disk (commit c.args.i) Txn c.self.inside.cluster c.ready_commit.new.self c.write.new.cluster logs (record logs { txn = c.write.new.log }) c.body.result.now
    (only-txn logs c.write.new.log) c.self.invariant (by-bytes Txn (commit c.args.i) c.body.result.now _ c.self.inside.cluster c.ready_commit.new.self c.body.ensures.bytes c.in_ok-frame.ensures.due)
    c.put_commit.new.self c.put_commit.result (c.transactions_keep_facts.ensures.commit c.self.inside.cluster.setting c.self.inside.cluster.state c.args.i (subst (λ (v : WorldState g.row.D.Denot). MayCommit c.args.i v.state) (sym c.self.view_is) c.requires.may)) c.in_ok-write.ensures c.put_commit.ensures).1

pub returns : goal.returns
returns g c = let l = c.self.inside.logs in let logs = logs_of l.config l.offsets l.status l.txn l.batches in
    rw (← c.self.view_is) ((written g.D.Disk (commit c.args.i) Txn c.self.inside.cluster c.ready_commit.new.self c.write.new.cluster logs (record logs { txn = c.write.new.log }) c.body.result.now
    (only-txn logs c.write.new.log) c.self.invariant (by-bytes Txn (commit c.args.i) c.body.result.now _ c.self.inside.cluster c.ready_commit.new.self c.body.ensures.bytes c.in_ok-frame.ensures.due)
    c.put_commit.new.self c.put_commit.result (c.transactions_keep_facts.ensures.commit c.self.inside.cluster.setting c.self.inside.cluster.state c.args.i (subst (λ (v : WorldState g.row.D.Denot). MayCommit c.args.i v.state) (sym c.self.view_is) c.requires.may)) c.in_ok-write.ensures c.put_commit.ensures).0 _)

pub returns-in_err-frame : goal.returns-in_err-frame
returns-in_err-frame g c = let l = c.self.inside.logs in let logs = logs_of l.config l.offsets l.status l.txn l.batches in
    let p = err_from_is_err_and c.from_residual.result c.from_residual.ensures.1 in
    rw (← c.self.view_is, p.1, p.2) ((refuses g.D.Disk (commit c.args.i) Txn c.self.inside.cluster c.ready_commit.new.self logs c.in_err-frame.field-0.0
    (c.transactions_keep_facts.ensures.commit c.self.inside.cluster.setting c.self.inside.cluster.state c.args.i (subst (λ (v : WorldState g.row.D.Denot). MayCommit c.args.i v.state) (sym c.self.view_is) c.requires.may)) c.self.invariant c.in_err-frame.ensures.due).0 _)

pub put_commit-requires-clause-allowed : goal.put_commit-requires-clause-allowed
put_commit-requires-clause-allowed g c = rw (c.in_ok-write.ensures.answer.kept, c.in_ok-frame.ensures.due.state, c.in_ok-frame.ensures.frame)
    (allowed-behind (commit c.args.i) c.self.inside.cluster.setting c.self.inside.cluster.state (commit_of (instance_of c.args.i c.self.inside.cluster.state) ∷ [])
    (c.transactions_keep_facts.ensures.commit c.self.inside.cluster.setting c.self.inside.cluster.state c.args.i (subst (λ (v : WorldState g.row.D.Denot). MayCommit c.args.i v.state) (sym c.self.view_is) c.requires.may)) c.self.invariant.facts (commit-grown c.self.inside.cluster.state c.args.i c.in_ok-frame.ensures.passed (room-of c.self.inside.cluster c.ready_commit.new.self c.body.result.now c.in_ok-frame.frame _ c.in_ok-frame.ensures.due.state c.body.ensures.bytes c.in_ok-frame.ensures.frame c.in_ok-write.ensures.answer.room)))

pub put_commit-requires-clause-chains : goal.put_commit-requires-clause-chains
put_commit-requires-clause-chains g c = rw (c.in_ok-write.ensures.answer.kept, c.in_ok-frame.ensures.due.state, c.in_ok-frame.ensures.frame)
    (chains-behind (commit c.args.i) c.self.inside.cluster.setting c.self.inside.cluster.state (commit_of (instance_of c.args.i c.self.inside.cluster.state) ∷ [])
    (c.transactions_keep_facts.ensures.commit c.self.inside.cluster.setting c.self.inside.cluster.state c.args.i (subst (λ (v : WorldState g.row.D.Denot). MayCommit c.args.i v.state) (sym c.self.view_is) c.requires.may)) c.self.invariant.facts (commit-grown c.self.inside.cluster.state c.args.i c.in_ok-frame.ensures.passed (room-of c.self.inside.cluster c.ready_commit.new.self c.body.result.now c.in_ok-frame.frame _ c.in_ok-frame.ensures.due.state c.body.ensures.bytes c.in_ok-frame.ensures.frame c.in_ok-write.ensures.answer.room)))
