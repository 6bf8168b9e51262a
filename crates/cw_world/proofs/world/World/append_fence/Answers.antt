use Rattle.std.proofs.Common.{◌≡◌, true, List, sym, ◌∙◌, subst}
use Rattle.std.proofs.lemmas.Result.{err_from_is_err_and}
use Rattle.cw_types.specs.declared.logs.LogName.TheVariants.{Config}
use Rattle.cw_model.specs.EventsLeading.{append_fence, MayAppendFence}
use Rattle.cw_config.specs.declared.records.ConfigRecord.{ConfigRecord}
use Rattle.cw_topics.specs.Configs.{have_offsets}
use Rattle.cw_world.specs.Logs.{logs_of}
use Rattle.cw_world.specs.World.{WorldState}
use Rattle.cw_world.proofs.Configs.{accepted-behind, config-room, fence-grown, have-read}
use Rattle.cw_world.proofs.Holding.{only-config}
use Rattle.cw_world.proofs.Writing.{by-bytes, open-log, refuses, not-written, written}
use Rattle.cw_world.proofs.world.World.append_fence.Goals as goal

pub ready_append_fence-requires-clause-size : goal.ready_append_fence-requires-clause-size
ready_append_fence-requires-clause-size g c alive = c.length-size.ensures ∙ (c.self.invariant.holds alive Config).ready.bytes_are

pub write-requires-clause-ready : goal.write-requires-clause-ready
write-requires-clause-ready g c = let l = c.self.inside.logs in let logs = logs_of l.config l.offsets l.status l.txn l.batches in
    open-log g.D.Disk (append_fence c.args.w c.args.name.now) Config c.self.inside.cluster c.ready_append_fence.new.self logs c.body.result.now c.self.invariant (by-bytes Config (append_fence c.args.w c.args.name.now) c.body.result.now _ c.self.inside.cluster c.ready_append_fence.new.self c.body.ensures.bytes c.in_ok-frame.ensures.due)

pub invariant_of-self-in_err-write : goal.invariant_of-self-in_err-write
invariant_of-self-in_err-write g c = let l = c.self.inside.logs in let logs = logs_of l.config l.offsets l.status l.txn l.batches in
    (not-written g.D.Disk (append_fence c.args.w c.args.name.now) Config c.self.inside.cluster c.ready_append_fence.new.self c.write.new.cluster logs (record logs { config = c.write.new.log }) c.body.result.now
    (only-config logs c.write.new.log) c.self.invariant (by-bytes Config (append_fence c.args.w c.args.name.now) c.body.result.now _ c.self.inside.cluster c.ready_append_fence.new.self c.body.ensures.bytes c.in_ok-frame.ensures.due) c.in_err-write.field-0.0 c.in_err-write.ensures).1

pub returns-in_err-write : goal.returns-in_err-write
returns-in_err-write g c = let l = c.self.inside.logs in let logs = logs_of l.config l.offsets l.status l.txn l.batches in
    let p = err_from_is_err_and c.from_residual-in_err-write.result c.from_residual-in_err-write.ensures.1 in
    rw (← c.self.view_is, p.1, p.2) ((not-written g.D.Disk (append_fence c.args.w c.args.name.now) Config c.self.inside.cluster c.ready_append_fence.new.self c.write.new.cluster logs (record logs { config = c.write.new.log }) c.body.result.now
    (only-config logs c.write.new.log) c.self.invariant (by-bytes Config (append_fence c.args.w c.args.name.now) c.body.result.now _ c.self.inside.cluster c.ready_append_fence.new.self c.body.ensures.bytes c.in_ok-frame.ensures.due) c.in_err-write.field-0.0 c.in_err-write.ensures).0 _)

pub invariant_of-self-2 : goal.invariant_of-self-2
invariant_of-self-2 g c = let l = c.self.inside.logs in let logs = logs_of l.config l.offsets l.status l.txn l.batches in
    (written g.D.Disk (append_fence c.args.w c.args.name.now) Config c.self.inside.cluster c.ready_append_fence.new.self c.write.new.cluster logs (record logs { config = c.write.new.log }) c.body.result.now
    (only-config logs c.write.new.log) c.self.invariant (by-bytes Config (append_fence c.args.w c.args.name.now) c.body.result.now _ c.self.inside.cluster c.ready_append_fence.new.self c.body.ensures.bytes c.in_ok-frame.ensures.due)
    c.put_append_fence.new.self c.put_append_fence.result (c.configs_keep_facts.ensures.append_fence c.self.inside.cluster.setting c.self.inside.cluster.state c.args.w c.args.name.now (subst (λ (v : WorldState g.row.D.Denot). MayAppendFence c.args.w c.args.name.now v.state) (sym c.self.view_is) c.requires.may)) c.in_ok-write.ensures c.put_append_fence.ensures).1

pub returns : goal.returns
returns g c = let l = c.self.inside.logs in let logs = logs_of l.config l.offsets l.status l.txn l.batches in
    rw (← c.self.view_is) ((written g.D.Disk (append_fence c.args.w c.args.name.now) Config c.self.inside.cluster c.ready_append_fence.new.self c.write.new.cluster logs (record logs { config = c.write.new.log }) c.body.result.now
    (only-config logs c.write.new.log) c.self.invariant (by-bytes Config (append_fence c.args.w c.args.name.now) c.body.result.now _ c.self.inside.cluster c.ready_append_fence.new.self c.body.ensures.bytes c.in_ok-frame.ensures.due)
    c.put_append_fence.new.self c.put_append_fence.result (c.configs_keep_facts.ensures.append_fence c.self.inside.cluster.setting c.self.inside.cluster.state c.args.w c.args.name.now (subst (λ (v : WorldState g.row.D.Denot). MayAppendFence c.args.w c.args.name.now v.state) (sym c.self.view_is) c.requires.may)) c.in_ok-write.ensures c.put_append_fence.ensures).0 _)

pub returns-in_err-frame : goal.returns-in_err-frame
returns-in_err-frame g c = let l = c.self.inside.logs in let logs = logs_of l.config l.offsets l.status l.txn l.batches in
    let p = err_from_is_err_and c.from_residual.result c.from_residual.ensures.1 in
    rw (← c.self.view_is, p.1, p.2) ((refuses g.D.Disk (append_fence c.args.w c.args.name.now) Config c.self.inside.cluster c.ready_append_fence.new.self logs c.in_err-frame.field-0.0
    (c.configs_keep_facts.ensures.append_fence c.self.inside.cluster.setting c.self.inside.cluster.state c.args.w c.args.name.now (subst (λ (v : WorldState g.row.D.Denot). MayAppendFence c.args.w c.args.name.now v.state) (sym c.self.view_is) c.requires.may)) c.self.invariant c.in_err-frame.ensures.due).0 _)

pub put_append_fence-requires-clause-passed : goal.put_append_fence-requires-clause-passed
put_append_fence-requires-clause-passed g c = rw (c.in_ok-write.ensures.answer.kept, c.in_ok-frame.ensures.due.state) c.in_ok-frame.ensures.passed

pub put_append_fence-requires-clause-read : goal.put_append_fence-requires-clause-read
put_append_fence-requires-clause-read g c = rw (c.in_ok-write.ensures.answer.kept, c.in_ok-frame.ensures.due.state)
    (have-read c.self.inside.cluster.setting c.self.inside.cluster.state c.self.invariant.facts)

pub put_append_fence-requires-clause-accepted : goal.put_append_fence-requires-clause-accepted
put_append_fence-requires-clause-accepted g c = rw (c.in_ok-write.ensures.answer.kept, c.in_ok-frame.ensures.due.state, c.in_ok-frame.ensures.frame)
    (accepted-behind (append_fence c.args.w c.args.name.now) c.self.inside.cluster.setting c.self.inside.cluster.state _
    (c.configs_keep_facts.ensures.append_fence c.self.inside.cluster.setting c.self.inside.cluster.state c.args.w c.args.name.now (subst (λ (v : WorldState g.row.D.Denot). MayAppendFence c.args.w c.args.name.now v.state) (sym c.self.view_is) c.requires.may)) c.self.invariant.facts (fence-grown c.self.inside.cluster c.args.w c.args.name.now c.in_ok-frame.ensures.passed c.in_ok-frame.ensures.newest
    (subst (λ (l : List ConfigRecord). have_offsets l ≡ true) c.in_ok-frame.ensures.frame c.in_ok-frame.ensures.offsets) (config-room c.self.inside.cluster c.ready_append_fence.new.self c.body.result.now c.in_ok-frame.frame _ c.in_ok-frame.ensures.due.state c.body.ensures.bytes c.in_ok-frame.ensures.frame c.in_ok-write.ensures.answer.room)))

pub put_append_fence-requires-clause-newest : goal.put_append_fence-requires-clause-newest
put_append_fence-requires-clause-newest g c = rw (c.in_ok-write.ensures.answer.kept, c.in_ok-frame.ensures.due.state) c.in_ok-frame.ensures.newest
