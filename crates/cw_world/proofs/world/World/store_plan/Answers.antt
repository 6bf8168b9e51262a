use Rattle.std.proofs.Common.{◌≡◌, ℕ, Ok, refl, sym, ◌∙◌, ap, subst}
use Rattle.cw_model.specs.State.{Cluster}
use Rattle.cw_model.specs.Answers.{Answer}
use Rattle.cw_model.specs.EventsGroups.{store_plan}
use Rattle.cw_model.specs.EventsWorkers.{clock}
use Rattle.cw_world.specs.Logs.{logs_of}
use Rattle.cw_world.proofs.Quiet.{quiet-keeps, wanting-keeps}
use Rattle.cw_world.proofs.world.World.store_plan.Goals as goal

pub returns : goal.returns
returns g c =
    let moved : c.clock.new.self.state ≡ (clock c.args.now c.self.inside.cluster.state).1 = ap (λ (a : Answer ℕ). a.1) (sym c.clock.ensures.row) in
    rw (← c.self.view_is) record {
      done = λ ok. subst (λ (s : Cluster). store_plan c.args.w s ≡ (c.store_plan.result, c.store_plan.new.self.state)) moved (c.store_plan.ensures.done ok);
      wants = λ e. c.store_plan.ensures.wants e ∙ moved;
      setting = c.store_plan.ensures.setting ∙ c.clock.ensures.setting;
      logs = refl;
      name = refl;
    }

pub invariant_of-self : goal.invariant_of-self
invariant_of-self g c =
    let timed = quiet-keeps g.D.Disk (logs_of c.self.inside.logs.config c.self.inside.logs.offsets c.self.inside.logs.status c.self.inside.logs.txn c.self.inside.logs.batches) (clock c.args.now) c.self.inside.cluster c.clock.new.self (Ok c.clock.result)
    (c.workers_keep_facts.ensures.clock c.self.inside.cluster.setting c.self.inside.cluster.state c.args.now) c.clock.ensures c.self.invariant in
    wanting-keeps g.D.Disk (logs_of c.self.inside.logs.config c.self.inside.logs.offsets c.self.inside.logs.status c.self.inside.logs.txn c.self.inside.logs.batches) (store_plan c.args.w) c.clock.new.self c.store_plan.new.self c.store_plan.result
    (c.rounds_keep_facts.ensures.store_plan c.clock.new.self.setting c.clock.new.self.state c.args.w) c.store_plan.ensures timed
