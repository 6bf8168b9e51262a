use Rattle.std.proofs.Common.{◌≡◌, true, subst}
use Rattle.cw_model.specs.declared.instance.Instance.{Instance}
use Rattle.cw_model.specs.Tasks.{part_at}
use Rattle.cw_turns.specs.Due.{IsDue, IsTopic}
use Rattle.cw_turns.proofs.delivering.may_deliver.Goals as goal

pub returns-then-is_sink-clause-due : goal.returns-then-is_sink-clause-due
returns-then-is_sink-clause-due c = λ told.
    let d = c.args.delivery.now in let s = c.args.cluster.now.state in
    subst (λ (own : Instance). IsDue own s.batches d → IsTopic (part_at d.turn own) → c.is_due.result ≡ true) c.instance_of-own.ensures c.is_due.ensures.due
    (record { within = told.may.within; there = told.there; some = told.may.some; settled = told.may.settled }) told.topic
