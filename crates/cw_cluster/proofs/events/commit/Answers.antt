use Rattle.std.proofs.Common.{ℕ, List, Ok, Err, sym, ap, subst, ◌∙◌}
use Rattle.cw_script.specs.declared.directive.Directive.TheVariants as directive
use Rattle.cw_types.specs.declared.logs.LogName.TheVariants.{Txn}
use Rattle.cw_model.specs.EventsRaw.{MayRawCommit, raw_commit}
use Rattle.cw_run.proofs.LineRuns.{pairs-may}
use Rattle.cw_cluster.specs.declared.outcome.Outcome.TheVariants as came
use Rattle.cw_cluster.specs.Events.{came_to, comes_to, event_of}
use Rattle.cw_cluster.proofs.Coming.{writes-comes}
use Rattle.cw_cluster.proofs.events.commit.Goals as goal

pub raw_commit-requires : goal.raw_commit-requires
raw_commit-requires g c =
    subst (λ (l : List (ℕ × ℕ)). MayRawCommit c.args.n l) (sym (c.deref.ensures.value ∙ c.in-Ok.ensures)) (pairs-may c.args.n c.args.epoch c.args.pairs.now c.requires)

pub returns-in-Ok-raw_commit : goal.returns-in-Ok-raw_commit
unfolding event_of
returns-in-Ok-raw_commit g c =
    writes-comes g.D.Disk (raw_commit c.args.n (record { 0 = c.args.epoch }) c.deref.result.now) (event_of c.args.world.now.setting (directive.Commit c.args.n c.args.epoch c.args.pairs.now)) came.Committed c.args.world.now c.raw_commit.new.self c.raw_commit.result (Ok (came.Committed c.in-Ok-raw_commit.spans))
    (ap (λ (l : List (ℕ × ℕ)). comes_to came.Committed (raw_commit c.args.n (record { 0 = c.args.epoch }) l c.args.world.now.state)) (sym (c.deref.ensures.value ∙ c.in-Ok.ensures))) (sym (ap (came_to came.Committed) c.in-Ok-raw_commit.is)) Txn c.raw_commit.ensures

pub returns : goal.returns
unfolding event_of
returns g c =
    writes-comes g.D.Disk (raw_commit c.args.n (record { 0 = c.args.epoch }) c.deref.result.now) (event_of c.args.world.now.setting (directive.Commit c.args.n c.args.epoch c.args.pairs.now)) came.Committed c.args.world.now c.raw_commit.new.self c.raw_commit.result (Err c.in-Err.fault)
    (ap (λ (l : List (ℕ × ℕ)). comes_to came.Committed (raw_commit c.args.n (record { 0 = c.args.epoch }) l c.args.world.now.state)) (sym (c.deref.ensures.value ∙ c.in-Ok.ensures))) (sym (ap (came_to came.Committed) c.in-Err.is)) Txn c.raw_commit.ensures
