-- The event of a directive leaves a cluster open in which no disk has failed.
use Rattle.std.proofs.Common.{◌≡◌, map, None, Result, Ok, Err, refl}
use Rattle.cw_script.specs.declared.directive.Directive.{Directive}
use Rattle.cw_script.specs.declared.directive.Directive.TheVariants as directive
use Rattle.cw_model.specs.declared.fault.WorldFault.{WorldFault}
use Rattle.cw_model.specs.State.{Setting, Cluster}
use Rattle.cw_model.specs.Answers.{Answer}
use Rattle.cw_edges.specs.Requests.{call_of}
use Rattle.cw_run.specs.Answers.{pair_of}
use Rattle.cw_run.proofs.Living.{IsOwnAnswer, Lives, answers-lives, clock-lives, commit-lives, compact-lives, deaf-lives, expire-lives, hear-lives, init-lives, kill-lives, spawn-lives, step-lives, tick-lives}
use Rattle.cw_cluster.specs.declared.outcome.Outcome.{Outcome}
use Rattle.cw_cluster.specs.declared.outcome.Outcome.TheVariants as came
use Rattle.cw_cluster.specs.Events.{came_to, comes_to, event_of}
use Rattle.cw_cluster.proofs.Broken.{IsUnsettling}

came-own : {A : Type 0} (outcome : A → Outcome) (result : Result A WorldFault) → IsOwnAnswer result → IsOwnAnswer (came_to outcome result)
came-own outcome (Ok x) own = tt
came-own outcome (Err why) own = own

lives-comes : {A : Type 0} (outcome : A → Outcome) (done : Answer A) → Lives done → Lives (comes_to outcome done)
lives-comes outcome done lives = record { unclosed = lives.unclosed; own = came-own outcome done.0 lives.own }

pub event-lives : (setting : Setting) (d : Directive) (s : Cluster) → IsUnsettling d → s.closed ≡ None → Lives (event_of setting d s)
unfolding event_of
event-lives setting (directive.Init n) s un unclosed = lives-comes _ _ (init-lives s unclosed n)
event-lives setting (directive.Commit n epoch pairs) s un unclosed = lives-comes _ _ (commit-lives s unclosed n (record { 0 = epoch }) (map pair_of pairs))
event-lives setting directive.Spawn s un unclosed = lives-comes _ _ (spawn-lives s unclosed)
event-lives setting (directive.Kill w) s un unclosed = lives-comes _ _ (kill-lives s unclosed w)
event-lives setting (directive.Deaf w) s un unclosed = lives-comes _ _ (deaf-lives s unclosed w)
event-lives setting (directive.Hear w) s un unclosed = lives-comes _ _ (hear-lives s unclosed w)
event-lives setting (directive.Expire w) s un unclosed = lives-comes _ _ (expire-lives s unclosed setting w)
event-lives setting (directive.Clock to) s un unclosed = lives-comes came.Clock _ (clock-lives s unclosed to)
event-lives setting (directive.Tick w) s un unclosed = lives-comes _ _ (tick-lives s unclosed w)
event-lives setting (directive.Step i) s un unclosed = lives-comes _ _ (step-lives setting i s unclosed)
event-lives setting (directive.Settle most) s un unclosed = absurd (un most refl)
event-lives setting (directive.Rest w method target body) s un unclosed = lives-comes _ _ (answers-lives setting w (call_of method target body) s unclosed)
event-lives setting (directive.Held w) s un unclosed = record { unclosed = unclosed; own = tt }
event-lives setting (directive.Member w) s un unclosed = record { unclosed = unclosed; own = tt }
event-lives setting (directive.Take topic from) s un unclosed = record { unclosed = unclosed; own = tt }
event-lives setting (directive.Compact log) s un unclosed = lives-comes _ _ (compact-lives s unclosed log)
