-- What a directive makes of the cluster, as one event that comes to an outcome, and whose number a refusal of it tells.
use Rattle.std.specs.Prelude.{◌≡◌, ℕ, List, map, Option, Some, None, Result, Ok, Err, MatchResult}
use Rattle.std.specs.Option.{option_map}
use Rattle.cw_types.specs.declared.logs.LogName.{LogName}
use Rattle.cw_group.specs.Members.{member_of}
use Rattle.cw_data.specs.Log.{taken}
use Rattle.cw_script.specs.declared.directive.Directive.{Directive}
use Rattle.cw_script.specs.declared.directive.Directive.TheVariants.{Init, Commit, Spawn, Kill, Deaf, Hear, Expire}
use Rattle.cw_script.specs.declared.directive.Directive.TheVariants.{Clock, Tick, Step, Settle, Rest, Held, Member}
use Rattle.cw_script.specs.declared.directive.Directive.TheVariants.{Take, Compact}
use Rattle.cw_model.specs.declared.fault.WorldFault.{WorldFault}
use Rattle.cw_model.specs.declared.fault.WorldFault.TheVariants.{Memory}
use Rattle.cw_model.specs.State.{Setting, Cluster}
use Rattle.cw_model.specs.Answers.{Answer, answered}
use Rattle.cw_model.specs.Lookups.{held}
use Rattle.cw_model.specs.EventsWorkers.{spawn, kill, deaf, hear, expire, clock}
use Rattle.cw_model.specs.EventsRaw.{raw_init, raw_commit}
use Rattle.cw_model.specs.EventsCompaction.{compact}
use Rattle.cw_model.specs.Tick.{tick}
use Rattle.cw_model.specs.Steps.{step}
use Rattle.cw_edges.specs.Requests.{answers, call_of}
use Rattle.cw_run.specs.Answers.{pair_of}
use Rattle.cw_run.specs.Ran.{alone}
use Rattle.cw_run.specs.Settling.{Settled, settled, is_quiet}
use Rattle.cw_cluster.specs.declared.outcome.Outcome.{Outcome}
use Rattle.cw_cluster.specs.declared.outcome.Outcome.TheVariants as came

-- what was answered, as an outcome
abbrev pub came_to : {A : Type 0} → (A → Outcome) → Result A WorldFault → Result Outcome WorldFault
came_to outcome (Ok x) = Ok (outcome x)
came_to outcome (Err fault) = Err fault

-- an event that comes to an outcome
abbrev pub comes_to : {A : Type 0} → (A → Outcome) → Answer A → Answer Outcome
comes_to outcome done = (came_to outcome done.0, done.1)

-- how a cluster settled
abbrev pub settling : Setting → Option WorldFault → Settled → Result Outcome WorldFault
settling setting None g = Ok (came.Settled (is_quiet setting g.ran.cluster) g.moved)
settling setting (Some fault) g = Err fault

-- a committed record that was looked for
abbrev pub found : Option (ℕ × List ℕ) → Outcome
found None = came.NoRecord
found (Some p) = came.Record p.0 p.1

-- the incarnation as which the group knows a worker
abbrev pub incarnation_of : ℕ → Cluster → Option ℕ
incarnation_of w s = option_map (λ m. m.incarnation) (member_of w s.group.members)

-- what a look comes to, or memory is wanting
abbrev pub IsLook : Outcome → Result Outcome WorldFault → Type 0
IsLook meant result = MatchResult result (λ outcome. outcome ≡ meant) (λ fault. fault ≡ Memory)

-- the counts of a compaction
abbrev pub compacted : LogName → ℕ × ℕ → Outcome
compacted log counts = came.Compacted log counts.0 counts.1

-- the event of a directive
unfoldable pub event_of : Setting → Directive → Cluster → Answer Outcome
event_of setting (Init n) s = comes_to came.Epoch (raw_init n s)
event_of setting (Commit n epoch pairs) s =
    comes_to came.Committed (raw_commit n (record { 0 = epoch }) (map pair_of pairs) s)
event_of setting Spawn s = comes_to came.Spawned (spawn s)
event_of setting (Kill w) s = comes_to (λ _. came.Killed w) (kill w s)
event_of setting (Deaf w) s = comes_to (λ _. came.Deaf w) (deaf w s)
event_of setting (Hear w) s = comes_to (λ _. came.Hears w) (hear w s)
event_of setting (Expire w) s = comes_to (λ _. came.Expired w) (expire setting w s)
event_of setting (Clock to) s = comes_to came.Clock (clock to s)
event_of setting (Tick w) s = comes_to (came.Tick w) (tick w s)
event_of setting (Step i) s = comes_to (came.Step i) (step setting i s)
event_of setting (Settle most) s =
    let g = settled setting most (alone s) in (settling setting g.refused g, g.ran.cluster)
event_of setting (Rest w method target body) s =
    comes_to came.Replied (answers setting w (call_of method target body) s)
event_of setting (Held w) s = answered (came.Held w (held w s)) s
event_of setting (Member w) s = answered (came.Member w (incarnation_of w s)) s
event_of setting (Take topic from) s = answered (found (taken topic from s.batches)) s
event_of setting (Compact log) s = comes_to (compacted log) (compact log s)

-- the number of the worker, the instance or the producer that a directive names, 0 where it names none
abbrev pub subject_of : Directive → ℕ
subject_of (Init n) = n
subject_of (Commit n epoch pairs) = n
subject_of Spawn = 0
subject_of (Kill w) = w
subject_of (Deaf w) = w
subject_of (Hear w) = w
subject_of (Expire w) = w
subject_of (Clock to) = 0
subject_of (Tick w) = w
subject_of (Step i) = i
subject_of (Settle most) = 0
subject_of (Rest w method target body) = w
subject_of (Held w) = w
subject_of (Member w) = w
subject_of (Take topic from) = 0
subject_of (Compact log) = 0

-- a directive that is of the world alone
abbrev pub IsPlain : Directive → Type 0
IsPlain (Init n) = Unit {0}
IsPlain (Commit n epoch pairs) = Unit {0}
IsPlain Spawn = Unit {0}
IsPlain (Kill w) = Unit {0}
IsPlain (Deaf w) = Unit {0}
IsPlain (Hear w) = Unit {0}
IsPlain (Expire w) = Unit {0}
IsPlain (Clock to) = Unit {0}
IsPlain (Tick w) = Unit {0}
IsPlain (Step i) = ⊥
IsPlain (Settle most) = ⊥
IsPlain (Rest w method target body) = ⊥
IsPlain (Held w) = Unit {0}
IsPlain (Member w) = Unit {0}
IsPlain (Take topic from) = Unit {0}
IsPlain (Compact log) = Unit {0}
