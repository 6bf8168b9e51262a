-- What is in flight where a disk fails is reached by a run.
use Rattle.std.proofs.Common.{◌≡◌, ⊎_elim, ℕ, sym, subst, ap}
use Rattle.cw_script.specs.declared.directive.Directive.{Directive}
use Rattle.cw_script.specs.declared.directive.Directive.TheVariants.{Init, Commit, Spawn, Kill, Deaf, Hear, Expire, Clock, Tick, Step, Settle, Rest, Held, Member, Take, Compact}
use Rattle.cw_script.specs.Spelling.{IsSayable}
use Rattle.cw_model.specs.State.{Setting, Cluster}
use Rattle.cw_model.specs.Facts.{AreFacts}
use Rattle.cw_model.specs.Steps.{step}
use Rattle.cw_model.specs.Tick.{tick}
use Rattle.cw_run.specs.Amid.{IsHalfSettled}
use Rattle.cw_run.specs.Directives.{does}
use Rattle.cw_run.specs.Flight.{IsInFlight, IsBehindTurn}
use Rattle.cw_run.specs.Ran.{Ran}
use Rattle.cw_run.specs.Reaches.{Reaches, HaveNames}
use Rattle.cw_run.proofs.LineRuns.{directive-runs}
use Rattle.cw_run.proofs.Reaching.{stays, goes_on, reached-facts}
use Rattle.cw_run.proofs.SettleRuns.{settled-runs}
use Rattle.cw_run.proofs.StepRuns.{step-runs}
use Rattle.cw_run.proofs.TickRuns.{tick-runs}

module _ (setting : Setting) (feeds : HaveNames setting) (ran at : Ran) (next : Cluster) (f : AreFacts setting ran.cluster) where
  abbrev At : Cluster → Type 0
  At = Reaches setting ran.cluster

  -- a cluster was settling
  half-run : (most : ℕ) → IsHalfSettled setting most ran at → At at.cluster
  half-run most half = subst (λ (r : Ran). At r.cluster) (sym half.is) (settled-runs setting ran.cluster f half.moved ran (stays setting ran.cluster))

  turn-run : At at.cluster → IsBehindTurn setting at.cluster next → At next
  turn-run came turn =
      let facts : AreFacts setting at.cluster = reached-facts setting ran.cluster at.cluster came f in
      goes_on setting ran.cluster at.cluster next came (⊎_elim
      (λ (ticks : (w : ℕ) × (next ≡ (tick w at.cluster).1)). subst (Reaches setting at.cluster) (sym ticks.1) (tick-runs setting at.cluster facts ticks.0))
      (λ (steps : (i : ℕ) × (next ≡ (step setting i at.cluster).1)). subst (Reaches setting at.cluster) (sym steps.1) (step-runs setting steps.0 at.cluster facts))
      turn)

  -- any other directive
  same-run : at ≡ ran → At at.cluster
  same-run same = subst (λ (r : Ran). At r.cluster) (sym same) (stays setting ran.cluster)

  due-run : (d : Directive) → IsSayable d → next ≡ (does setting d ran.cluster).1 → At next
  due-run d is same = subst At (sym same) (directive-runs setting feeds d is ran.cluster f)

  pub before-runs : (d : Directive) → IsInFlight setting d ran at next → At at.cluster
  before-runs (Settle most) flight = half-run most flight.0
  before-runs (Init n) flight = same-run flight.0
  before-runs (Commit n epoch pairs) flight = same-run flight.0
  before-runs Spawn flight = same-run flight.0
  before-runs (Kill w) flight = same-run flight.0
  before-runs (Deaf w) flight = same-run flight.0
  before-runs (Hear w) flight = same-run flight.0
  before-runs (Expire w) flight = same-run flight.0
  before-runs (Clock to) flight = same-run flight.0
  before-runs (Tick w) flight = same-run flight.0
  before-runs (Step i) flight = same-run flight.0
  before-runs (Rest w method target body) flight = same-run flight.0
  before-runs (Held w) flight = same-run flight.0
  before-runs (Member w) flight = same-run flight.0
  before-runs (Take topic from) flight = same-run flight.0
  before-runs (Compact log) flight = same-run flight.0

  pub behind-runs : (d : Directive) → IsSayable d → IsInFlight setting d ran at next → At next
  behind-runs (Settle most) is flight = turn-run (half-run most flight.0) flight.1
  behind-runs (Init n) is flight = due-run (Init n) is flight.1
  behind-runs (Commit n epoch pairs) is flight = due-run (Commit n epoch pairs) is flight.1
  behind-runs Spawn is flight = due-run Spawn is flight.1
  behind-runs (Kill w) is flight = due-run (Kill w) is flight.1
  behind-runs (Deaf w) is flight = due-run (Deaf w) is flight.1
  behind-runs (Hear w) is flight = due-run (Hear w) is flight.1
  behind-runs (Expire w) is flight = due-run (Expire w) is flight.1
  behind-runs (Clock to) is flight = due-run (Clock to) is flight.1
  behind-runs (Tick w) is flight = due-run (Tick w) is flight.1
  behind-runs (Step i) is flight = due-run (Step i) is flight.1
  behind-runs (Rest w method target body) is flight = due-run (Rest w method target body) is flight.1
  behind-runs (Held w) is flight = due-run (Held w) is flight.1
  behind-runs (Member w) is flight = due-run (Member w) is flight.1
  behind-runs (Take topic from) is flight = due-run (Take topic from) is flight.1
  behind-runs (Compact log) is flight = due-run (Compact log) is flight.1
