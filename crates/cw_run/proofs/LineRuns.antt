-- What a directive does is a run, and so is what a line does.
use Rattle.std.proofs.Common.{◌≡◌, ℕ, ◌+◌, ◌<◌, ◌^◌, ◌==◌, ◌∷◌, [], Bool, true, false, List, Option, Some, None, Result, Ok, Err, nat_lt, length, map, if◌then◌else◌, refl, sym, subst, ap, arith}
use Rattle.std.specs.List.{AllByRecursion, IsDistinct}
use Rattle.std.proofs.lemmas.List.Elements.{All-from_recursion}
use Rattle.std.proofs.lemmas.List.{length-map}
use Rattle.cw_types.specs.declared.logs.LogName.{LogName}
use Rattle.cw_types.specs.declared.logs.LogName.TheVariants as log
use Rattle.cw_script.specs.declared.directive.Directive.{Directive}
use Rattle.cw_script.specs.declared.directive.Directive.TheVariants.{Init, Commit, Spawn, Kill, Deaf, Hear, Expire, Clock, Tick, Step, Settle, Rest, Held, Member, Take, Compact}
use Rattle.cw_script.specs.declared.directive.PartEnd.{PartEnd}
use Rattle.cw_script.specs.declared.fault.LineKind.{LineKind}
use Rattle.cw_script.specs.Lines.{line_of}
use Rattle.cw_script.specs.Spelling.{IsSayable, IsCommit, IsCompacted, PairFits}
use Rattle.cw_script.proofs.Sayable.{line_sayable}
use Rattle.cw_route.specs.Calls as routes
use Rattle.cw_route.specs.HeldNames.{HoldsName}
use Rattle.cw_route.proofs.Named.{call-named}
use Rattle.cw_route.specs.declared.call.Call.{Call}
use Rattle.cw_route.specs.declared.call.RouteFault.{RouteFault}
use Rattle.cw_model.specs.State.{Setting, Cluster}
use Rattle.cw_model.specs.Facts.{AreFacts}
use Rattle.cw_model.specs.EventsRaw.{MayRawCommit}
use Rattle.cw_model.specs.EventsCompaction.{MayCompact}
use Rattle.cw_model.specs.Runs as step
use Rattle.cw_edges.specs.Requests.{call_or, call_of}
use Rattle.cw_lines.specs.declared.end.DriveEnd.{DriveEnd}
use Rattle.cw_lines.specs.declared.end.DriveEnd.TheVariants as ends
use Rattle.cw_lines.specs.Plays as plays
use Rattle.cw_lines.specs.Plays.{Played, within_limits, most_lines, most_bytes}
use Rattle.cw_run.specs.Answers.{Told, pair_of}
use Rattle.cw_run.specs.Directives.{does}
use Rattle.cw_run.specs.Reaches.{Reaches, HaveNames}
use Rattle.cw_run.specs.Run.{missing, played, play_unless, play_said, play_line}
use Rattle.cw_run.proofs.BodyTexts.{call-written}
use Rattle.cw_run.proofs.Reaching.{stays, makes}
use Rattle.cw_run.proofs.RequestRuns.{answers-run}
use Rattle.cw_run.proofs.SettleRuns.{settles-runs}
use Rattle.cw_run.proofs.StepRuns.{step-runs}
use Rattle.cw_run.proofs.TickRuns.{tick-runs}

-- ---- directives

-- a request that is a call names a connector
held : (result : Result Call RouteFault) → ((call : Call) → result ≡ Ok call → HoldsName call) → HoldsName (call_or result)
held (Ok call) named = named call refl
held (Err fault) named = tt

pub request-named : (method target body : List ℕ) → HoldsName (call_of method target body)
request-named method target body = held (routes.call_of method target body) (call-named method target body)

-- the parts of a commit
parts-same : (pairs : List PartEnd) → map (λ (p : ℕ × ℕ). p.0) (map pair_of pairs) ≡ map (λ (pair : PartEnd). pair.part) pairs
parts-same [] = refl
parts-same (p ∷ pairs) = ap (λ (l : List ℕ). p.part ∷ l) (parts-same pairs)

each-fits : (pairs : List PartEnd) → AllByRecursion PairFits pairs → AllByRecursion (λ (p : ℕ × ℕ). p.0 < 2 ^ 32) (map pair_of pairs)
each-fits [] fit = tt
each-fits (p ∷ pairs) fit = (fit.0.part, each-fits pairs fit.1)

each-ends : (pairs : List PartEnd) → AllByRecursion PairFits pairs → AllByRecursion (λ (p : ℕ × ℕ). p.1 < 2 ^ 64) (map pair_of pairs)
each-ends [] fit = tt
each-ends (p ∷ pairs) fit = (fit.0.to, each-ends pairs fit.1)

pub pairs-may : (n epoch : ℕ) (pairs : List PartEnd) → IsCommit n epoch pairs → MayRawCommit n (map pair_of pairs)
pairs-may n epoch pairs is = record {
  some = omega (arith, is.named.some, length-map pairs pair_of);
  few = omega (arith, is.named.few, length-map pairs pair_of);
  distinct = subst (λ (l : List ℕ). IsDistinct (λ a b. a == b) l) (sym (parts-same pairs)) is.named.distinct;
  producer = is.id_fits;
  parts = All-from_recursion (λ (p : ℕ × ℕ). p.0 < 2 ^ 32) (map pair_of pairs) (each-fits pairs is.numbers_fit);
  ends = All-from_recursion (λ (p : ℕ × ℕ). p.1 < 2 ^ 64) (map pair_of pairs) (each-ends pairs is.numbers_fit);
}

compacts-may : (name : LogName) → IsCompacted name → MayCompact name
compacts-may log.Config is = tt
compacts-may log.Offsets is = tt
compacts-may log.Status is = tt
compacts-may log.Txn is = absurd is
compacts-may log.Batches is = absurd is

module _ (setting : Setting) (feeds : HaveNames setting) where
  pub directive-runs : (d : Directive) → IsSayable d → (s : Cluster) → AreFacts setting s → Reaches setting s (does setting d s).1
  directive-runs (Init n) is s f = makes setting s (step.raw_init n) is
  directive-runs (Commit n epoch pairs) is s f = makes setting s (step.raw_commit n (record { 0 = epoch }) (map pair_of pairs)) (pairs-may n epoch pairs is)
  directive-runs Spawn is s f = makes setting s step.spawn tt
  directive-runs (Kill w) is s f = makes setting s (step.kill w) tt
  directive-runs (Deaf w) is s f = makes setting s (step.deaf w) tt
  directive-runs (Hear w) is s f = makes setting s (step.hear w) tt
  directive-runs (Expire w) is s f = makes setting s (step.expire w) tt
  directive-runs (Clock to) is s f = makes setting s (step.clock to) tt
  directive-runs (Tick w) is s f = tick-runs setting s f w
  directive-runs (Step i) is s f = step-runs setting i s f
  directive-runs (Settle most) is s f = settles-runs setting s f most
  directive-runs (Rest w method target body) is s f =
      answers-run setting s f w (call_of method target body) (request-named method target body) (call-written (call_of method target body) (request-named method target body)) feeds
  directive-runs (Held w) is s f = stays setting s
  directive-runs (Member w) is s f = stays setting s
  directive-runs (Take topic from) is s f = stays setting s
  directive-runs (Compact name) is s f = makes setting s (step.compact name) (compacts-may name is)

  -- ---- lines

  played-state : (result : Result (List ℕ) DriveEnd) (s : Cluster) → (played result s).store ≡ s
  played-state (Ok text) s = refl
  played-state (Err end) s = refl

  unless-runs : (number : ℕ) (o : Option LineKind) (d : Directive) → IsSayable d → (s : Cluster) → AreFacts setting s → Reaches setting s (play_unless setting number o d s).store
  unless-runs number (Some kind) d is s f = stays setting s
  unless-runs number None d is s f = let told : Told = does setting d s in subst (Reaches setting s) (sym (played-state told.0 told.1)) (directive-runs d is s f)

  said-runs : (number : ℕ) (result : Result (Option Directive) LineKind) → ((d : Directive) → result ≡ Ok (Some d) → IsSayable d) → (s : Cluster) → AreFacts setting s →
      Reaches setting s (play_said setting number result s).store
  said-runs number (Ok None) is s f = stays setting s
  said-runs number (Ok (Some d)) is s f = unless-runs number (missing d s) d (is d refl) s f
  said-runs number (Err kind) is s f = stays setting s

  pub line-runs : (number : ℕ) (line : List ℕ) (s : Cluster) → AreFacts setting s → Reaches setting s (play_line setting number line s).store
  line-runs number line s f = limits (nat_lt most_lines number) (nat_lt most_bytes (length line)) where
    runs : Reaches setting s (play_said setting number (line_of line) s).store
    runs = said-runs number (line_of line) (λ d is. line_sayable line d is) s f

    within : (b : Bool) → Reaches setting s (if b then plays.stopped (ends.TooLong (most_bytes + 1)) s else play_said setting number (line_of line) s).store
    within true = stays setting s
    within false = runs

    limits : (a b : Bool) → Reaches setting s (if a then plays.stopped (ends.TooLong (most_lines + 1)) s else if b then plays.stopped (ends.TooLong (most_bytes + 1)) s else play_said setting number (line_of line) s).store
    limits true b = stays setting s
    limits false b = within b
