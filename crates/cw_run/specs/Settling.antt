-- A cluster settles: workers tick and instances step in turns, until nothing moves any more or enough has moved. Kafka
-- Connect's workers do so by themselves; that a script has them take turns is this project's own.
use Rattle.std.specs.Prelude.{ℕ, zero, suc, ◌+◌, ◌==◌, ◌&&◌, ◌||◌, Bool, true, false, not, List, [], ◌∷◌, length}
use Rattle.std.specs.Prelude.{nat_lt, Option, Some, None, is_none, Result, Ok, Err, codes, decimal, if◌then◌else◌}
use Rattle.std.specs.List.{fold, list_all, range_with_len}
use Rattle.cw_model.specs.declared.did.Did.{Did}
use Rattle.cw_model.specs.declared.did.Did.TheVariants as did
use Rattle.cw_model.specs.declared.fault.WorldFault.{WorldFault}
use Rattle.cw_model.specs.declared.tick.Tick.{Tick}
use Rattle.cw_model.specs.declared.tick.Tick.TheVariants as outcome
use Rattle.cw_model.specs.State.{Setting, Cluster}
use Rattle.cw_model.specs.EventsItems.{is_active}
use Rattle.cw_model.specs.Lookups.{row_of, instance_of}
use Rattle.cw_model.specs.Phases.{has_failed, is_ended}
use Rattle.cw_model.specs.Steps.{step}
use Rattle.cw_model.specs.Tick.{rule_for}
use Rattle.cw_run.specs.Answers.{Told, says, refusal}
use Rattle.cw_run.specs.Ran.{Ran, RanAnswer, alone, ran_tick, ran_step}

-- ---- turns

-- how far it settled: how often something moved, what refused to, and how far it ran
pub record Settled : Type 0 where
  pub moved : ℕ
  pub refused : Option WorldFault
  pub ran : Ran

-- whether a tick moved something
abbrev pub tick_moves : Tick → Bool
tick_moves outcome.Idle = false
tick_moves _ = true

-- whether a step did: it didn't where the task has nothing to take, or has to wait
abbrev pub step_moves : Did → Bool
step_moves did.AtEnd = false
step_moves did.Paused = false
step_moves (did.Stale own current) = false
step_moves did.Pending = false
step_moves _ = true

-- behind a turn
abbrev pub behind_turn : {A : Type 0} → (A → Bool) → Result A WorldFault → Ran → Settled → Settled
behind_turn moves (Ok x) t g = record { moved = if moves x then g.moved + 1 else g.moved; refused = None; ran = t }
behind_turn moves (Err fault) t g = record { moved = g.moved; refused = Some fault; ran = t }

-- a turn is taken, unless enough has moved, something refused, or there is none to take
abbrev pub takes : {A : Type 0} → (most : ℕ) → Bool → (A → Bool) → RanAnswer A → Settled → Settled
takes most there moves turn g =
    if there && (nat_lt g.moved most && is_none g.refused) then behind_turn moves turn.0 turn.1 g else g

-- a worker ticks, unless it was killed
abbrev pub ticks : (most : ℕ) → Settled → ℕ → Settled
ticks most g w = takes most (row_of w g.ran.cluster).live tick_moves (ran_tick w g.ran) g

-- whether an instance steps: it neither ended nor failed
abbrev pub may_step : ℕ → Cluster → Bool
may_step i s = not (is_ended (instance_of i s).phase || has_failed (instance_of i s).phase)

-- an instance steps
abbrev pub steps : Setting → (most : ℕ) → Settled → ℕ → Settled
steps setting most g i = takes most (may_step i g.ran.cluster) step_moves (ran_step setting i g.ran) g

-- ---- rounds

-- each worker ticks once
abbrev pub all_tick : (most : ℕ) → Settled → Settled
all_tick most g = fold (ticks most) g (range_with_len 0 (length g.ran.cluster.rows))

-- then each instance steps once, with those that the ticks began
abbrev pub all_step : Setting → (most : ℕ) → Settled → Settled
all_step setting most g = fold (steps setting most) g (range_with_len 0 (length g.ran.cluster.instances))

-- a round
abbrev pub round : Setting → (most : ℕ) → Settled → Settled
round setting most g = all_step setting most (all_tick most g)

-- rounds go on as long as something moves, and at most so many
unfoldable pub rounds : Setting → (most count : ℕ) → Settled → Settled
rounds setting most zero g = g
rounds setting most (suc count) g =
    let next = round setting most g in if next.moved == g.moved then next else rounds setting most count next

-- a cluster settles, and something moves at most so many times
abbrev pub settled : Setting → (most : ℕ) → Ran → Settled
settled setting most r = rounds setting most most (record { moved = 0; refused = None; ran = r })

-- ---- the answer

-- whether a step found nothing to do
abbrev pub is_rest : Result Did WorldFault → Bool
is_rest (Ok did.AtEnd) = true
is_rest (Ok did.Paused) = true
is_rest (Ok did.Failed) = true
is_rest (Ok did.Gone) = true
is_rest _ = false

-- whether a cluster is quiet: each worker that takes part is idle, and each instance is at its end, paused or failed
abbrev pub is_quiet : Setting → Cluster → Bool
is_quiet setting s =
    list_all (λ w. not (is_active s w) || is_none (rule_for w s)) (range_with_len 0 (length s.rows)) &&
    list_all (λ i. is_rest (step setting i s).0) (range_with_len 0 (length s.instances))

-- how it settled
abbrev pub quiet_text : Bool → List ℕ
quiet_text true = codes "quiet"
quiet_text false = codes "unquiet"

-- how often something moved, and whether it is quiet now
abbrev pub settled_told : Setting → Option WorldFault → Settled → Told
settled_told setting None g =
    says (quiet_text (is_quiet setting g.ran.cluster) ∷ decimal g.moved ∷ []) g.ran.cluster
settled_told setting (Some fault) g = (refusal 0 fault, g.ran.cluster)

abbrev pub settles : Setting → (most : ℕ) → Cluster → Told
settles setting most s = let g = settled setting most (alone s) in settled_told setting g.refused g
