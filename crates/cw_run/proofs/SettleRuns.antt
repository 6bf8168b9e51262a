-- A cluster that settles makes a run: one turn behind the other.
use Rattle.std.proofs.Common.{ℕ, zero, suc, ◌==◌, ◌&&◌, ◌∷◌, [], Bool, true, false, List, Option, Some, None, is_none, nat_lt, Result, Ok, Err, length, if◌then◌else◌}
use Rattle.std.specs.List.{fold, range_with_len}
use Rattle.cw_model.specs.declared.fault.WorldFault.{WorldFault}
use Rattle.cw_model.specs.State.{Setting, Cluster}
use Rattle.cw_model.specs.Facts.{AreFacts}
use Rattle.cw_model.specs.Lookups.{row_of}
use Rattle.cw_run.specs.Ran.{Ran, RanAnswer, alone, ran_tick, ran_step}
use Rattle.cw_run.specs.Reaches.{Reaches}
use Rattle.cw_run.specs.Settling.{Settled, tick_moves, step_moves, behind_turn, takes, ticks, may_step, steps, all_tick, round, rounds, settled, settled_told, settles}
use Rattle.cw_run.proofs.Reaching.{stays, goes_on, reached-facts}
use Rattle.cw_run.proofs.StepRuns.{step-runs}
use Rattle.cw_run.proofs.TickRuns.{tick-runs}

module _ (setting : Setting) (s : Cluster) (f : AreFacts setting s) (most : ℕ) where
  -- how far it settled was reached
  abbrev At : Settled → Type 0
  At g = Reaches setting s g.ran.cluster

  facts-at : (g : Settled) → At g → AreFacts setting g.ran.cluster
  facts-at g at = reached-facts setting s g.ran.cluster at f

  takes-run : {A : Type 0} (there : Bool) (moves : A → Bool) (turn : RanAnswer A) (g : Settled) → At g → Reaches setting g.ran.cluster turn.1.cluster → At (takes most there moves turn g)
  takes-run {A} there moves turn g at runs = either (there && (nat_lt g.moved most && is_none g.refused)) where
    behind : (r : Result A WorldFault) → At (behind_turn moves r turn.1 g)
    behind (Ok x) = goes_on setting s g.ran.cluster turn.1.cluster at runs
    behind (Err fault) = goes_on setting s g.ran.cluster turn.1.cluster at runs

    either : (b : Bool) → At (if b then behind_turn moves turn.0 turn.1 g else g)
    either true = behind turn.0
    either false = at

  ticks-run : (g : Settled) (w : ℕ) → At g → At (ticks most g w)
  ticks-run g w at = takes-run (row_of w g.ran.cluster).live tick_moves (ran_tick w g.ran) g at (tick-runs setting g.ran.cluster (facts-at g at) w)

  steps-run : (g : Settled) (i : ℕ) → At g → At (steps setting most g i)
  steps-run g i at = takes-run (may_step i g.ran.cluster) step_moves (ran_step setting i g.ran) g at (step-runs setting i g.ran.cluster (facts-at g at))

  -- one turn behind the other
  all-run : (turn : Settled → ℕ → Settled) → ((g : Settled) (x : ℕ) → At g → At (turn g x)) → (xs : List ℕ) (g : Settled) → At g → At (fold turn g xs)
  all-run turn each [] g at = at
  all-run turn each (x ∷ xs) g at = all-run turn each xs (turn g x) (each g x at)

  round-runs : (g : Settled) → At g → At (round setting most g)
  round-runs g at =
      let ticked : Settled = all_tick most g in
      all-run (steps setting most) steps-run (range_with_len 0 (length ticked.ran.cluster.instances)) ticked
      (all-run (ticks most) ticks-run (range_with_len 0 (length g.ran.cluster.rows)) g at)

  rounds-run : (count : ℕ) (g : Settled) → At g → At (rounds setting most count g)
  unfolding rounds
  rounds-run zero g at = at
  rounds-run (suc count) g at = either ((round setting most g).moved == g.moved) (rounds-run count (round setting most g) (round-runs g at)) where
    either : (b : Bool) → At (rounds setting most count (round setting most g)) → At (if b then round setting most g else rounds setting most count (round setting most g))
    either true later = round-runs g at
    either false later = later

  pub settled-runs : (r : Ran) → Reaches setting s r.cluster → Reaches setting s (settled setting most r).ran.cluster
  settled-runs r at = rounds-run most (record { moved = 0; refused = None; ran = r }) at

  pub settles-runs : Reaches setting s (settles setting most s).1
  settles-runs = at (settled setting most (alone s)).refused where
    at : (refused : Option WorldFault) → Reaches setting s (settled_told setting refused (settled setting most (alone s))).1
    at None = settled-runs (alone s) (stays setting s)
    at (Some fault) = settled-runs (alone s) (stays setting s)
