-- A cluster settles as it does alone, whatever files its sinks' tasks fill, and whether the logs tell stays.
use Rattle.std.proofs.Common.{◌≡◌, ℕ, zero, suc, ◌==◌, ◌&&◌, Bool, true, false, List, [], ◌∷◌, Option, Some, None, is_none, nat_lt, length, Result, Ok, Err, if◌then◌else◌, refl, sym, ap, ◌∙◌}
use Rattle.std.specs.List.{fold, range_with_len}
use Rattle.cw_script.specs.declared.directive.Directive.TheVariants.{Settle}
use Rattle.cw_model.specs.declared.fault.WorldFault.{WorldFault}
use Rattle.cw_model.specs.State.{Setting, Cluster}
use Rattle.cw_model.specs.Lookups.{row_of}
use Rattle.cw_run.specs.Amid.{ran_behind}
use Rattle.cw_run.specs.Ran.{Ran, RanAnswer, alone, ran_tick, ran_step}
use Rattle.cw_run.specs.Settling.{Settled, tick_moves, step_moves, behind_turn, takes, ticks, may_step, steps, all_tick, all_step, round, rounds, settled, settled_told, settles}

-- how far it settled, of the cluster alone
abbrev pub settled_alone : Settled → Settled
settled_alone g = record g { ran = alone g.ran.cluster }

takes-alone : {A : Type 0} (most : ℕ) (there : Bool) (moves : A → Bool) (turn : RanAnswer A) (g : Settled) →
    settled_alone (takes most there moves turn g) ≡ takes most there moves (turn.0, alone turn.1.cluster) (settled_alone g)
takes-alone {A} most there moves turn g = either (there && (nat_lt g.moved most && is_none g.refused)) where
  behind : (r : Result A WorldFault) → settled_alone (behind_turn moves r turn.1 g) ≡ behind_turn moves r (alone turn.1.cluster) (settled_alone g)
  behind (Ok x) = refl
  behind (Err fault) = refl

  either : (b : Bool) → settled_alone (if b then behind_turn moves turn.0 turn.1 g else g) ≡ (if b then behind_turn moves turn.0 (alone turn.1.cluster) (settled_alone g) else settled_alone g)
  either true = behind turn.0
  either false = refl

fold-alone : (turn : Settled → ℕ → Settled) → ((g : Settled) (x : ℕ) → settled_alone (turn g x) ≡ turn (settled_alone g) x) → (xs : List ℕ) (g : Settled) →
    settled_alone (fold turn g xs) ≡ fold turn (settled_alone g) xs
fold-alone turn each [] g = refl
fold-alone turn each (x ∷ xs) g = fold-alone turn each xs (turn g x) ∙ ap (λ (h : Settled). fold turn h xs) (each g x)

module _ (setting : Setting) (most : ℕ) where
  ticks-alone : (g : Settled) (w : ℕ) → settled_alone (ticks most g w) ≡ ticks most (settled_alone g) w
  ticks-alone g w = takes-alone most (row_of w g.ran.cluster).live tick_moves (ran_tick w g.ran) g

  steps-alone : (g : Settled) (i : ℕ) → settled_alone (steps setting most g i) ≡ steps setting most (settled_alone g) i
  steps-alone g i = takes-alone most (may_step i g.ran.cluster) step_moves (ran_step setting i g.ran) g

  round-alone : (g : Settled) → settled_alone (round setting most g) ≡ round setting most (settled_alone g)
  round-alone g =
      let ticked : Settled = all_tick most g in
      fold-alone (steps setting most) steps-alone (range_with_len 0 (length ticked.ran.cluster.instances)) ticked
      ∙ ap (all_step setting most) (fold-alone (ticks most) ticks-alone (range_with_len 0 (length g.ran.cluster.rows)) g)

  rounds-alone : (count : ℕ) (g : Settled) → settled_alone (rounds setting most count g) ≡ rounds setting most count (settled_alone g)
  unfolding rounds
  rounds-alone zero g = refl
  rounds-alone (suc count) g =
      either (next.moved == g.moved) (rounds-alone count next)
      ∙ ap (λ (n : Settled). if n.moved == g.moved then n else rounds setting most count n) (round-alone g) where
        next : Settled
        next = round setting most g

        either : (b : Bool) → settled_alone (rounds setting most count next) ≡ rounds setting most count (settled_alone next) →
            settled_alone (if b then next else rounds setting most count next) ≡ (if b then settled_alone next else rounds setting most count (settled_alone next))
        either true later = refl
        either false later = later

  -- how often something moves, what refuses and the cluster are those of the cluster alone
  pub settles-alone : (r : Ran) → settled_alone (settled setting most r) ≡ settled setting most (alone r.cluster)
  settles-alone r = rounds-alone most (record { moved = 0; refused = None; ran = r })

  -- ---- whether the logs tell

  module _ (tells : Bool) where
    abbrev Keeps : Settled → Type 0
    Keeps g = g.ran.tells ≡ tells

    takes-keeps : {A : Type 0} (there : Bool) (moves : A → Bool) (turn : RanAnswer A) (g : Settled) → turn.1.tells ≡ tells → Keeps g → Keeps (takes most there moves turn g)
    takes-keeps {A} there moves turn g next now = either (there && (nat_lt g.moved most && is_none g.refused)) where
      behind : (r : Result A WorldFault) → Keeps (behind_turn moves r turn.1 g)
      behind (Ok x) = next
      behind (Err fault) = next

      either : (b : Bool) → Keeps (if b then behind_turn moves turn.0 turn.1 g else g)
      either true = behind turn.0
      either false = now

    fold-keeps : (turn : Settled → ℕ → Settled) → ((g : Settled) (x : ℕ) → Keeps g → Keeps (turn g x)) → (xs : List ℕ) (g : Settled) → Keeps g → Keeps (fold turn g xs)
    fold-keeps turn each [] g now = now
    fold-keeps turn each (x ∷ xs) g now = fold-keeps turn each xs (turn g x) (each g x now)

    round-keeps : (g : Settled) → Keeps g → Keeps (round setting most g)
    round-keeps g now =
        let ticked : Settled = all_tick most g in
        fold-keeps (steps setting most) (λ h i is. takes-keeps (may_step i h.ran.cluster) step_moves (ran_step setting i h.ran) h is is) (range_with_len 0 (length ticked.ran.cluster.instances)) ticked
        (fold-keeps (ticks most) (λ h w is. takes-keeps (row_of w h.ran.cluster).live tick_moves (ran_tick w h.ran) h is is) (range_with_len 0 (length g.ran.cluster.rows)) g now)

    rounds-keeps : (count : ℕ) (g : Settled) → Keeps g → Keeps (rounds setting most count g)
    unfolding rounds
    rounds-keeps zero g now = now
    rounds-keeps (suc count) g now = either ((round setting most g).moved == g.moved) (rounds-keeps count (round setting most g) (round-keeps g now)) where
      either : (b : Bool) → Keeps (rounds setting most count (round setting most g)) → Keeps (if b then round setting most g else rounds setting most count (round setting most g))
      either true later = round-keeps g now
      either false later = later

  pub settles-tells : (r : Ran) → (settled setting most r).ran.tells ≡ r.tells
  settles-tells r = rounds-keeps r.tells most (record { moved = 0; refused = None; ran = r }) refl

  -- ---- behind the directive

  told-cluster : (o : Option WorldFault) (g : Settled) → (settled_told setting o g).1 ≡ g.ran.cluster
  told-cluster None g = refl
  told-cluster (Some fault) g = refl

  -- the cluster is the same
  pub settles-cluster : (r : Ran) → (settles setting most r.cluster).1 ≡ (settled setting most r).ran.cluster
  settles-cluster r =
      let g : Settled = settled setting most (alone r.cluster) in
      told-cluster g.refused g ∙ sym (ap (λ (h : Settled). h.ran.cluster) (settles-alone r))

  pub settles-behind : (r : Ran) → (settled setting most r).ran ≡ ran_behind setting (Settle most) r
  settles-behind r =
      let t : Ran = (settled setting most r).ran in
      ap (λ (b : Bool). record t { tells = b }) (settles-tells r) ∙ ap (λ (s : Cluster). record { cluster = s; files = t.files; tells = r.tells }) (sym (settles-cluster r))
