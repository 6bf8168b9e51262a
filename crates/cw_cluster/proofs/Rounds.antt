-- Rounds of turns, until one moves nothing: how far they lead, and in what state they are left.
use Rattle.std.proofs.Common.{◌≡◌, ◌≢◌, ◌⊎◌, inl, inr, ◌≤◌, ◌+◌, ◌-◌, ◌==◌, ◌&&◌, ℕ, zero, suc, Bool, true, false, List, [], ◌∷◌, is_none, nat_lt, Result, Ok, Err, length, if◌then◌else◌, refl, sym, ap, ◌∙◌, arith}
use Rattle.std.specs.List.{fold, range_with_len}
use Rattle.std.proofs.lemmas.Bool.{ne_eqb, eqb-false}
use Rattle.std.proofs.lemmas.Bool.Decides.{eqb_tells}
use Rattle.cw_model.specs.declared.fault.WorldFault.{WorldFault}
use Rattle.cw_model.specs.State.{Setting, Cluster}
use Rattle.cw_model.specs.Lookups.{row_of}
use Rattle.cw_run.specs.Amid.{IsHalfSettled, IsCutSettling}
use Rattle.cw_run.specs.Ran.{Ran, RanAnswer, ran_tick, ran_step}
use Rattle.cw_run.specs.Settling.{Settled, tick_moves, step_moves, behind_turn, takes, ticks, may_step, steps, all_tick, all_step, round, rounds, settled}
use Rattle.cw_cluster.specs.declared.turn.TurnFault.{TurnFault}
use Rattle.cw_cluster.specs.declared.turn.TurnFault.TheVariants as halt
use Rattle.cw_cluster.specs.Turning.{Turns, moved_to, LeadsTo, none_left, IsStage, IsCutStage, Stops, HasSettled}
use Rattle.cw_cluster.proofs.Turns.{IsOver, over-enough, AreIdle, idle-round, leads-then, stops-then}

-- ---- what has moved stays moved

takes-rises : {A : Type 0} (k : ℕ) (there : Bool) (moves : A → Bool) (turn : RanAnswer A) (g : Settled) → g.moved ≤ (takes k there moves turn g).moved
takes-rises {A} k there moves turn g = either (there && (nat_lt g.moved k && is_none g.refused)) where
  counted : (b : Bool) → g.moved ≤ (if b then g.moved + 1 else g.moved)
  counted true = omega arith
  counted false = omega arith

  behind : (r : Result A WorldFault) → g.moved ≤ (behind_turn moves r turn.1 g).moved
  behind (Ok x) = counted (moves x)
  behind (Err fault) = omega arith

  either : (b : Bool) → g.moved ≤ (if b then behind_turn moves turn.0 turn.1 g else g).moved
  either true = behind turn.0
  either false = omega arith

fold-rises : (turn : Settled → ℕ → Settled) → ((g : Settled) (x : ℕ) → g.moved ≤ (turn g x).moved) → (xs : List ℕ) (g : Settled) → g.moved ≤ (fold turn g xs).moved
fold-rises turn each [] g = omega arith
fold-rises turn each (x ∷ xs) g = omega (arith, each g x, fold-rises turn each xs (turn g x))

round-rises : (setting : Setting) (k : ℕ) (g : Settled) → g.moved ≤ (round setting k g).moved
round-rises setting k g =
    let mid : Settled = all_tick k g in
    let first : g.moved ≤ mid.moved = fold-rises (ticks k) (λ h w. takes-rises k (row_of w h.ran.cluster).live tick_moves (ran_tick w h.ran) h) (range_with_len 0 (length g.ran.cluster.rows)) g in
    let second : mid.moved ≤ (all_step setting k mid).moved = fold-rises (steps setting k) (λ h i. takes-rises k (may_step i h.ran.cluster) step_moves (ran_step setting i h.ran) h) (range_with_len 0 (length mid.ran.cluster.instances)) mid in
    omega (arith, first, second)

-- ---- rounds

eqb-same : (n : ℕ) → (n == n) ≡ true
eqb-same n = either (eqb_tells n n) where
  either : ((n == n) ≡ true) × (n ≡ n) ⊎ ((n == n) ≡ false) × (n ≢ n) → (n == n) ≡ true
  either (inl same) = same.0
  either (inr other) = absurd (other.1 refl)

module _ (setting : Setting) where
  -- as many rounds as something may move yet
  abbrev pub rounds_left : Turns
  rounds_left k g = rounds setting k (k - g.moved) g

  -- what is left behind a round that began where so much had moved
  abbrev pub rounds_behind : ℕ → Turns
  rounds_behind moved k next = if next.moved == moved then next else rounds setting k (k - next.moved) next

  -- all rounds
  abbrev pub all_rounds : Turns
  all_rounds k g = rounds setting k k g

  rounds-over : (k c : ℕ) (g : Settled) → IsOver k g → rounds setting k c g ≡ g
  unfolding rounds
  rounds-over k zero g over = refl
  rounds-over k (suc c) g over =
      ap (λ (next : Settled). if next.moved == g.moved then next else rounds setting k c next) ((idle-round setting).over k g over)
      ∙ ap (λ (b : Bool). if b then g else rounds setting k c g) (eqb-same g.moved)

  -- more rounds than may move something change nothing
  rounds-count : (k c d : ℕ) (g : Settled) → k ≤ c + g.moved → k ≤ d + g.moved → rounds setting k c g ≡ rounds setting k d g
  unfolding rounds
  rounds-count k zero d g one two = sym (rounds-over k d g (over-enough k g (omega arith)))
  rounds-count k (suc c) zero g one two = rounds-over k (suc c) g (over-enough k g (omega arith))
  rounds-count k (suc c) (suc d) g one two =
      either ((round setting k g).moved == g.moved) (λ differ. rounds-count k c d (round setting k g) (omega (arith, rises differ)) (omega (arith, rises differ))) refl where
        rises : ((round setting k g).moved == g.moved) ≡ false → g.moved + 1 ≤ (round setting k g).moved
        rises differ =
            let low : g.moved ≤ (round setting k g).moved = round-rises setting k g in
            let other : (round setting k g).moved ≡ g.moved → ⊥ = eqb-false (round setting k g).moved g.moved differ in
            omega (arith, low, other)

        either : (b : Bool) → (((round setting k g).moved == g.moved) ≡ false → rounds setting k c (round setting k g) ≡ rounds setting k d (round setting k g)) → ((round setting k g).moved == g.moved) ≡ b →
            (if b then round setting k g else rounds setting k c (round setting k g)) ≡ (if b then round setting k g else rounds setting k d (round setting k g))
        either true later is = refl
        either false later is = later is

  rounds-split : (moved : ℕ) (u : Ran) (k : ℕ) → moved ≤ k → rounds_left k (moved_to moved u) ≡ rounds_behind moved k (round setting k (moved_to moved u))
  unfolding rounds
  rounds-split moved u k low = at (k - moved) refl where
    next : Settled
    next = round setting k (moved_to moved u)

    either : (c : ℕ) → k - moved ≡ suc c → (b : Bool) → (next.moved == moved) ≡ b → (if b then next else rounds setting k c next) ≡ (if b then next else rounds setting k (k - next.moved) next)
    either c is true same = refl
    either c is false differ =
        let rises : moved ≤ next.moved = round-rises setting k (moved_to moved u) in
        let other : next.moved ≡ moved → ⊥ = eqb-false next.moved moved differ in
        rounds-count k c (k - next.moved) next (omega (arith, rises, other)) (omega arith)

    at : (c : ℕ) → k - moved ≡ c → rounds setting k c (moved_to moved u) ≡ rounds_behind moved k next
    at zero is =
        let over : IsOver k (moved_to moved u) = over-enough k (moved_to moved u) (omega arith) in
        let same : next ≡ moved_to moved u = (idle-round setting).over k (moved_to moved u) over in
        sym (ap (rounds_behind moved k) same ∙ ap (λ (b : Bool). if b then moved_to moved u else rounds setting k (k - moved) (moved_to moved u)) (eqb-same moved))
    at (suc c) is = either c is (next.moved == moved) refl

  idle-rounds_behind : (moved : ℕ) → AreIdle (rounds_behind moved)
  idle-rounds_behind moved = record { over = λ k g is. either k g is (g.moved == moved) } where
    either : (k : ℕ) (g : Settled) → IsOver k g → (b : Bool) → (if b then g else rounds setting k (k - g.moved) g) ≡ g
    either k g is true = refl
    either k g is false = rounds-over k (k - g.moved) g is

  -- ---- a cluster settles

  module _ (most : ℕ) (s : Ran) where
    -- how far it has settled behind some rounds
    abbrev pub SettlesTo : ℕ → Ran → Type 0
    SettlesTo moved u = LeadsTo all_rounds rounds_left most 0 s moved u

    pub settles-none : SettlesTo 0 s
    settles-none = record { rises = omega arith; within = omega arith; same = λ k low high. ap (λ (c : ℕ). rounds setting k c (moved_to 0 s)) (let same : k ≡ k - 0 = omega arith in same) }

    module _ (moved : ℕ) (u : Ran) (so_far : SettlesTo moved u) where
      behind : (to : ℕ) (t : Ran) → LeadsTo (round setting) none_left most moved u to t → LeadsTo all_rounds (rounds_behind moved) most 0 s to t
      behind to t next = leads-then all_rounds rounds_left (round setting) (rounds_behind moved) most 0 s moved u so_far (λ k low high. rounds-split moved u k low) to t next

      pub settles-next : (to : ℕ) (t : Ran) → LeadsTo (round setting) none_left most moved u to t → (to ≡ moved → ⊥) → SettlesTo to t
      settles-next to t next differ =
          let led = behind to t next in
          record {
            rises = omega arith;
            within = next.within;
            same = λ k low high. led.same k low high ∙ ap (λ (b : Bool). if b then moved_to to t else rounds setting k (k - to) (moved_to to t)) (ne_eqb to moved differ);
          }

      pub settles-done : (to : ℕ) (t : Ran) → LeadsTo (round setting) none_left most moved u to t → to ≡ moved → HasSettled setting most s t to
      settles-done to t next same =
          let led = behind to t next in
          let ends : settled setting most s ≡ moved_to to t =
          led.same most next.within (omega arith) ∙ ap (λ (b : Bool). if b then moved_to to t else rounds setting most (most - to) (moved_to to t)) (ap (λ (n : ℕ). n == moved) same ∙ eqb-same moved) in
          record {
            ran = sym (ap (λ (g : Settled). g.ran) ends);
            count = sym (ap (λ (g : Settled). g.moved) ends);
            refused = ap (λ (g : Settled). g.refused) ends;
          }

      amid : (t : Ran) → IsStage all_rounds most 0 s t → IsHalfSettled setting most s t
      amid t stage = record { moved = stage.moved; fewer = stage.within; is = sym (ap (λ (g : Settled). g.ran) stage.is) }

      amid-cut : (t : Ran) → IsCutStage setting all_rounds most 0 s t → IsCutSettling setting most s t
      amid-cut t stage = record {
        moved = stage.moved;
        fewer = stage.within;
        at = stage.at;
        is = sym (ap (λ (g : Settled). g.ran) stage.is);
        instance = stage.instance;
        cut = stage.cut;
        next = λ held told opened. sym (ap (λ (g : Settled). g.ran) (stage.next held told opened));
      }

      all-stop : (broken : Ran → Cluster → Type 0) (t : Ran) (fault : TurnFault) → Stops broken setting (settled setting most s) (IsStage all_rounds most 0 s) (IsCutStage setting all_rounds most 0 s) t fault
          → Stops broken setting (settled setting most s) (IsHalfSettled setting most s) (IsCutSettling setting most s) t fault
      all-stop broken t (halt.Refused fault) is = is
      all-stop broken t halt.Memory is = amid t is
      all-stop broken t (halt.Store disk count) is = record { at = is.at; next = is.next; came = amid is.at is.came; turn = is.turn; left = is.left }
      all-stop broken t halt.Outlet is = amid-cut t is

      pub settles-stop : (broken : Ran → Cluster → Type 0) (t : Ran) (fault : TurnFault) → Stops broken setting (round setting most (moved_to moved u)) (IsStage (round setting) most moved u) (IsCutStage setting (round setting) most moved u) t fault
          → Stops broken setting (settled setting most s) (IsHalfSettled setting most s) (IsCutSettling setting most s) t fault
      settles-stop broken t fault is =
          all-stop broken t fault (stops-then all_rounds rounds_left (round setting) (rounds_behind moved) most 0 s moved u so_far (λ k low high. rounds-split moved u k low)
          broken setting t fault (idle-rounds_behind moved) is)
