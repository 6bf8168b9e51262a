-- Turns that are taken one by one: how far they lead, and in what state they are left.
use Rattle.std.proofs.Common.{◌≡◌, ◌≤◌, ◌<◌, ◌+◌, ◌-◌, ◌&&◌, ℕ, suc, Bool, true, false, List, [], ◌∷◌, Option, Some, is_none, nat_lt, Result, Ok, Err, length, if◌then◌else◌, refl, sym, ap, subst, ◌∙◌, arith}
use Rattle.std.specs.List.{fold, list_all, range_with_len}
use Rattle.std.proofs.lemmas.Bool.{le-ltb, lt-ltb, ltb-true, ltb-false}
use Rattle.cw_model.specs.declared.did.Did.{Did}
use Rattle.cw_model.specs.declared.fault.WorldFault.{WorldFault}
use Rattle.cw_model.specs.State.{Setting, Cluster}
use Rattle.cw_model.specs.Lookups.{row_of}
use Rattle.cw_run.specs.Flight.{IsBehindTurn}
use Rattle.cw_run.specs.Ran.{Ran, RanAnswer, ran_tick, ran_step, IsCutIn}
use Rattle.cw_run.specs.Settling.{Settled, tick_moves, step_moves, behind_turn, takes, ticks, may_step, steps, all_tick, all_step, round}
use Rattle.cw_run.proofs.Deliveries.{IsStillRan, open-deliver}
use Rattle.cw_cluster.specs.declared.turn.TurnFault.{TurnFault}
use Rattle.cw_cluster.specs.declared.turn.TurnFault.TheVariants as halt
use Rattle.cw_cluster.specs.Turning.{IsTurn, Turns, moved_to, LeadsTo, none_left, IsStage, IsCutStage, IsRefused, Stops, TakesTurns, tick_each, steps_of, step_each}

-- ---- where no turn is taken any more

-- enough has moved, or something refused
abbrev pub IsOver : ℕ → Settled → Type 0
IsOver k g = (nat_lt g.moved k && is_none g.refused) ≡ false

pub over-enough : (k : ℕ) (g : Settled) → k ≤ g.moved → IsOver k g
over-enough k g enough = ap (λ (b : Bool). b && is_none g.refused) (le-ltb g.moved k enough)

and-none : (b : Bool) → (b && false) ≡ false
and-none true = refl
and-none false = refl

pub over-refused : (k : ℕ) (g : Settled) (fault : WorldFault) → g.refused ≡ Some fault → IsOver k g
over-refused k g fault is = ap (λ (r : Option WorldFault). nat_lt g.moved k && is_none r) is ∙ and-none (nat_lt g.moved k)

-- then these turns are not taken
pub record AreIdle (turns : Turns) : Type 0 where
  pub over : (k : ℕ) (g : Settled) → IsOver k g → turns k g ≡ g

pub idle-none : AreIdle none_left
idle-none = record { over = λ k g is. refl }

takes-idle : {A : Type 0} (k : ℕ) (there : Bool) (moves : A → Bool) (turn : RanAnswer A) (g : Settled) → IsOver k g → takes k there moves turn g ≡ g
takes-idle k true moves turn g is = ap (λ (b : Bool). if b then behind_turn moves turn.0 turn.1 g else g) is
takes-idle k false moves turn g is = refl

ticks-idle : (k : ℕ) (g : Settled) (w : ℕ) → IsOver k g → ticks k g w ≡ g
ticks-idle k g w is = takes-idle k (row_of w g.ran.cluster).live tick_moves (ran_tick w g.ran) g is

steps-idle : (setting : Setting) (k : ℕ) (g : Settled) (i : ℕ) → IsOver k g → steps setting k g i ≡ g
steps-idle setting k g i is = takes-idle k (may_step i g.ran.cluster) step_moves (ran_step setting i g.ran) g is

fold-idle : (k : ℕ) (turn : Settled → ℕ → Settled) → ((g : Settled) (x : ℕ) → IsOver k g → turn g x ≡ g) → (xs : List ℕ) (g : Settled) → IsOver k g → fold turn g xs ≡ g
fold-idle k turn each [] g is = refl
fold-idle k turn each (x ∷ xs) g is = ap (λ (h : Settled). fold turn h xs) (each g x is) ∙ fold-idle k turn each xs g is

pub idle-tick_each : (ws : List ℕ) → AreIdle (tick_each ws)
idle-tick_each ws = record { over = λ k g is. fold-idle k (ticks k) (λ h w. ticks-idle k h w) ws g is }

pub idle-step_each : (setting : Setting) (is : List ℕ) → AreIdle (step_each setting is)
idle-step_each setting is = record { over = λ k g over. fold-idle k (steps setting k) (λ h i. steps-idle setting k h i) is g over }

pub idle-all_tick : AreIdle all_tick
idle-all_tick = record { over = λ k g is. (idle-tick_each (range_with_len 0 (length g.ran.cluster.rows))).over k g is }

pub idle-all_step : (setting : Setting) → AreIdle (all_step setting)
idle-all_step setting = record { over = λ k g is. (idle-step_each setting (range_with_len 0 (length g.ran.cluster.instances))).over k g is }

pub idle-round : (setting : Setting) → AreIdle (round setting)
idle-round setting = record { over = λ k g is. ap (all_step setting k) (idle-all_tick.over k g is) ∙ (idle-all_step setting).over k g is }

-- ---- one part behind the other

pub leads-none : (turns : Turns) (most from : ℕ) (s : Ran) → from ≤ most → LeadsTo turns turns most from s from s
leads-none turns most from s few = record { rises = omega arith; within = few; same = λ k low high. refl }

module _ (whole left first later : Turns) (most from : ℕ) (s : Ran) (mid : ℕ) (u : Ran) (so_far : LeadsTo whole left most from s mid u)
    (splits : (k : ℕ) → mid ≤ k → k ≤ most → left k (moved_to mid u) ≡ later k (first k (moved_to mid u))) where
  pub leads-then : (to : ℕ) (t : Ran) → LeadsTo first none_left most mid u to t → LeadsTo whole later most from s to t
  leads-then to t next = record {
    rises = omega (arith, so_far.rises, next.rises);
    within = next.within;
    same = λ k low high. so_far.same k (omega (arith, next.rises, low)) high ∙ splits k (omega (arith, next.rises, low)) high ∙ ap (later k) (next.same k low high);
  }

  -- what the first come to where so much has moved, all come to
  through : AreIdle later → (k : ℕ) (v : Ran) → mid ≤ k → k ≤ most → first k (moved_to mid u) ≡ moved_to k v → whole k (moved_to from s) ≡ moved_to k v
  through idle k v low high is =
      so_far.same k low high ∙ splits k low high ∙ ap (later k) is ∙ idle.over k (moved_to k v) (over-enough k (moved_to k v) (omega arith))

  stage-then : AreIdle later → (t : Ran) → IsStage first most mid u t → IsStage whole most from s t
  stage-then idle t stage = record {
    moved = stage.moved;
    rises = omega (arith, so_far.rises, stage.rises);
    within = stage.within;
    is = through idle stage.moved t stage.rises stage.within stage.is;
  }

  cut-then : (setting : Setting) → AreIdle later → (t : Ran) → IsCutStage setting first most mid u t → IsCutStage setting whole most from s t
  cut-then setting idle t stage = record {
    moved = stage.moved;
    at = stage.at;
    rises = omega (arith, so_far.rises, stage.rises);
    within = stage.within;
    is = through idle stage.moved stage.at stage.rises (omega (arith, stage.within)) stage.is;
    instance = stage.instance;
    cut = stage.cut;
    next = λ held told opened.
        through idle (stage.moved + 1) (ran_step setting stage.instance stage.at).1 (omega (arith, stage.rises)) (omega (arith, stage.within)) (stage.next held told opened);
  }

  refused-then : AreIdle later → (fault : WorldFault) (t : Ran) → IsRefused (first most (moved_to mid u)) fault t → IsRefused (whole most (moved_to from s)) fault t
  refused-then idle fault t is =
      let there : whole most (moved_to from s) ≡ first most (moved_to mid u) =
      so_far.same most so_far.within (omega arith) ∙ splits most so_far.within (omega arith) ∙ idle.over most (first most (moved_to mid u)) (over-refused most (first most (moved_to mid u)) fault is.refused) in
      subst (λ (g : Settled). IsRefused g fault t) (sym there) is

  pub stops-then : (broken : Ran → Cluster → Type 0) (setting : Setting) (t : Ran) (fault : TurnFault) → AreIdle later
      → Stops broken setting (first most (moved_to mid u)) (IsStage first most mid u) (IsCutStage setting first most mid u) t fault
      → Stops broken setting (whole most (moved_to from s)) (IsStage whole most from s) (IsCutStage setting whole most from s) t fault
  stops-then broken setting t (halt.Refused fault) idle is = refused-then idle fault t is
  stops-then broken setting t halt.Memory idle is = stage-then idle t is
  stops-then broken setting t (halt.Store disk count) idle is = record { at = is.at; next = is.next; came = stage-then idle is.at is.came; turn = is.turn; left = is.left }
  stops-then broken setting t halt.Outlet idle is = cut-then setting idle t is

-- ---- one turn

-- it is not taken
pub leads-still : (turns : Turns) (most moved : ℕ) (s : Ran) → moved ≤ most → ((k : ℕ) → moved ≤ k → k ≤ most → turns k (moved_to moved s) ≡ moved_to moved s) → LeadsTo turns none_left most moved s moved s
leads-still turns most moved s few same = record { rises = omega arith; within = few; same = same }

module _ {A : Type 0} (turns : Turns) (moves : A → Bool) (there : Bool) (turn : RanAnswer A) (most moved : ℕ) (s : Ran) (below : moved < most) (is_there : there ≡ true)
    (is : (k : ℕ) → turns k (moved_to moved s) ≡ takes k there moves turn (moved_to moved s)) where
  -- it is taken where less has moved
  taken : (k : ℕ) → moved < k → turns k (moved_to moved s) ≡ behind_turn moves turn.0 turn.1 (moved_to moved s)
  taken k less = is k ∙ rw (is_there, lt-ltb moved k less) refl

  -- and else not
  not-taken : turns moved (moved_to moved s) ≡ moved_to moved s
  not-taken = is moved ∙ takes-idle moved there moves turn (moved_to moved s) (over-enough moved (moved_to moved s) (omega arith))

  pub leads-moved : (x : A) (t : Ran) → turn ≡ (Ok x, t) → moves x ≡ true → LeadsTo turns none_left most moved s (moved + 1) t
  leads-moved x t done does = record {
    rises = omega arith;
    within = omega arith;
    same = λ k low high. taken k (omega arith) ∙ ap (λ (a : RanAnswer A). behind_turn moves a.0 a.1 (moved_to moved s)) done ∙ ap (λ (b : Bool). moved_to (if b then moved + 1 else moved) t) does;
  }

  pub leads-unmoved : (x : A) (t : Ran) → turn ≡ (Ok x, t) → moves x ≡ false → IsStillRan moves s turn → LeadsTo turns none_left most moved s moved t
  leads-unmoved x t done none still = record {
    rises = omega arith;
    within = omega arith;
    same = λ k low high. either k (nat_lt moved k) refl low;
  } where
    same_ran : t ≡ s
    same_ran = sym (ap (λ (a : RanAnswer A). a.1) done) ∙ still x (ap (λ (a : RanAnswer A). a.0) done) none

    either : (k : ℕ) (b : Bool) → nat_lt moved k ≡ b → moved ≤ k → turns k (moved_to moved s) ≡ moved_to moved t
    either k true less low =
        taken k (ltb-true moved k less) ∙ ap (λ (a : RanAnswer A). behind_turn moves a.0 a.1 (moved_to moved s)) done ∙ ap (λ (b : Bool). moved_to (if b then moved + 1 else moved) t) none
    either k false more low =
        let same : k ≡ moved = omega (arith, ltb-false moved k more) in
        subst (λ (n : ℕ). turns n (moved_to moved s) ≡ moved_to moved t) (sym same) (not-taken ∙ ap (moved_to moved) (sym same_ran))

  stage-none : IsStage turns most moved s s
  stage-none = record { moved = moved; rises = omega arith; within = omega arith; is = not-taken }

  pub stops-turn : (broken : Ran → Cluster → Type 0) (cut : Ran → Ran → Type 0) (setting : Setting) (t : Ran) (fault : TurnFault)
      → IsBehindTurn setting s.cluster turn.1.cluster → (cut s t → IsCutStage setting turns most moved s t) → IsTurn broken cut turn s t (Err fault)
      → Stops broken setting (turns most (moved_to moved s)) (IsStage turns most moved s) (IsCutStage setting turns most moved s) t fault
  stops-turn broken cut setting t (halt.Refused fault) behind off did =
      let there : turns most (moved_to moved s) ≡ record { moved = moved; refused = Some fault; ran = t } =
      taken most below ∙ ap (λ (a : RanAnswer A). behind_turn moves a.0 a.1 (moved_to moved s)) did in
      subst (λ (g : Settled). IsRefused g fault t) (sym there) (record { refused = refl; ran = refl })
  stops-turn broken cut setting t halt.Memory behind off same = subst (IsStage turns most moved s) (sym same) stage-none
  stops-turn broken cut setting t (halt.Store disk count) behind off left = record { at = s; next = turn.1.cluster; came = stage-none; turn = behind; left = left }
  stops-turn broken cut setting t halt.Outlet behind off is = off is

-- a delivery that is cut off would have moved something
pub stage-cut : (setting : Setting) (i most moved : ℕ) (s t : Ran) → moved < most → may_step i s.cluster ≡ true → IsCutIn i s t → IsCutStage setting (steps_of setting i) most moved s t
stage-cut setting i most moved s t below may cut = record {
  moved = moved;
  at = s;
  rises = omega arith;
  within = below;
  is = not-taken (steps_of setting i) step_moves (may_step i s.cluster) (ran_step setting i s) most moved s below may (λ k. refl);
  instance = i;
  cut = cut;
  next = λ held told opened.
      let off = (cut.files held told).2 in
      taken (steps_of setting i) step_moves (may_step i s.cluster) (ran_step setting i s) most moved s below may (λ k. refl) (moved + 1) (omega arith)
      ∙ ap (λ (r : Result Did WorldFault). behind_turn step_moves r (ran_step setting i s).1 (moved_to moved s)) (open-deliver setting i s.cluster off.delivery opened off.is);
}

-- ---- each in its order

range-front : (n x : ℕ) → x < n → range_with_len x (n - x) ≡ x ∷ range_with_len (x + 1) (n - (x + 1))
range-front n x below =
    let more : n - x ≡ suc (n - (x + 1)) = omega arith in
    ap (range_with_len x) more

module _ (turn : ℕ → Settled → ℕ → Settled) (whole : Turns) (n x : ℕ) (most from : ℕ) (s : Ran) (mid : ℕ) (u : Ran)
    (so_far : LeadsTo whole (λ k g. fold (turn k) g (range_with_len x (n - x))) most from s mid u) where
  pub each-next : x < n → (to : ℕ) (t : Ran) → LeadsTo (λ k g. turn k g x) none_left most mid u to t
      → LeadsTo whole (λ k g. fold (turn k) g (range_with_len (x + 1) (n - (x + 1)))) most from s to t
  each-next below to t next =
      leads-then whole (λ k g. fold (turn k) g (range_with_len x (n - x))) (λ k g. turn k g x) (λ k g. fold (turn k) g (range_with_len (x + 1) (n - (x + 1)))) most from s mid u so_far
      (λ k low high. ap (fold (turn k) (moved_to mid u)) (range-front n x below)) to t next

  pub each-stops : x < n → AreIdle (λ k g. fold (turn k) g (range_with_len (x + 1) (n - (x + 1)))) → (broken : Ran → Cluster → Type 0) (setting : Setting) (t : Ran) (fault : TurnFault)
      → Stops broken setting (turn most (moved_to mid u) x) (IsStage (λ k g. turn k g x) most mid u) (IsCutStage setting (λ k g. turn k g x) most mid u) t fault
      → Stops broken setting (whole most (moved_to from s)) (IsStage whole most from s) (IsCutStage setting whole most from s) t fault
  each-stops below idle broken setting t fault is =
      stops-then whole (λ k g. fold (turn k) g (range_with_len x (n - x))) (λ k g. turn k g x) (λ k g. fold (turn k) g (range_with_len (x + 1) (n - (x + 1)))) most from s mid u so_far
      (λ k low high. ap (fold (turn k) (moved_to mid u)) (range-front n x below)) broken setting t fault idle is

  pub each-done : n ≤ x → LeadsTo whole none_left most from s mid u
  each-done past = record {
    rises = so_far.rises;
    within = so_far.within;
    same = λ k low high. so_far.same k low high ∙ ap (λ (c : ℕ). fold (turn k) (moved_to mid u) (range_with_len x c)) (let none : n - x ≡ 0 = omega arith in none);
  }

-- some turns, whatever they came to, behind others that were all taken
pub takes-then : (whole left first later : Turns) (most from : ℕ) (s : Ran) (mid : ℕ) (u : Ran) → LeadsTo whole left most from s mid u
    → ((k : ℕ) → mid ≤ k → k ≤ most → left k (moved_to mid u) ≡ later k (first k (moved_to mid u))) → AreIdle later
    → (broken : Ran → Cluster → Type 0) (setting : Setting) (t : Ran) (result : Result ℕ TurnFault)
    → TakesTurns broken setting first most mid u t result → ((to : ℕ) → LeadsTo whole later most from s to t → LeadsTo whole none_left most from s to t)
    → TakesTurns broken setting whole most from s t result
takes-then whole left first later most from s mid u so_far splits idle broken setting t (Ok to) took ends = ends to (leads-then whole left first later most from s mid u so_far splits to t took)
takes-then whole left first later most from s mid u so_far splits idle broken setting t (Err fault) took ends = stops-then whole left first later most from s mid u so_far splits broken setting t fault idle took

-- ---- a look at each

-- one that passes is left out
pub all-next : (test : ℕ → Bool) (n x : ℕ) → x < n → test x ≡ true → list_all test (range_with_len x (n - x)) ≡ list_all test (range_with_len (x + 1) (n - (x + 1)))
all-next test n x below passes =
    ap (list_all test) (range-front n x below) ∙ ap (λ (b : Bool). b && list_all test (range_with_len (x + 1) (n - (x + 1)))) passes

-- ---- a round

-- its steps are left behind its ticks
pub leads-behind : (setting : Setting) (most from : ℕ) (s : Ran) (mid : ℕ) (u : Ran) → from ≤ most → LeadsTo all_tick none_left most from s mid u
    → LeadsTo (round setting) (all_step setting) most from s mid u
leads-behind setting most from s mid u few ticked =
    leads-then (round setting) (round setting) all_tick (all_step setting) most from s from s (leads-none (round setting) most from s few) (λ k low high. refl) mid u ticked
