-- What the events of a tick ask, and what they come to, from what is so where the turn is taken.
use Rattle.std.proofs.Common.{◌≡◌, ◌≢◌, ◌<◌, ℕ, Bool, true, false, length, max, Option, Some, None, IsSome, Result, Ok, Err, refl, sym, ◌∙◌, ap, subst, arith, inl, inr, unwrap_or, if◌then◌else◌}
use Rattle.std.specs.Option.{option_map, is_some}
use Rattle.std.proofs.lemmas.List.{length-set}
use Rattle.cw_types.specs.declared.ids.Item.{Item}
use Rattle.cw_types.specs.declared.logs.DiskName.{DiskName}
use Rattle.cw_laws.proofs.Lists.{read-cases}
use Rattle.cw_model.specs.declared.fault.WorldFault.{WorldFault}
use Rattle.cw_model.specs.declared.fault.WorldFault.TheVariants.{Dead, Memory}
use Rattle.cw_model.specs.declared.instance.Instance.{Instance}
use Rattle.cw_model.specs.declared.row.Row.{Row}
use Rattle.cw_model.specs.declared.tick.Tick.TheVariants as outcome
use Rattle.cw_model.specs.State.{Setting, Cluster}
use Rattle.cw_model.specs.Answers.{Answer, answered, refused, unless_closed}
use Rattle.cw_model.specs.EventsItems.{read_config, stop_item}
use Rattle.cw_model.specs.EventsReports.{MayReport}
use Rattle.cw_model.specs.EventsWorkers.{clock}
use Rattle.cw_model.specs.Lookups.{row_of, no_row}
use Rattle.cw_model.specs.Tick.{rule_for}
use Rattle.cw_model.specs.TickRules.{tells, report_applies}
use Rattle.cw_model.specs.Updates.{changes_row}
use Rattle.cw_ticks.specs.declared.turn.Turn.TheVariants as turn
use Rattle.cw_ticks.specs.Turns.{IsTurn}
use Rattle.cw_world.specs.Moments.{at_moment}
use Rattle.cw_world.specs.Logs.{LogsState}
use Rattle.cw_world.specs.World.{WorldState, Does}
use Rattle.logbook.specs.Pages.{Book}

-- ---- workers

-- a worker that reads is still there
closed-rows : (o : Option (DiskName × ℕ)) (done : Answer (Unit {0})) (s : Cluster) → length done.1.rows ≡ length s.rows →
    length (unless_closed o done s).1.rows ≡ length s.rows
closed-rows None done s same = same
closed-rows (Some fault) done s same = refl

if-rows : (b : Bool) (done other : Answer (Unit {0})) (n : ℕ) → length done.1.rows ≡ n → length other.1.rows ≡ n →
    length (if b then done else other).1.rows ≡ n
if-rows true done other n first second = first
if-rows false done other n first second = second

read-rows : (w : ℕ) (s : Cluster) → length (read_config w s).1.rows ≡ length s.rows
read-rows w s =
    let done : Answer (Unit {0}) = answered tt (changes_row w (λ row. record row { prefix = length s.configs }) s) in
    closed-rows s.closed (if (row_of w s).live then done else refused (Dead w) s) s
    (if-rows (row_of w s).live done (refused (Dead w) s) (length s.rows)
    (length-set s.rows w (record (row_of w s) { prefix = length s.configs })) refl)

pub read-there : (w : ℕ) (s t : Cluster) (r : Result (Unit {0}) WorldFault) → read_config w s ≡ (r, t) → w < length s.rows → w < length t.rows
read-there w s t r row there =
    subst (λ (a : Answer (Unit {0})). w < length a.1.rows) row (subst (λ (n : ℕ). w < n) (sym (read-rows w s)) there)

-- a worker with a lead epoch is there
pub lead-there : (w : ℕ) (s : Cluster) → IsSome (row_of w s).lead → w < length s.rows
lead-there w s leads = elim (read-cases s.rows w no_row) [
  | inl within ↦ within
  | inr none ↦ absurd (let no : false ≡ true = subst (λ (row : Row). is_some row.lead ≡ true) none leads in cc)
]

-- what is done isn't refused
pub done-is : {A : Type 0} (r : Result A WorldFault) (x : A) → r ≡ Ok x → r ≢ Err Memory
done-is r x is e = cc

-- ---- an item's report

found-item : (P : Item → Type 0) (o : Option Instance) (item : Item) → option_map (λ i. i.item) o ≡ Some item →
    ((i : Instance) → o ≡ Some i → P i.item) → P item
found-item P None item is each = absurd (cc)
found-item P (Some i) item is each = subst P (ap (λ (o : Option Item). unwrap_or o item) is) (each i refl)

pub may-report : (w : ℕ) (s : Cluster) (item : Item) → option_map (λ i. i.item) (report_applies w s) ≡ Some item →
    ((i : Instance) → report_applies w s ≡ Some i → MayReport w i.item s) → MayReport w item s
may-report w s item is each = found-item (λ x. MayReport w x s) (report_applies w s) item is each

-- ---- the rule of a turn, as its event

module _ (w : ℕ) (s : Cluster) where
  pub stop-rule : (item : Item) (number : ℕ) → IsTurn (turn.Stop item number) w s →
      rule_for w s ≡ Some (λ _. tells (stop_item number s) (λ _ _. outcome.Stop item))
  stop-rule item number is = is.follows ∙
      ap (λ (n : ℕ). Some (λ (_ : Unit {0}). tells (stop_item n s) (λ _ _. outcome.Stop item))) (sym is.told)

-- ---- the moment

max-same : (n : ℕ) → max n n ≡ n
max-same n = omega (arith)

module _ {D : Type 0} (old : WorldState D) where
  abbrev at : ℕ → WorldState D
  at moment = record old { state = record (old.state) { moment = moment } }

  -- the world's own moment
  pub at-own : (now : ℕ) → now ≡ old.state.moment → at_moment now old ≡ old
  at-own now is = ap (λ (n : ℕ). at (max old.state.moment n)) is ∙ ap at (max-same old.state.moment)

  -- a world whose clock was set
  pub clock-set : (mid : WorldState D) (now : ℕ) (answer : Result ℕ WorldFault) → Does (clock now) old mid answer → mid ≡ at_moment now old
  clock-set mid now answer does =
      let state : mid.state ≡ (clock now old.state).1 = ap (λ (a : Answer ℕ). a.1) (sym does.row) in
      ap (λ (t : Cluster). record mid { state = t }) state ∙
      ap (λ (x : Setting). record mid { state = (clock now old.state).1; setting = x }) does.setting ∙
      ap (λ (x : LogsState D). record mid { state = (clock now old.state).1; setting = old.setting; logs = x }) does.logs ∙
      ap (λ (x : Book). record (at_moment now old) { name = x }) does.name
