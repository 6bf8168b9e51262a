-- Whose turn it is: a part of the task, whose topic has a committed record that is stable.
use Rattle.std.proofs.Common.{◌≡◌, ℕ, zero, suc, ◌+◌, ◌-◌, ◌<◌, ◌≤◌, Bool, true, false, cond, List, [], ◌∷◌, ◌++◌, length, min, Option, Some, None, is_some, option_map, refl, subst, arith}
use Rattle.std.specs.List.{find, range_with_len}
use Rattle.cw_data.specs.declared.entry.DataEntry.{DataEntry}
use Rattle.cw_data.specs.Log.{taken, stable}
use Rattle.cw_model.specs.declared.instance.Instance.{Instance}
use Rattle.cw_model.specs.EventsSinks.{topic_in}
use Rattle.cw_model.specs.Polls.{Delivery, delivery_at, gathered, turns_from, turn_behind}
use Rattle.cw_model.specs.Tasks.{parts_of, part_at, position_at}
use Rattle.cw_ticks.specs.Polled.{has_records, sink_turn}
use Rattle.cw_sinktask.proofs.Taken.{taken-ends}

-- what is found is one of them, and passes the test
pub record Found {A : Type 0} (test : A → Bool) (P : A → Type 0) (x : A) : Type 0 where
  pub passes : test x ≡ true
  pub has : P x

found-here : {A : Type 0} (test : A → Bool) (P : A → Type 0) (b : Bool) (x y : A) (rest : Option A) → test x ≡ b → P x → (rest ≡ Some y → Found test P y) →
    cond b (Some x) rest ≡ Some y → Found test P y
found-here test P true x y rest passes has later is = let same : x ≡ y = cc in subst (Found test P) same (record { passes = passes; has = has })
found-here test P false x y rest fails has later is = later is

found-in-range : (test : ℕ → Bool) (limit from count n : ℕ) → from + count ≤ limit → find test (range_with_len from count) ≡ Some n → Found test (λ k. k < limit) n
found-in-range test limit from zero n fits is = absurd (cc)
found-in-range test limit from (suc count) n fits is =
    found-here test (λ k. k < limit) (test from) from n (find test (range_with_len (from + 1) count)) refl (omega (arith, fits))
    (found-in-range test limit (from + 1) count n (omega (arith, fits))) is

-- of the first list, or of the one behind it
found-either : {A : Type 0} (b : Bool) (o p : Option A) (x y : A) (Q : Type 0) → (cond b (Some y) o ≡ Some x → Q) → ((o ≡ Some x → Q) → p ≡ Some x → Q) →
    cond b (Some y) p ≡ Some x → Q
found-either true o p x y Q first later is = first is
found-either false o p x y Q first later is = later first is

found-behind : {A : Type 0} (test : A → Bool) (P : A → Type 0) (xs ys : List A) (x : A) → (find test xs ≡ Some x → Found test P x) →
    (find test ys ≡ Some x → Found test P x) → find test (xs ++ ys) ≡ Some x → Found test P x
found-behind test P [] ys x first second is = second is
found-behind test P (y ∷ xs) ys x first second is =
    found-either (test y) (find test xs) (find test (xs ++ ys)) x y (Found test P x) first
    (λ here. found-behind test P xs ys x here second) is

pub turn-found : (test : ℕ → Bool) (first count n : ℕ) → find test (turns_from first count) ≡ Some n → Found test (λ k. k < count) n
turn-found test first count n is =
    found-behind test (λ k. k < count) (range_with_len (min first count) (count - first)) (range_with_len 0 (min first count)) n
    (found-in-range test count (min first count) (count - first) n (omega arith)) (found-in-range test count 0 (min first count) n (omega arith)) is

-- a sink's turn is one of its parts
pub sink-turn-within : (i : Instance) (log : List DataEntry) (turn : ℕ) → sink_turn i log ≡ Some turn → turn < length (parts_of i)
sink-turn-within i log turn is = (turn-found (has_records i log) (turn_behind i.last) (length (parts_of i)) turn is).has

-- what is handed out is of one of its parts, goes on from the position there, and is stable
pub record IsDue (i : Instance) (log : List DataEntry) (d : Delivery) : Type 0 where
  pub within : d.turn < length (parts_of i)
  pub some : position_at d.turn i < d.to
  pub settled : d.to ≤ stable (topic_in (part_at d.turn i)) log

at-turn : (i : Instance) (log : List DataEntry) (turn : ℕ) → turn < length (parts_of i) → (t : Option (ℕ × List ℕ)) →
    taken (topic_in (part_at turn i)) (position_at turn i) log ≡ t → is_some t ≡ true → IsDue i log (delivery_at i log turn)
at-turn i log turn within None is some = absurd (cc)
at-turn i log turn within (Some p) is some =
    let ends = taken-ends (topic_in (part_at turn i)) log (position_at turn i) p.0 p.1 is in
    record { within = within; some = ends.0; settled = ends.1 }

of-turn : (i : Instance) (log : List DataEntry) (t : Option ℕ) (d : Delivery) → sink_turn i log ≡ t → option_map (delivery_at i log) t ≡ Some d → IsDue i log d
of-turn i log None d is given = absurd (cc)
of-turn i log (Some turn) d is given =
    let found = turn-found (has_records i log) (turn_behind i.last) (length (parts_of i)) turn is in
    let same : delivery_at i log turn ≡ d = cc in
    subst (IsDue i log) same (at-turn i log turn found.has (taken (topic_in (part_at turn i)) (position_at turn i) log) refl found.passes)

pub gathered-due : (i : Instance) (log : List DataEntry) (d : Delivery) → gathered i log ≡ Some d → IsDue i log d
gathered-due i log d is = of-turn i log (sink_turn i log) d refl is
