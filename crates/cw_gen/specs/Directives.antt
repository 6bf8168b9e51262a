-- The directives of a script that is made from a number: three workers and one source with eight parts, which four
-- tasks fill; then whatever is drawn. Workers tick, instances step, the source gets other batches, workers are lost and
-- come back, and time goes on. This project's own choice.
use Rattle.std.specs.Prelude.{ℕ, ◌+◌, ◌-◌, ◌*◌, ◌^◌, ◌==◌, List, [], ◌∷◌, ◌++◌, min, nat_lt, slice_get}
use Rattle.std.specs.Prelude.{Option, Some, None, codes, decimal, if◌then◌else◌}
use Rattle.cw_script.specs.declared.directive.Directive.{Directive}
use Rattle.cw_script.specs.declared.directive.Directive.TheVariants.{Spawn, Deaf, Hear, Expire, Clock, Tick, Step}
use Rattle.cw_script.specs.declared.directive.Directive.TheVariants.{Settle, Rest}
use Rattle.cw_gen.specs.Draws.{next_number, drawn}

-- ---- the first six

-- the config of the source with batches of so many records
abbrev pub source_config : ℕ → List ℕ
source_config batch =
    codes "{\"connector.class\":\"SequenceSource\",\"partitions\":8,\"count\":1000,\"tasks.max\":4,\"batch.size\":" ++
    decimal batch ++ codes ",\"topic\":\"t\"}"

-- the source is created
abbrev pub creation : Directive
creation = Rest 0 (codes "POST") (codes "/connectors")
    (codes "{\"name\":\"g\",\"config\":" ++ source_config 7 ++ codes "}")

-- three workers come and form a group, the source is created, and its tasks start
abbrev pub first_six : List Directive
first_six = Spawn ∷ Spawn ∷ Spawn ∷ Settle 1000 ∷ creation ∷ Settle 1000 ∷ []

-- ---- the others

-- a directive, and the number behind its draws
pub record Due : Type 0 where
  pub directive : Directive
  pub number : ℕ

-- one of the three workers ticks
abbrev pub tick_from : ℕ → Due
tick_from x = record { directive = Tick (drawn 3 x); number = next_number x }

-- one of the instances steps; where there is none, the cluster settles and nothing is drawn
abbrev pub step_from : (instances : ℕ) → ℕ → Due
step_from instances x =
    if instances == 0
    then record { directive = Settle 10; number = x }
    else record { directive = Step (drawn instances x); number = next_number x }

-- a worker is asked for batches of one to nine records
abbrev pub put_from : ℕ → Due
put_from x =
    let y = next_number x in
    record {
      directive = Rest (drawn 3 x) (codes "PUT") (codes "/connectors/g/config") (source_config (1 + drawn 9 y));
      number = next_number y;
    }

-- the group lets a worker go, or it turns deaf, or it hears again
abbrev pub turn_of : (kind w : ℕ) → Directive
turn_of kind w = if kind == 0 then Expire w else if kind == 1 then Deaf w else Hear w

abbrev pub turn_from : ℕ → Due
turn_from x =
    let y = next_number x in record { directive = turn_of (drawn 3 x) (drawn 3 y); number = next_number y }

-- up to nine minutes pass; the clock stops at the greatest u64, as the cluster's times do
abbrev pub clock_from : (moment : ℕ) → ℕ → Due
clock_from moment x =
    record { directive = Clock (min (moment + 60000 * drawn 10 x) (2 ^ 64 - 1)); number = next_number x }

-- by what was drawn of sixteen
abbrev pub by_draw : ℕ → (instances moment : ℕ) → ℕ → Due
by_draw d instances moment x =
    if nat_lt d 6 then tick_from x else
    if nat_lt d 13 then step_from instances x else
    if d == 13 then put_from x else
    if d == 14 then turn_from x else clock_from moment x

-- the directive that is due behind so many, from a number, in a cluster with so many instances at a moment
abbrev pub due_unless : Option Directive → (instances moment : ℕ) → ℕ → Due
due_unless (Some directive) instances moment x = record { directive = directive; number = x }
due_unless None instances moment x = by_draw (drawn 16 x) instances moment (next_number x)

abbrev pub due : (made : ℕ) → (instances moment : ℕ) → ℕ → Due
due made instances moment x = due_unless (slice_get first_six made) instances moment x
