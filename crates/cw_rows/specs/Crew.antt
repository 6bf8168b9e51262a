-- The workers, what each has read of the config log, and what they run or ran.
use Rattle.std.specs.Prelude.{◌≡◌, ℕ, ◌<◌, ◌≤◌, ◌+◌, Bool, true, false, List, [], ◌∷◌, ◌++◌, length, ◌&&◌, nat_lt}
use Rattle.std.specs.Prelude.{slice_index_or, slice_set, drop, map, if◌then◌else◌}
use Rattle.std.specs.List.{AllByRecursion}
use Rattle.cw_types.specs.declared.ids.Item.{Item}
use Rattle.cw_model.specs.EventsItems.{runs}
use Rattle.cw_config.specs.declared.records.ConfigRecord.{ConfigRecord}
use Rattle.cw_model.specs.declared.row.Row.{Row}
use Rattle.cw_model.specs.declared.instance.Instance.{Instance}
use Rattle.cw_model.specs.declared.instance.InstancePhase.TheVariants.{Ended}
use Rattle.cw_model.specs.Lookups.{is_at, no_row, no_instance}
use Rattle.cw_model.specs.EventsWorkers.{most_workers}
use Rattle.cw_model.specs.Updates.{in_phase}

pub record CrewState : Type 0 where
  pub rows : List Row
  pub instances : List Instance
  -- the records of the config log that each worker has read
  pub reads : List (List ConfigRecord)

-- one place before others, where a test says so
abbrev pub with_place : Bool → ℕ → List ℕ → List ℕ
with_place true place places = place ∷ places
with_place false place places = places

-- the places, counted from one on, of the members of a list that pass a test
abbrev pub places_from : {A : Type 0} → ℕ → (A → Bool) → List A → List ℕ
places_from k test [] = []
places_from k test (x ∷ xs) = with_place (test x) k (places_from (k + 1) test xs)

-- the numbers of a worker's instances that haven't ended
abbrev pub numbers_at : ℕ → List Instance → List ℕ
numbers_at w instances = places_from 0 (is_at w) instances

-- the member at a place is changed where it passes a test
abbrev pub change_at : {A : Type 0} → (A → Bool) → (A → A) → A → List A → ℕ → List A
change_at test f d xs n = let x = slice_index_or xs n d in slice_set xs n (if test x then f x else x)

-- a worker's row, changed
abbrev pub with_row : ℕ → (Row → Row) → CrewState → CrewState
with_row w change s = record s { rows = slice_set s.rows w (change (slice_index_or s.rows w no_row)) }

-- an instance, changed
abbrev pub with_instance : ℕ → (Instance → Instance) → CrewState → CrewState
with_instance i change s =
    record s { instances = slice_set s.instances i (change (slice_index_or s.instances i no_instance)) }

-- the instances that pass a test end
abbrev pub with_ends : (Instance → Bool) → CrewState → CrewState
with_ends test s = record s { instances = map (λ i. if test i then in_phase Ended i else i) s.instances }

-- whether a worker takes part: it wasn't killed and isn't deaf
abbrev pub takes_part : List Row → ℕ → Bool
takes_part rows w = (slice_index_or rows w no_row).live && (slice_index_or rows w no_row).hearing

-- whether an instance is what runs of an item at a worker below a number that takes part
abbrev pub ends_below : List Row → Item → ℕ → Instance → Bool
ends_below rows item w i = (runs item i && takes_part rows i.worker) && nat_lt i.worker w

-- a worker has read all of these records
abbrev pub with_read : ℕ → List ConfigRecord → CrewState → CrewState
with_read w records s = record s {
  rows = slice_set s.rows w (record (slice_index_or s.rows w no_row) { prefix = length records });
  reads = slice_set s.reads w (slice_index_or s.reads w [] ++ drop (slice_index_or s.rows w no_row).prefix records);
}

-- what the tables say of the workers and instances: for each worker the numbers of what it runs
pub record IsCrew (rows : List Row) (instances : List Instance) (reads : List (List ConfigRecord))
    (runs : List (List ℕ)) : Type 0 where
  pub few : length rows ≤ most_workers
  pub reads_each : length reads ≡ length rows
  pub runs_each : length runs ≡ length rows
  pub at_worker : AllByRecursion (λ i. i.worker < length rows) instances
  pub numbers : (w : ℕ) → w < length rows → slice_index_or runs w [] ≡ numbers_at w instances
