-- What a worker runs beside what it is to run: the instances that are to stop, the items that are to start, and the
-- states that aren't reported.
use Rattle.std.specs.Prelude.{◌≡◌, ℕ, ◌&&◌, ◌||◌, Bool, not, List, Option, option_map}
use Rattle.cw_types.specs.declared.ids.Item.{Item}
use Rattle.cw_assign.specs.Items.{has}
use Rattle.cw_config.specs.declared.records.ConfigRecord.{ConfigRecord}
use Rattle.cw_model.specs.declared.instance.Instance.{Instance}
use Rattle.cw_model.specs.State.{Cluster}
use Rattle.cw_model.specs.Lookups.{is_configured}
use Rattle.cw_model.specs.EventsReports.{state_of}
use Rattle.cw_model.specs.TickRules.{is_outdated, waits_for_fence, is_reported, number_at}

-- whether an instance is to stop: each is, or it isn't to run
abbrev pub to_stop : (all : Bool) → ℕ → Cluster → Instance → Bool
to_stop all w s i = all || is_outdated w s i

-- an item that was found, with the number of the worker's instance of it
abbrev pub Found : ℕ → Cluster → Option Item → Option (Item × ℕ) → Type 0
Found w s item found = found ≡ option_map (λ x. (x, number_at w x s)) item

-- whether an item that is assigned is to be started at a worker that holds others
abbrev pub may_start_beside : List ConfigRecord → (held : List Item) → Item → Bool
may_start_beside read held item = is_configured read item && not (has held item) && not (waits_for_fence read item)

-- whether an instance's state isn't the one that was reported last
abbrev pub to_report : List ConfigRecord → Instance → Bool
to_report read i = not (is_reported (state_of read i) i.reported)
