-- What a sink's poll under the lock finds. This project's own.
use Rattle.std.specs.Prelude.{◌≡◌, ◌≢◌, ◌⊎◌, ℕ, Option, Some, None, option_map}
use Rattle.cw_model.specs.declared.instance.Instance.{Instance}
use Rattle.cw_model.specs.Lookups.{instance_of}
use Rattle.cw_model.specs.Polls.{gathered}
use Rattle.cw_model.specs.State.{Cluster}
use Rattle.cw_edges.specs.Handing.{file_of}
use Rattle.cw_sinktask.specs.declared.delivery.Delivery.{Delivery}
use Rattle.cw_sinktask.specs.Gathered.{into_file}
use Rattle.cw_serve.specs.declared.polling.Gathered.{Gathered}
use Rattle.cw_serve.specs.declared.polling.Gathered.TheVariants as found
use Rattle.cw_serve.specs.declared.polling.Work.TheVariants as work
use Rattle.cw_serve.specs.declared.shared.Stop.TheVariants as stop
use Rattle.cw_serve.specs.Sharing.{SharedState, stopped_for}
use Rattle.cw_serve.specs.Working.{work_for}

-- what an instance hands out, with its file
abbrev pub found_for : Instance → Cluster → Option Delivery
found_for own s = option_map (into_file (file_of own)) (gathered own s.batches)

-- it hands that out, or has nothing to; or it isn't the time to poll; or memory is wanting, for which all is stopped
abbrev pub IsGathered : {D : Type 0} → ℕ → (old new : SharedState D) → Gathered → Type 0
IsGathered i old new (found.Found delivery) = (work_for i old ≡ work.Gather) × (new ≡ old) ×
    (found_for (instance_of i old.world.state) old.world.state ≡ Some delivery)
IsGathered i old new found.AtEnd = (work_for i old ≡ work.Gather) × (new ≡ old) ×
    (found_for (instance_of i old.world.state) old.world.state ≡ None)
IsGathered i old new found.Refused =
    ((work_for i old ≢ work.Gather) × (new ≡ old)) ⊎ (new ≡ stopped_for stop.Memory old)
