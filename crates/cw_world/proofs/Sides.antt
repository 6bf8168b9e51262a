-- The sides of the logs stay those that are stored.
use Rattle.std.proofs.Common.{◌≡◌, ℕ, List, sym, ap, ◌∙◌}
use Rattle.cw_types.specs.declared.logs.LogName.{LogName}
use Rattle.cw_types.specs.declared.logs.LogName.TheVariants.{Config, Offsets, Status, Txn, Batches}
use Rattle.cw_disk.specs.declared.device.Disk.{Ghosts}
use Rattle.cw_pair.specs.State.{PairState}
use Rattle.cw_model.specs.StandsFor.{Stored}
use Rattle.cw_rows.specs.Writes.{with_body}
use Rattle.cw_world.specs.Logs.{LogsState, HaveSameOthers, AreSides, view_in}

abbrev number : {D : Type 0} → PairState D → ℕ
number pair = pair.log.number

module _ {D : Type 0} (G : Ghosts D) (stored : Stored) where
  -- one log has changed, and is on the same side
  pub keep-sides : (name : LogName) (old new : LogsState D) → HaveSameOthers name old new → (view_in G name new).number ≡ (view_in G name old).number →
      AreSides stored old → AreSides stored new
  keep-sides Config old new others same sides = record {
    config = same ∙ sides.config;
    offsets = ap number (others.offsets (λ e. cc)) ∙ sides.offsets;
    status = ap number (others.status (λ e. cc)) ∙ sides.status;
  }
  keep-sides Offsets old new others same sides = record {
    config = ap number (others.config (λ e. cc)) ∙ sides.config;
    offsets = same ∙ sides.offsets;
    status = ap number (others.status (λ e. cc)) ∙ sides.status;
  }
  keep-sides Status old new others same sides = record {
    config = ap number (others.config (λ e. cc)) ∙ sides.config;
    offsets = ap number (others.offsets (λ e. cc)) ∙ sides.offsets;
    status = same ∙ sides.status;
  }
  keep-sides Txn old new others same sides = record {
    config = ap number (others.config (λ e. cc)) ∙ sides.config;
    offsets = ap number (others.offsets (λ e. cc)) ∙ sides.offsets;
    status = ap number (others.status (λ e. cc)) ∙ sides.status;
  }
  keep-sides Batches old new others same sides = record {
    config = ap number (others.config (λ e. cc)) ∙ sides.config;
    offsets = ap number (others.offsets (λ e. cc)) ∙ sides.offsets;
    status = ap number (others.status (λ e. cc)) ∙ sides.status;
  }

-- a body more leaves the sides
pub sides-with : {D : Type 0} (name : LogName) (body : List ℕ) (stored : Stored) (logs : LogsState D) → AreSides stored logs → AreSides (with_body name body stored) logs
sides-with Config body stored logs sides = record { config = sides.config; offsets = sides.offsets; status = sides.status }
sides-with Offsets body stored logs sides = record { config = sides.config; offsets = sides.offsets; status = sides.status }
sides-with Status body stored logs sides = record { config = sides.config; offsets = sides.offsets; status = sides.status }
sides-with Txn body stored logs sides = record { config = sides.config; offsets = sides.offsets; status = sides.status }
sides-with Batches body stored logs sides = record { config = sides.config; offsets = sides.offsets; status = sides.status }
