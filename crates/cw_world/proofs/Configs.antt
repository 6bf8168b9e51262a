-- What stands in the config log behind an event that writes records may stand there, by the event's law.
use Rattle.std.proofs.Common.{◌≡◌, ℕ, ◌≤◌, ◌++◌, [], ◌∷◌, true, zero, suc, List, length, slice_index_or, Ok, refl, ap, subst, arith}
use Rattle.std.specs.List.{AllByRecursion}
use Rattle.cw_types.specs.declared.logs.LogName.TheVariants.{Config}
use Rattle.cw_config.specs.declared.records.ConfigRecord.{ConfigRecord}
use Rattle.cw_config.specs.Compaction.{AreAccepted}
use Rattle.cw_rest.specs.Seen.{KeyedValues}
use Rattle.cw_model.specs.declared.row.Row.{Row}
use Rattle.cw_model.specs.State.{Setting, Cluster}
use Rattle.cw_model.specs.Answers.{Answer}
use Rattle.cw_model.specs.Bodies.{config_length, config_body, frame_of, has_room}
use Rattle.cw_model.specs.ConfigsAllowed.{AreAllowedConfigs}
use Rattle.cw_model.specs.EventsLeading.{append_config, append_fence, without_fencing}
use Rattle.cw_model.specs.Facts.{AreFacts}
use Rattle.cw_model.specs.FactsRows.{IsSoundRow}
use Rattle.cw_model.specs.Lookups.{no_row}
use Rattle.cw_model.specs.Updates.{stamped, next_config, changes_row}
use Rattle.cw_laws.specs.Laws.{Keeps}
use Rattle.cw_laws.proofs.CompactConfigs.{accepted-allowed}
use Rattle.cw_topics.specs.Configs.{have_offsets}
use Rattle.cw_rows.specs.Configs.{HaveRead, newest_test}
use Rattle.cw_rows.specs.Kept.{Kept}
use Rattle.cw_rows.specs.Tests.{leader_test}
use Rattle.cw_rows.specs.Writes.{bytes_in}
use Rattle.cw_rows.proofs.ConfigDue.{configs-put, append_config-row, append_fence-row, fence_of}
use Rattle.cw_laws.proofs.Configs.{allowed-rest}

module _ {A : Type 0} (event : Cluster → Answer A) (setting : Setting) (s : Cluster) (frame : List ConfigRecord) (law : Keeps setting s (event s))
    (facts : AreFacts setting s) (grown : (event s).1.configs ≡ s.configs ++ frame) where
  pub accepted-behind : AreAccepted s.configs frame
  accepted-behind = accepted-allowed s.configs frame (allowed-rest [] s.configs frame
      (subst (λ (l : List ConfigRecord). AreAllowedConfigs [] l) grown (law facts).logs.configs.allowed))

-- the room that there was for a frame's bytes
pub config-room : (old mid : Kept) (body : List ℕ) (frame records : List ConfigRecord) → mid.state ≡ old.state → body ≡ config_body frame → frame ≡ records →
    has_room (bytes_in Config mid.state) (frame_of body) ≡ true → has_room (config_length old.state) (frame_of (config_body records)) ≡ true
config-room old mid body frame records state is same room = rw (← state, ← same, ← is) room

module _ (k : Kept) where
  pub config-grown : (w : ℕ) (values : KeyedValues) → leader_test w k.state ≡ Ok tt → have_offsets (stamped values k.state) ≡ true →
      has_room (config_length k.state) (frame_of (config_body (stamped values k.state))) ≡ true →
      (append_config w values k.state).1.configs ≡ k.state.configs ++ stamped values k.state
  config-grown w values passed places room = ap (λ (a : Answer ℕ). a.1.configs)
      (configs-put (append_config w values) (stamped values k.state) (λ t. t) (next_config k.state) k.state
      (append_config-row w values k k refl passed) places room)

  pub fence-grown : (w : ℕ) (name : List ℕ) → leader_test w k.state ≡ Ok tt → newest_test w name k.state ≡ Ok tt →
      have_offsets (fence_of w name k k refl k.state) ≡ true →
      has_room (config_length k.state) (frame_of (config_body (fence_of w name k k refl k.state))) ≡ true →
      (append_fence w name k.state).1.configs ≡ k.state.configs ++ fence_of w name k k refl k.state
  fence-grown w name passed newest places room = ap (λ (a : Answer ℕ). a.1.configs)
      (configs-put (append_fence w name) (fence_of w name k k refl k.state) (changes_row w without_fencing) (next_config k.state) k.state
      (append_fence-row w name k k refl passed newest) places room)

-- each worker has read no more than there is
rows-read : (s : Cluster) (rows : List Row) → AllByRecursion (IsSoundRow s) rows → (w : ℕ) → (slice_index_or rows w no_row).prefix ≤ length s.configs
rows-read s [] sound w = omega arith
rows-read s (row ∷ rows) sound zero = sound.0.prefix
rows-read s (row ∷ rows) sound (suc w) = rows-read s rows sound.1 w

pub have-read : (setting : Setting) (s : Cluster) → AreFacts setting s → HaveRead s
have-read setting s facts = rows-read s s.rows facts.rows.rows
