-- The fences of a config log, and what one more does to them. Internal.
use Rattle.std.specs.Prelude.{◌≡◌, ◌↔◌, ◌⊎◌, ℕ, List, [], ◌∷◌, ◌++◌, Contains, Some, unwrap_or, if◌then◌else◌}
use Rattle.std.specs.BTreeMap.{BTreeMap, get, is_at}
use Rattle.cw_types.specs.Order.{name_cmp}
use Rattle.cw_config.specs.declared.records.ConfigRecord.{ConfigRecord}
use Rattle.cw_config.specs.View.{generation_of}
use Rattle.cw_model.specs.Fences.{StandingFence}
use Rattle.cw_open.specs.declared.fences.Fence.{Fence}
use Rattle.cw_open.specs.declared.fences.FenceTable.{FenceTable}

-- the fences of a connector
abbrev pub fences_at : BTreeMap (List ℕ) (List Fence) → List ℕ → List Fence
fences_at standing name = unwrap_or (get name_cmp standing name) []

-- the generations and the fences that these records have
pub record AreFences (table : FenceTable) (records : List ConfigRecord) : Type 0 where
  pub generations : (name : List ℕ) → get name_cmp table.generations name ≡ generation_of name records
  pub standing : (name : List ℕ) (fence : Fence) →
      Contains (fences_at table.standing name) fence ↔ StandingFence records name fence.generation fence.mark

-- a connector has one fence more
abbrev pub Notes : List ℕ → Fence → (old new : BTreeMap (List ℕ) (List Fence)) → Type 0
Notes name fence old new = (q : List ℕ) →
    fences_at new q ≡ (if is_at (name_cmp name) q then fences_at old name ++ fence ∷ [] else fences_at old q)

-- a fence of a connector with this mark stands for its generation, if it has one
pub record Fences (name : List ℕ) (mark : ℕ) (old new : FenceTable) : Type 0 where
  pub generations : new.generations ≡ old.generations
  pub standing : (q : List ℕ) (fence : Fence) → Contains (fences_at new.standing q) fence ↔
      (Contains (fences_at old.standing q) fence ⊎
      ((q ≡ name) × (get name_cmp old.generations name ≡ Some fence.generation) × (mark ≡ fence.mark)))
