-- What the statuses are to their callers: the list of applied records, and records for which room was made before
-- they are applied.
use Rattle.std.specs.Prelude.{◌≡◌, List, [], ◌∷◌, ◌++◌, Contains, ◌⊎◌}
use Rattle.cw_status.specs.declared.record.StatusRecord.{StatusRecord}

-- the records in order, and those reserved, each of which takes no memory when it is applied
pub record Records : Type 0 where
  pub applied : List StatusRecord
  pub reserved : List StatusRecord

-- a list without the first place of a record in it
pub record WithoutFirst (last : StatusRecord) (old new : List StatusRecord) : Type 0 where
  pub front : List StatusRecord
  pub back : List StatusRecord
  pub split : old ≡ front ++ last ∷ back
  pub first : ¬ Contains front last
  pub rest : new ≡ front ++ back

-- a list without one place of a record, where it has one
abbrev pub UsesUp : StatusRecord → List StatusRecord → List StatusRecord → Type 0
UsesUp last old new = WithoutFirst last old new ⊎ ((¬ Contains old last) × (new ≡ old))

-- a record was applied, and its reservation, if there was one, is used up
pub record Applies (last : StatusRecord) (old new : Records) : Type 0 where
  pub applied : new.applied ≡ old.applied ++ last ∷ []
  pub reserved : UsesUp last old.reserved new.reserved
