-- What a data log is to its callers: the list of entries, and calls for which room was made before they are done.
use Rattle.std.specs.Prelude.{◌≡◌, List, [], ◌∷◌, ◌++◌, Contains, ◌⊎◌}
use Rattle.cw_data.specs.declared.entry.DataEntry.{DataEntry}

-- the entries in order, and those reserved, each of which takes no memory when it is added
pub record DataLog : Type 0 where
  pub entries : List DataEntry
  pub reserved : List DataEntry

-- a list without the first place of an entry in it
pub record WithoutFirst (entry : DataEntry) (old new : List DataEntry) : Type 0 where
  pub front : List DataEntry
  pub back : List DataEntry
  pub split : old ≡ front ++ entry ∷ back
  pub first : ¬ Contains front entry
  pub rest : new ≡ front ++ back

-- a list without one place of an entry, where it has one
abbrev pub UsesUp : DataEntry → List DataEntry → List DataEntry → Type 0
UsesUp entry old new = WithoutFirst entry old new ⊎ ((¬ Contains old entry) × (new ≡ old))

-- an entry was added, and its reservation, if there was one, is used up
pub record Adds (entry : DataEntry) (old new : DataLog) : Type 0 where
  pub entries : new.entries ≡ old.entries ++ entry ∷ []
  pub reserved : UsesUp entry old.reserved new.reserved
