-- What a transaction coordinator is to its callers: the list of entries, and entries for which room was made before
-- they are written.
use Rattle.std.specs.Prelude.{◌≡◌, ℕ, List, [], ◌∷◌, ◌++◌, length, map, ◌≤◌, All, Contains, IsSome, Some, ◌⊎◌}
use Rattle.std.specs.List.{IsDistinct}
use Rattle.cw_types.specs.declared.ids.PartKey.{PartKey}
use Rattle.cw_types.specs.declared.ids.Span.{Span}
use Rattle.cw_txn.specs.declared.entry.Entry.{Entry}
use Rattle.cw_types.specs.Same.{same_part, connector_of}
use Rattle.cw_txn.specs.History.{history, end_of, GoesOn}

-- the entries in order, and those reserved, each of which takes no memory when it is written
pub record Transactions : Type 0 where
  pub entries : List Entry
  pub reserved : List Entry

-- a list without the first place of an entry in it
pub record WithoutFirst (entry : Entry) (old new : List Entry) : Type 0 where
  pub front : List Entry
  pub back : List Entry
  pub split : old ≡ front ++ entry ∷ back
  pub first : ¬ Contains front entry
  pub rest : new ≡ front ++ back

-- a list without one place of an entry, where it has one
abbrev pub UsesUp : Entry → List Entry → List Entry → Type 0
UsesUp entry old new = WithoutFirst entry old new ⊎ ((¬ Contains old entry) × (new ≡ old))

-- an entry was appended, and its reservation, if there was one, is used up
pub record Appends (entry : Entry) (old new : Transactions) : Type 0 where
  pub entries : new.entries ≡ old.entries ++ entry ∷ []
  pub reserved : UsesUp entry old.reserved new.reserved

-- spans that may be committed behind these entries: 1 to 16, of distinct parts, each from its part's end
pub record AreNext (entries : List Entry) (spans : List Span) : Type 0 where
  pub some : 1 ≤ length spans
  pub few : length spans ≤ 16
  pub distinct : IsDistinct same_part (map (λ span. span.part) spans)
  pub go_on : All (λ span. GoesOn (history span.part entries) span) spans

-- these are the parts of a connector that have an end
pub record ArePartsOf (connector : List ℕ) (entries : List Entry) (parts : List PartKey) : Type 0 where
  pub each_once : IsDistinct same_part parts
  pub theirs : (part : PartKey) → Contains parts part →
      (connector_of part ≡ Some connector) × IsSome (end_of part entries)
  pub all : (part : PartKey) → connector_of part ≡ Some connector → IsSome (end_of part entries) → Contains parts part
