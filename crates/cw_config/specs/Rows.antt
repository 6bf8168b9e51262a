-- What a table says of a key. Internal: no public contract cites this.
use Rattle.std.specs.Prelude.{Option, None, unwrap_or}
use Rattle.std.specs.BTreeMap.{BTreeMap, get}
use Rattle.std.specs.declared.cmp.Ordering.{Ordering}

-- what a key's row has; a row without a value reads as one that isn't there
abbrev pub row_at : {K V : Type 0} → (K → K → Ordering) → BTreeMap K (Option V) → K → Option V
row_at order table key = unwrap_or (get order table key) None
