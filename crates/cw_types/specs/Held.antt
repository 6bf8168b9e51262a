-- Where the bytes of a name are. Internal: no public contract cites this.
use Rattle.std.specs.Prelude.{ℕ, List, take}
use Rattle.cw_types.specs.declared.name.Held.{Held}
use Rattle.cw_types.specs.declared.name.Held.TheVariants.{Short, Long}

abbrev pub held_bytes : Held → List ℕ
held_bytes (Short length bytes) = take length bytes
held_bytes (Long bytes) = bytes.value.items
