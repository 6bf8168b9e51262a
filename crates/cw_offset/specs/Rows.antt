-- Offsets of parts with the places of the calls that say them. Internal: no public contract cites this.
use Rattle.std.specs.Prelude.{◌≡◌, ℕ, ◌<◌, Bool, true, nat_lt, nat_le, Option, None, Some, IsSome, unwrap_or}
use Rattle.std.specs.Prelude.{if◌then◌else◌}
use Rattle.std.specs.BTreeMap.{BTreeMap, get}
use Rattle.cw_types.specs.declared.ids.PartKey.{PartKey}
use Rattle.cw_types.specs.Same.{part_order}
use Rattle.cw_offset.specs.declared.under.Settled.{Settled}
use Rattle.cw_offset.specs.declared.under.Under.{Under}

-- a value at its place among the calls
abbrev pub value_at : ℕ → Option ℕ → Settled
value_at place to = record { place = place; to = to }

-- the value that is settled, if there is one
abbrev pub value_in : Option Settled → Option ℕ
value_in None = None
value_in (Some s) = s.to

-- what a table says of a part; a missing row reads as nothing
abbrev pub settled_at : BTreeMap PartKey (Option Settled) → PartKey → Option Settled
settled_at parts part = unwrap_or (get part_order parts part) None

-- a part has a row
abbrev pub HasPart : BTreeMap PartKey (Option Settled) → PartKey → Type 0
HasPart parts part = IsSome (get part_order parts part)

-- whether a place is behind that of a value
abbrev pub is_behind : Option Settled → ℕ → Bool
is_behind None place = true
is_behind (Some s) place = nat_lt s.place place

-- that of two values which has the later place
abbrev pub later : Option Settled → Option Settled → Option Settled
later s None = s
later s (Some put) = if is_behind s put.place then Some put else s

-- a value that doesn't stand before a place
abbrev pub if_from : ℕ → Option Settled → Option Settled
if_from place None = None
if_from place (Some s) = if nat_le place s.place then Some s else None

-- a value from the first place on, if there is one
abbrev pub if_begun : Option ℕ → Option Settled → Option Settled
if_begun None s = None
if_begun (Some place) s = if_from place s

-- what waits from a place on, unless it does so already, and what doesn't wait any more
abbrev pub begun : ℕ → Under → Under
begun place under = record under { first = Some (unwrap_or under.first place) }

abbrev pub ended : Under → Under
ended under = record under { first = None }

-- the put of a part that waits
abbrev pub waits_in : Under → PartKey → Option Settled
waits_in under part = if_begun under.first (settled_at under.parts part)

-- the values stand before a place
abbrev pub AreEarly : BTreeMap PartKey (Option Settled) → ℕ → Type 0
AreEarly parts place = (part : PartKey) (s : Settled) → settled_at parts part ≡ Some s → s.place < place
