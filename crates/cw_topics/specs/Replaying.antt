-- The puts of each transaction that stands in an offset log, as a table in which an opening finds those of a commit
-- without a walk of the log. Internal: no public contract cites this.
use Rattle.std.specs.Prelude.{◌≡◌, List, [], ◌++◌, Option, Some, None}
use Rattle.std.specs.BTreeMap.{BTreeMap, get}
use Rattle.std.specs.Global.{Vec}
use Rattle.cw_types.specs.declared.ids.Tag.{Tag}
use Rattle.cw_types.specs.Same.{same_tag, tag_order}
use Rattle.cw_offset.specs.Calls.{Calls}
use Rattle.cw_offset.specs.declared.body.OffsetEntry.{OffsetEntry}
use Rattle.cw_offset.specs.declared.call.OffsetCall.{OffsetCall}
use Rattle.cw_offset.specs.Replay.{puts_of}

-- the calls in a row; a missing one has none
abbrev pub items_in : Option (Vec OffsetCall) → List OffsetCall
items_in None = []
items_in (Some row) = row.items

-- the puts of a transaction
abbrev pub puts_at : BTreeMap Tag (Vec OffsetCall) → Tag → List OffsetCall
puts_at rows tag = items_in (get tag_order rows tag)

-- the table has the puts of each transaction of a log, in the log's order
abbrev pub ArePuts : BTreeMap Tag (Vec OffsetCall) → List OffsetEntry → Type 0
ArePuts rows log = (tag : Tag) → puts_at rows tag ≡ puts_of (same_tag tag) log

-- with these calls behind those that were made, and no memory taken for others
abbrev pub told_more : List OffsetCall → Calls → Calls
told_more calls t = record { calls = t.calls ++ calls; reserved = [] }
