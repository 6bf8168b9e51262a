-- What is committed of a part (KIP-618): an offset that a task stores waits under its transaction until that is
-- marked, and one that a user sets counts at once.
use Rattle.std.specs.Prelude.{ℕ, Bool, true, false, ◌&&◌, List, [], ◌∷◌, Option, None, Some, is_none, unwrap_or}
use Rattle.std.specs.Prelude.{option_and_then, if◌then◌else◌}
use Rattle.std.specs.Option.{option_or}
use Rattle.std.specs.List.{cons_option, find}
use Rattle.cw_types.specs.Verdict.{has_ended}
use Rattle.cw_types.specs.declared.ids.Tag.{Tag}
use Rattle.cw_types.specs.declared.ids.PartKey.{PartKey}
use Rattle.cw_types.specs.declared.verdict.Verdict.{Verdict}
use Rattle.cw_types.specs.Same.{same_tag, same_part}
use Rattle.cw_offset.specs.declared.call.OffsetCall.{OffsetCall}
use Rattle.cw_offset.specs.declared.call.OffsetCall.TheVariants.{Stand, Put, Commit, Abort, Set}

-- whether a call marks a transaction, and then whether as committed
abbrev pub mark_in : Tag → OffsetCall → Option Bool
mark_in tag (Stand other) = None
mark_in tag (Put other part to) = None
mark_in tag (Commit other) = if same_tag tag other then Some true else None
mark_in tag (Abort other) = if same_tag tag other then Some false else None
mark_in tag (Set part to) = None

-- the same of the first of these calls that marks it
abbrev pub marker_of : Tag → List OffsetCall → Option Bool
marker_of tag [] = None
marker_of tag (call ∷ calls) = option_or (mark_in tag call) (marker_of tag calls)

-- whether a marker is one of a commit
abbrev pub is_commit : Option Bool → Bool
is_commit marker = unwrap_or marker false

-- what a call says of a part, by the markers behind it: a put says its offset where its transaction is committed, and
-- a set says what it sets
abbrev pub said_in : PartKey → (marker : Tag → Option Bool) → OffsetCall → Option (Option ℕ)
said_in part marker (Stand tag) = None
said_in part marker (Put tag other to) = if same_part part other && is_commit (marker tag) then Some (Some to) else None
said_in part marker (Commit tag) = None
said_in part marker (Abort tag) = None
said_in part marker (Set other to) = if same_part part other then Some to else None

-- what the last of these calls says of it that says something
abbrev pub said_of : PartKey → List OffsetCall → Option (Option ℕ)
said_of part [] = None
said_of part (call ∷ calls) = option_or (said_of part calls) (said_in part (λ tag. marker_of tag calls) call)

-- what is committed of a part: the value of the last of its sets and committed puts, none where there is none
abbrev pub committed : PartKey → List OffsetCall → Option ℕ
committed part calls = unwrap_or (said_of part calls) None

-- the transaction whose records stand in the log by a call
abbrev pub tag_in : OffsetCall → Option Tag
tag_in (Stand tag) = Some tag
tag_in (Put tag part to) = Some tag
tag_in (Commit tag) = None
tag_in (Abort tag) = None
tag_in (Set part to) = None

-- a transaction, if it has no marker among these calls
abbrev pub if_unmarked : List OffsetCall → Tag → Option Tag
if_unmarked calls tag = if is_none (marker_of tag calls) then Some tag else None

-- the transactions that wait for a marker, in the order in which their calls were made
abbrev pub waiting : List OffsetCall → List Tag
waiting [] = []
waiting (call ∷ calls) = cons_option (option_and_then (if_unmarked calls) (tag_in call)) (waiting calls)

-- the first transaction that has ended and that waits for its marker
abbrev pub first_unmarked : (Tag → Verdict) → List OffsetCall → Option Tag
first_unmarked verdict calls = find (λ tag. has_ended (verdict tag)) (waiting calls)
