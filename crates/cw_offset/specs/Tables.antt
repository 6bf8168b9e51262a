-- What the tables keep of the calls, so that no look-up walks them. Internal: no public contract cites this.
use Rattle.std.specs.Prelude.{◌≡◌, ℕ, ◌+◌, ◌≤◌, ◌<◌, ◌^◌, Bool, false, ◌&&◌, ◌==◌, List, [], ◌∷◌, length, Contains}
use Rattle.std.specs.Prelude.{Option, None, Some, IsSome, is_none, option_map, unwrap_or, slice_index_or, take}
use Rattle.std.specs.Prelude.{if◌then◌else◌}
use Rattle.std.specs.Bool.{⊤}
use Rattle.std.specs.Option.{option_or}
use Rattle.std.specs.List.{find, filter_map}
use Rattle.std.specs.BTreeMap.{BTreeMap, get, is_at}
use Rattle.std.specs.Ordering.{nat_cmp}
use Rattle.cw_types.specs.declared.ids.Tag.{Tag}
use Rattle.cw_types.specs.declared.ids.PartKey.{PartKey}
use Rattle.cw_types.specs.declared.verdict.Verdict.{Verdict}
use Rattle.cw_types.specs.Same.{same_tag, same_part, part_order, tag_order}
use Rattle.cw_types.specs.Verdict.{has_ended}
use Rattle.cw_offset.specs.declared.call.OffsetCall.{OffsetCall}
use Rattle.cw_offset.specs.declared.call.OffsetCall.TheVariants.{Stand, Put, Commit, Abort, Set}
use Rattle.cw_offset.specs.declared.call.CallRef.{CallRef}
use Rattle.cw_offset.specs.declared.call.CallRef.TheVariants.{Stand as StandRef, Put as PutRef, Commit as CommitRef}
use Rattle.cw_offset.specs.declared.call.CallRef.TheVariants.{Abort as AbortRef, Set as SetRef}
use Rattle.cw_offset.specs.declared.under.Settled.{Settled}
use Rattle.cw_offset.specs.declared.under.Under.{Under}
use Rattle.cw_offset.specs.declared.tables.Tables.{Tables}
use Rattle.cw_offset.specs.Offsets.{marker_of, said_in}
use Rattle.cw_offset.specs.Rows.{settled_at, HasPart, waits_in, AreEarly, value_at}

-- the call that is borrowed in parts
abbrev pub call_of : CallRef → OffsetCall
call_of (StandRef tag) = Stand tag.now
call_of (PutRef tag part to) = Put tag.now part.now to
call_of (CommitRef tag) = Commit tag.now
call_of (AbortRef tag) = Abort tag.now
call_of (SetRef part to) = Set part.now to

-- ---- what the calls say, with the places of those that say it

-- what the last call says of a part that says something, for calls from a place on
abbrev pub settled : PartKey → ℕ → List OffsetCall → Option Settled
settled part place [] = None
settled part place (call ∷ calls) =
    option_or (settled part (place + 1) calls)
    (option_map (value_at place) (said_in part (λ tag. marker_of tag calls) call))

-- whether a call is of a transaction whose records stand in the log by it
abbrev pub is_stand_of : Tag → OffsetCall → Bool
is_stand_of tag (Stand other) = same_tag tag other
is_stand_of tag (Put other part to) = same_tag tag other
is_stand_of tag (Commit other) = false
is_stand_of tag (Abort other) = false
is_stand_of tag (Set part to) = false

-- the place of the first call of a transaction that waits, for calls from a place on
abbrev pub first_at : Tag → ℕ → List OffsetCall → Option ℕ
first_at tag place [] = None
first_at tag place (call ∷ calls) =
    if is_stand_of tag call && is_none (marker_of tag calls) then Some place else first_at tag (place + 1) calls

-- what a call puts of a part under a transaction
abbrev pub put_at : Tag → PartKey → ℕ → OffsetCall → Option Settled
put_at tag part place (Stand other) = None
put_at tag part place (Put other of to) =
    if same_tag tag other && same_part part of then Some (value_at place (Some to)) else None
put_at tag part place (Commit other) = None
put_at tag part place (Abort other) = None
put_at tag part place (Set of to) = None

-- the last put of a part that waits under a transaction, for calls from a place on
abbrev pub waits_at : Tag → PartKey → ℕ → List OffsetCall → Option Settled
waits_at tag part place [] = None
waits_at tag part place (call ∷ calls) =
    option_or (waits_at tag part (place + 1) calls)
    (if is_none (marker_of tag calls) then put_at tag part place call else None)

-- ---- the tables

-- what waits under a transaction
abbrev pub first_in : Option Under → Option ℕ
first_in None = None
first_in (Some under) = under.first

abbrev pub put_in : Option Under → PartKey → Option Settled
put_in None part = None
put_in (Some under) part = waits_in under part

abbrev pub under_at : BTreeMap Tag Under → Tag → Option Under
under_at waiting tag = get tag_order waiting tag

-- a transaction has one put of a part more, at a place, behind which all others are as before
pub record Puts (place : ℕ) (part : PartKey) (to : ℕ) (old new : Under) : Type 0 where
  pub first : new.first ≡ old.first
  pub parts : (q : PartKey) → get part_order new.parts q
      ≡ (if is_at (part_order part) q then Some (Some (value_at place (Some to))) else get part_order old.parts q)

-- a row of a part may be new, and then reads as none
pub record MakesRows (old new : Under) : Type 0 where
  pub first : new.first ≡ old.first
  pub same : (q : PartKey) → settled_at new.parts q ≡ settled_at old.parts q
  pub kept : (q : PartKey) → HasPart old.parts q → HasPart new.parts q

-- the row of a transaction was changed, and no other
pub record Changes (by : Under → Under → Type 0) (tag : Tag) (old new : BTreeMap Tag Under) : Type 0 where
  pub was : Under
  pub now : Under
  pub there : under_at old tag ≡ Some was
  pub row : (q : Tag) → under_at new q ≡ (if same_tag q tag then Some now else under_at old q)
  pub change : by was now

-- the transaction at a place of the log; a missing row reads as none
abbrev pub stands_at : BTreeMap ℕ (Option Tag) → ℕ → Option Tag
stands_at order place = unwrap_or (get nat_cmp order place) None

-- whether this is the place, if there is one
abbrev pub is_place : Option ℕ → ℕ → Bool
is_place None n = false
is_place (Some place) n = place == n

-- a transaction, if it has ended
abbrev pub if_ended : (Tag → Verdict) → Option Tag → Option Tag
if_ended verdict None = None
if_ended verdict (Some tag) = if has_ended (verdict tag) then Some tag else None

-- the first transaction that has ended
abbrev pub first_ended : (Tag → Verdict) → List (Option Tag) → Option Tag
first_ended verdict rows = find (λ tag. has_ended (verdict tag)) (filter_map (λ row. row) rows)

-- what was put under a transaction stands before a place, and each part of it has a row of its own
abbrev pub IsBacked : BTreeMap PartKey (Option Settled) → ℕ → Option Under → Type 0
IsBacked parts place None = ⊤
IsBacked parts place (Some under) =
    AreEarly under.parts place
    × ((part : PartKey) (s : Settled) → settled_at under.parts part ≡ Some s → HasPart parts part)

-- the tables are those of the calls
pub record Keeps (tables : Tables) (calls : List OffsetCall) : Type 0 where
  pub next : tables.next ≡ length calls
  pub settled : (part : PartKey) → settled_at tables.parts part ≡ settled part 0 calls
  pub first : (tag : Tag) → first_in (under_at tables.waiting tag) ≡ first_at tag 0 calls
  pub waits : (tag : Tag) (part : PartKey) → put_in (under_at tables.waiting tag) part ≡ waits_at tag part 0 calls
  pub backed : (tag : Tag) → IsBacked tables.parts tables.next (under_at tables.waiting tag)
  pub stands : (place : ℕ) (tag : Tag) → stands_at tables.order place ≡ Some tag → first_at tag 0 calls ≡ Some place
  pub placed : (place : ℕ) (tag : Tag) → first_at tag 0 calls ≡ Some place → stands_at tables.order place ≡ Some tag

-- ---- room

-- a transaction has a row, and in it one of a part
abbrev pub HasUnder : BTreeMap Tag Under → Tag → Type 0
HasUnder waiting tag = IsSome (under_at waiting tag)

abbrev pub HasPartIn : Option Under → PartKey → Type 0
HasPartIn None part = ⊥
HasPartIn (Some under) part = HasPart under.parts part

-- the rows that a call may change are there
abbrev pub HasRows : Tables → OffsetCall → Type 0
HasRows tables (Stand tag) = HasUnder tables.waiting tag
HasRows tables (Put tag part to) = HasPart tables.parts part × HasPartIn (under_at tables.waiting tag) part
HasRows tables (Commit tag) = ⊤
HasRows tables (Abort tag) = ⊤
HasRows tables (Set part to) = HasPart tables.parts part

-- a row that is new, if it is one
abbrev pub IsFresh : Option Under → Type 0
IsFresh None = ⊤
IsFresh (Some under) = (under.first ≡ None) × ((part : PartKey) → get part_order under.parts part ≡ None)

-- each part of which a put waits under a transaction has a row of its own
abbrev pub BacksParts : Tables → Tag → Type 0
BacksParts tables tag =
    (part : PartKey) → IsSome (put_in (under_at tables.waiting tag) part) → HasPart tables.parts part

-- what waits of a transaction stands before the next call
abbrev pub StandsBefore : Tables → Tag → Type 0
StandsBefore tables tag = (n : ℕ) → first_in (under_at tables.waiting tag) ≡ Some n → n < tables.next

-- a row of the order for each of so many calls more
abbrev pub HasPlaces : BTreeMap ℕ (Option Tag) → ℕ → ℕ → Type 0
HasPlaces order place more = (n : ℕ) → place ≤ n → n < place + more → IsSome (get nat_cmp order n)

-- rows and places for these calls
pub record HasRoom (tables : Tables) (reserved : List OffsetCall) : Type 0 where
  pub rows : (call : OffsetCall) → Contains reserved call → HasRows tables call
  pub places : HasPlaces tables.order tables.next (length reserved)
  pub small : tables.next + length reserved < 2 ^ 64

-- rows were made, and all reads as before
pub record Roomier (old new : Tables) : Type 0 where
  pub next : new.next ≡ old.next
  pub settled : (q : PartKey) → settled_at new.parts q ≡ settled_at old.parts q
  pub parts : (q : PartKey) → HasPart old.parts q → HasPart new.parts q
  pub first : (tag : Tag) → first_in (under_at new.waiting tag) ≡ first_in (under_at old.waiting tag)
  pub waits : (tag : Tag) (q : PartKey) → put_in (under_at new.waiting tag) q ≡ put_in (under_at old.waiting tag) q
  pub backed : (n : ℕ) (tag : Tag) →
      IsBacked old.parts n (under_at old.waiting tag) → IsBacked new.parts n (under_at new.waiting tag)
  pub under : (tag : Tag) → HasUnder old.waiting tag → HasUnder new.waiting tag
  pub parts_in : (tag : Tag) (q : PartKey) →
      HasPartIn (under_at old.waiting tag) q → HasPartIn (under_at new.waiting tag) q
  pub stands : (n : ℕ) → stands_at new.order n ≡ stands_at old.order n
  pub places : (n : ℕ) → IsSome (get nat_cmp old.order n) → IsSome (get nat_cmp new.order n)

-- a call took its place, and left all other rows
pub record Uses (old new : Tables) : Type 0 where
  pub next : new.next ≡ old.next + 1
  pub parts : (part : PartKey) → HasPart old.parts part → HasPart new.parts part
  pub under : (tag : Tag) → HasUnder old.waiting tag → HasUnder new.waiting tag
  pub parts_in : (tag : Tag) (part : PartKey) →
      HasPartIn (under_at old.waiting tag) part → HasPartIn (under_at new.waiting tag) part
  pub places : (n : ℕ) → old.next < n → IsSome (get nat_cmp old.order n) → IsSome (get nat_cmp new.order n)

-- the first place of a call in a list
pub record IsFirstAt (call : OffsetCall) (calls : List OffsetCall) (at : ℕ) : Type 0 where
  pub within : at < length calls
  pub there : slice_index_or calls at call ≡ call
  pub first : ¬ Contains (take at calls) call

-- what all committed offsets keep: the tables are those of the calls, and room is there for what is reserved
pub record IsOffsets (tables : Tables) (calls reserved : List OffsetCall) : Type 0 where
  pub kept : Keeps tables calls
  pub room : HasRoom tables reserved
