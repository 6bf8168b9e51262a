-- What the log keeps of its batches without marker: their places by transactions, and where in the log each of these
-- begins, so that no others are walked where one ends. Internal: no public contract cites this.
use Rattle.std.specs.Prelude.{◌≡◌, ℕ, ◌+◌, ◌≤◌, ◌<◌, ◌^◌, ◌==◌, Bool, false, List, [], ◌∷◌, ◌++◌, length, slice_get}
use Rattle.std.specs.Prelude.{vec_capacity, Option, None, Some, is_none, IsSome, unwrap_or, if◌then◌else◌}
use Rattle.std.specs.Option.{option_or}
use Rattle.std.specs.List.{count_by}
use Rattle.std.specs.BTreeMap.{BTreeMap, get}
use Rattle.std.specs.Ordering.{nat_cmp}
use Rattle.std.specs.Global.{Vec}
use Rattle.cw_types.specs.declared.ids.Tag.{Tag}
use Rattle.cw_types.specs.declared.verdict.Verdict.{Verdict}
use Rattle.cw_types.specs.Same.{same_tag, tag_order}
use Rattle.cw_types.specs.Verdict.{has_ended}
use Rattle.cw_data.specs.declared.entry.Batch.{Batch}
use Rattle.cw_data.specs.declared.entry.DataEntry.{DataEntry}
use Rattle.cw_data.specs.declared.entry.DataEntry.TheVariants.{Batch as InBatch, Mark}
use Rattle.cw_data.specs.declared.unmarked.Unmarked.{Unmarked}
use Rattle.cw_data.specs.Rows.{Marks, batch_at}

-- ---- among the entries

-- whether an entry is a batch of a transaction
abbrev pub is_batch_with : Tag → DataEntry → Bool
is_batch_with tag (InBatch batch) = same_tag tag batch.tag
is_batch_with tag (Mark other committed) = false

-- the place of an entry, if it is one
abbrev pub place_with : Tag → ℕ → DataEntry → List ℕ
place_with tag place entry = if is_batch_with tag entry then place ∷ [] else []

-- the places of a transaction's batches, the first of these entries standing at a place
abbrev pub places_from : Tag → ℕ → List DataEntry → List ℕ
places_from tag place [] = []
places_from tag place (entry ∷ entries) = place_with tag place entry ++ places_from tag (place + 1) entries

-- the places of a transaction's batches, unless it has a marker
abbrev pub unmarked_of : Marks → List DataEntry → Tag → List ℕ
unmarked_of marks entries tag = if is_none (marks tag) then places_from tag 0 entries else []

-- whether this is the place, if there is one
abbrev pub is_place : Option ℕ → ℕ → Bool
is_place None n = false
is_place (Some place) n = place == n

-- whether a transaction without marker begins with the batch at a place
abbrev pub begins_with : Marks → List DataEntry → ℕ → Option Batch → Bool
begins_with marks entries place None = false
begins_with marks entries place (Some batch) = is_place (slice_get (unmarked_of marks entries batch.tag) 0) place

abbrev pub begins_at : Marks → List DataEntry → ℕ → Bool
begins_at marks entries place = begins_with marks entries place (batch_at entries place)

-- the transaction of a batch, if it has ended
abbrev pub ended_of : (Tag → Verdict) → Option Batch → Option Tag
ended_of verdict None = None
ended_of verdict (Some batch) = if has_ended (verdict batch.tag) then Some batch.tag else None

-- ---- the tables

-- what the order says of a place; a missing row reads as one where none begins
abbrev pub stands_at : BTreeMap ℕ Bool → ℕ → Bool
stands_at order place = unwrap_or (get nat_cmp order place) false

-- what the table says of a transaction; a missing row reads as no place
abbrev pub items_of : Option (Vec ℕ) → List ℕ
items_of None = []
items_of (Some places) = places.items

abbrev pub places_at : BTreeMap Tag (Vec ℕ) → Tag → List ℕ
places_at places tag = items_of (get tag_order places tag)

-- the tables are those of the entries
pub record KeepsPlaces (marks : Marks) (entries : List DataEntry) (unmarked : Unmarked) : Type 0 where
  pub next : unmarked.next ≡ length entries
  pub places : (tag : Tag) → places_at unmarked.places tag ≡ unmarked_of marks entries tag
  pub order : (n : ℕ) → stands_at unmarked.order n ≡ begins_at marks entries n

-- the transaction that begins at a row's place, if it has ended
abbrev pub ended_in : (Tag → Verdict) → List DataEntry → ℕ × Bool → Option Tag
ended_in verdict entries row = if row.1 then ended_of verdict (batch_at entries row.0) else None

-- the first transaction that has ended
abbrev pub first_ended : (Tag → Verdict) → List DataEntry → List (ℕ × Bool) → Option Tag
first_ended verdict entries [] = None
first_ended verdict entries (row ∷ rows) = option_or (ended_in verdict entries row) (first_ended verdict entries rows)

-- ---- room

-- room for so many places more of a transaction
abbrev pub HasRoomFor : ℕ → Option (Vec ℕ) → Type 0
HasRoomFor more None = more ≡ 0
HasRoomFor more (Some places) = length places.items + more ≤ vec_capacity places

-- a row of the order for each of these entries, and room for the places of their batches
pub record HasPlaces (unmarked : Unmarked) (reserved : List DataEntry) : Type 0 where
  pub rows : (n : ℕ) → unmarked.next ≤ n → n < unmarked.next + length reserved → IsSome (get nat_cmp unmarked.order n)
  pub small : unmarked.next + length reserved < 2 ^ 64
  pub room : (tag : Tag) → HasRoomFor (count_by (is_batch_with tag) reserved) (get tag_order unmarked.places tag)

-- rows and room were made, and all reads as before
pub record Roomier (old new : Unmarked) : Type 0 where
  pub next : new.next ≡ old.next
  pub order : (n : ℕ) → stands_at new.order n ≡ stands_at old.order n
  pub places : (tag : Tag) → places_at new.places tag ≡ places_at old.places tag
  pub rows : (n : ℕ) → IsSome (get nat_cmp old.order n) → IsSome (get nat_cmp new.order n)
  pub room : (n : ℕ) (tag : Tag) →
      HasRoomFor n (get tag_order old.places tag) → HasRoomFor n (get tag_order new.places tag)
