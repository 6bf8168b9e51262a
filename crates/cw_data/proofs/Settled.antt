-- The data log's invariant behind its steps.
use Rattle.std.proofs.Common.{◌≡◌, ℕ, ◌+◌, ◌≤◌, List, [], ◌∷◌, ◌++◌, length, take, drop, slice_index_or, Option, None, Some, sym, ap, subst, ◌∙◌, arith}
use Rattle.std.specs.BTreeMap.{get}
use Rattle.std.specs.List.{count_by}
use Rattle.std.proofs.lemmas.List.{get_or_default}
use Rattle.std.proofs.lemmas.List.Elements.{Contains-append_left, Contains-append_right}
use Rattle.cw_types.proofs.Lists.{cut_at}
use Rattle.cw_data.specs.declared.entry.DataEntry.{DataEntry}
use Rattle.cw_data.specs.declared.topic.Topic.{Topic}
use Rattle.cw_data.specs.declared.tables.Tables.{Tables}
use Rattle.cw_data.specs.DataLog.{WithoutFirst}
use Rattle.cw_data.specs.Tables.{name_order, is_batch_of, RoomAt, Keeps, HasRoom, IsFirstAt, IsDataLog}
use Rattle.cw_data.proofs.Lists.{count-split}
use Rattle.cw_data.proofs.Waits.{places_alone}

room_less : (n m : ℕ) (o : Option Topic) → n ≤ m → RoomAt m o → RoomAt n o
room_less n m None less room = tt
room_less n m (Some topic) less room = omega (arith, less, room)

-- room for one of the entries alone
pub alone : (tables : Tables) (front : List DataEntry) (entry : DataEntry) (back : List DataEntry) → HasRoom tables (front ++ entry ∷ back) → HasRoom tables (entry ∷ [])
alone tables front entry back was = record {
  rows = λ e there. was.rows e (Contains-append_right front (entry ∷ back) e (Contains-append_left (entry ∷ []) back e there));
  unmarked = places_alone tables.unmarked front entry back was.unmarked;
  topics = λ name.
      let less : count_by (is_batch_of name) (entry ∷ []) ≤ count_by (is_batch_of name) (front ++ entry ∷ back) = omega (arith, count-split (is_batch_of name) front entry back, count-split (is_batch_of name) [] entry []) in
      room_less (count_by (is_batch_of name) (entry ∷ [])) (count_by (is_batch_of name) (front ++ entry ∷ back)) (get name_order tables.topics name) less (was.topics name);
}

-- with more room
pub roomier : (tables : Tables) (entries reserved : List DataEntry) (capacity : ℕ) → IsDataLog tables entries reserved capacity → (now : Tables) (same : List DataEntry) (more : ℕ)
    → ((list : List DataEntry) → Keeps tables list → Keeps now list) → HasRoom now reserved → same ≡ entries → capacity ≤ more → IsDataLog now same reserved more
roomier tables entries reserved capacity was now same more kept has is grown = record {
  kept = subst (Keeps now) (sym is) (kept entries was.kept);
  has = has;
  room = omega (arith, was.room, grown, ap length is);
}

-- what is taken from the first place of an entry is that entry
pub taken_is : (entries : List DataEntry) (at : ℕ) (entry taken : DataEntry) → IsFirstAt entry entries at → taken ≡ slice_index_or entries at taken → taken ≡ entry
taken_is entries at entry taken first is = is ∙ get_or_default entries at taken entry first.within ∙ first.there

pub without : (entries rest : List DataEntry) (at : ℕ) → rest ≡ take at entries ++ drop (at + 1) entries → (entry : DataEntry) → IsFirstAt entry entries at → WithoutFirst entry entries rest
without entries rest at taken entry first = record {
  front = take at entries;
  back = drop (at + 1) entries;
  split = cut_at entries at entry first.within first.there;
  first = first.first;
  rest = taken;
}

-- the log without what was reserved at a place
pub has_all : (tables : Tables) (reserved : List DataEntry) (at : ℕ) (entry taken : DataEntry) → IsFirstAt entry reserved at → taken ≡ entry → HasRoom tables reserved → HasRoom tables (take at reserved ++ taken ∷ drop (at + 1) reserved)
has_all tables reserved at entry taken first one was =
    subst (λ (e : DataEntry). HasRoom tables (take at reserved ++ e ∷ drop (at + 1) reserved)) (sym one) (subst (HasRoom tables) (cut_at reserved at entry first.within first.there) was)
