-- What a changed row of a table says.
use Rattle.std.proofs.Common.{◌≡◌, ℕ, ◌+◌, ◌≤◌, Bool, true, false, cond, List, [], length, vec_capacity, Option, None, Some, IsSome, refl, sym, ap, subst, ◌∙◌, arith}
use Rattle.std.specs.BTreeMap.{BTreeMap, get, is_at}
use Rattle.std.specs.Str.{bytes_eq}
use Rattle.std.specs.Global.{Vec}
use Rattle.std.proofs.lemmas.Slice.Eq.{bytes_eq-Decides}
use Rattle.cw_types.specs.declared.ids.Tag.{Tag}
use Rattle.cw_data.specs.declared.topic.Topic.{Topic}
use Rattle.cw_types.specs.Same.{same_tag, tag_order}
use Rattle.cw_data.specs.Tables.{name_order, marks_in}
use Rattle.cw_data.specs.Unmarked.{items_of, places_at, HasRoomFor}
use Rattle.cw_types.proofs.SameLemmas.{tag_at, same_tag-flip, same_tag-Decides}
use Rattle.cw_tables.proofs.RowLemmas.{value-set}
use Rattle.cw_data.proofs.Names.{name_at, bytes_eq-flip}

by_test : (P : Option Topic → Type 0) (b : Bool) (x y : Option Topic) → (b ≡ true → P x) → (b ≡ false → P y) → P (cond b x y)
by_test P true x y here others = here refl
by_test P false x y here others = others refl

-- a table of topics in which one has another row
module _ (old new : BTreeMap (List ℕ) Topic) (name : List ℕ) (topic : Topic) (set : (q : List ℕ) → get name_order new q ≡ cond (is_at (name_order name) q) (Some topic) (get name_order old q)) where
  row_at : (q : List ℕ) → get name_order new q ≡ cond (bytes_eq q name) (Some topic) (get name_order old q)
  row_at q = set q ∙ ap (λ b. cond b (Some topic) (get name_order old q)) (name_at name q ∙ bytes_eq-flip name q)

  -- what holds at each name
  pub at_changed : (P : List ℕ → Option Topic → Type 0) (q : List ℕ) → (q ≡ name → P q (Some topic)) → (bytes_eq q name ≡ false → P q (get name_order old q)) → P q (get name_order new q)
  at_changed P q here others = subst (P q) (sym (row_at q)) (by_test (P q) (bytes_eq q name) (Some topic) (get name_order old q) (λ same. here ((bytes_eq-Decides q name).0 same)) others)

  pub has_changed : (q : List ℕ) → IsSome (get name_order old q) → IsSome (get name_order new q)
  has_changed q had = at_changed (λ n o. IsSome o) q (λ same. refl) (λ other. had)

  pub others_stay : (q : List ℕ) → bytes_eq q name ≡ false → get name_order new q ≡ get name_order old q
  others_stay q other = row_at q ∙ ap (λ b. cond b (Some topic) (get name_order old q)) other

-- a row that is found, under another spelling of its name
pub row_of : (P : List ℕ → Option Topic → Type 0) (table : BTreeMap (List ℕ) Topic) (name q : List ℕ) (topic : Topic) → get name_order table name ≡ Some topic → q ≡ name → P q (get name_order table q) → P q (Some topic)
row_of P table name q topic found same was = subst (P q) (ap (get name_order table) same ∙ found) was

-- what a table of marks says behind one of its rows set
pub marks_in-set : (old new : BTreeMap Tag (Option Bool)) (tag : Tag) (row : Option Bool) → ((q : Tag) → get tag_order new q ≡ cond (is_at (tag_order tag) q) (Some row) (get tag_order old q))
    → (q : Tag) → marks_in new q ≡ cond (same_tag q tag) row (marks_in old q)
marks_in-set old new tag row set = value-set (get tag_order) (λ (a b : Tag). is_at (tag_order a) b) same_tag tag_at same_tag-flip same_tag-Decides None old new tag row set

-- a new row that reads as none
same_none : (b : Bool) (was : Option Bool) → (b ≡ true → was ≡ None) → cond b None was ≡ was
same_none true was none = sym (none refl)
same_none false was none = refl

-- a table of places in which a transaction has another row
module _ (old new : BTreeMap Tag (Vec ℕ)) (tag : Tag) (row : Vec ℕ) (set : (q : Tag) → get tag_order new q ≡ cond (is_at (tag_order tag) q) (Some row) (get tag_order old q)) where
  tag_row : (q : Tag) → get tag_order new q ≡ cond (same_tag q tag) (Some row) (get tag_order old q)
  tag_row q = set q ∙ ap (λ (b : Bool). cond b (Some row) (get tag_order old q)) (tag_at tag q ∙ same_tag-flip tag q)

  -- a new one
  module _ (none : get tag_order old tag ≡ None) (empty : row.items ≡ []) where
    pub places_new : (q : Tag) → places_at new q ≡ places_at old q
    places_new q = ap items_of (tag_row q) ∙ by (same_tag q tag) refl
      where
        by : (b : Bool) → same_tag q tag ≡ b → items_of (cond b (Some row) (get tag_order old q)) ≡ items_of (get tag_order old q)
        by true same = empty ∙ sym (ap items_of (ap (get tag_order old) ((same_tag-Decides q tag).0 same) ∙ none))
        by false other = refl

    pub room_new : length row.items ≤ vec_capacity row → (n : ℕ) (q : Tag) → HasRoomFor n (get tag_order old q) → HasRoomFor n (get tag_order new q)
    room_new fits n q was = subst (HasRoomFor n) (sym (tag_row q)) (by (same_tag q tag) refl)
      where
        by : (b : Bool) → same_tag q tag ≡ b → HasRoomFor n (cond b (Some row) (get tag_order old q))
        by true same = let zero' : n ≡ 0 = subst (HasRoomFor n) (ap (get tag_order old) ((same_tag-Decides q tag).0 same) ∙ none) was in omega (arith, zero', fits)
        by false other = was

  -- one in the place of another
  module _ (before : Vec ℕ) (there : get tag_order old tag ≡ Some before) where
    pub places_moved : (f : List ℕ → List ℕ) → row.items ≡ f before.items → (q : Tag) → places_at new q ≡ cond (same_tag q tag) (f (places_at old q)) (places_at old q)
    places_moved f is q = ap items_of (tag_row q) ∙ by (same_tag q tag) refl
      where
        by : (b : Bool) → same_tag q tag ≡ b → items_of (cond b (Some row) (get tag_order old q)) ≡ cond b (f (places_at old q)) (places_at old q)
        by true same = is ∙ sym (ap (λ o. f (items_of o)) (ap (get tag_order old) ((same_tag-Decides q tag).0 same) ∙ there))
        by false other = refl

    pub places_same : row.items ≡ before.items → (q : Tag) → places_at new q ≡ places_at old q
    places_same is q = places_moved (λ l. l) is q ∙ either (same_tag q tag) (places_at old q)
      where
        either : (b : Bool) (l : List ℕ) → cond b l l ≡ l
        either true l = refl
        either false l = refl

    pub room_moved : (k : ℕ) → ((n : ℕ) → length before.items + (n + k) ≤ vec_capacity before → length row.items + n ≤ vec_capacity row)
        → (n : ℕ) (q : Tag) → HasRoomFor (n + cond (same_tag q tag) k 0) (get tag_order old q) → HasRoomFor n (get tag_order new q)
    room_moved k fits n q was = subst (HasRoomFor n) (sym (tag_row q)) (by (same_tag q tag) refl was)
      where
        by : (b : Bool) → same_tag q tag ≡ b → HasRoomFor (n + cond b k 0) (get tag_order old q) → HasRoomFor n (cond b (Some row) (get tag_order old q))
        by true same had = fits n (subst (HasRoomFor (n + k)) (ap (get tag_order old) ((same_tag-Decides q tag).0 same) ∙ there) had)
        by false other had = let e : n + 0 ≡ n = omega arith in subst (λ m. HasRoomFor m (get tag_order old q)) e had

    pub room_same : ((n : ℕ) → length before.items + n ≤ vec_capacity before → length row.items + n ≤ vec_capacity row) → (n : ℕ) (q : Tag) → HasRoomFor n (get tag_order old q) → HasRoomFor n (get tag_order new q)
    room_same fits n q was = room_moved 0 (λ m less. fits m (omega (arith, less))) n q (by (same_tag q tag))
      where
        by : (b : Bool) → HasRoomFor (n + cond b 0 0) (get tag_order old q)
        by true = let e : n ≡ n + 0 = omega arith in subst (λ m. HasRoomFor m (get tag_order old q)) e was
        by false = let e : n ≡ n + 0 = omega arith in subst (λ m. HasRoomFor m (get tag_order old q)) e was

-- less room
pub room_less : (n k : ℕ) (o : Option (Vec ℕ)) → HasRoomFor (n + k) o → HasRoomFor n o
room_less n k None room = omega (arith, room)
room_less n k (Some places) room = omega (arith, room)
