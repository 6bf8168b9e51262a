-- The parts that a reply lists are those that the definition of the reply lists, in its order: both contain the same,
-- and parts of one connector whose partitions have one text are one.
use Rattle.std.proofs.Common.{◌≡◌, ℕ, zero, suc, ◌<◌, Bool, true, false, ◌&&◌, ◌||◌, cond, List, [], ◌∷◌, ◌++◌, map, length, slice_index_or, Some, unwrap_or, is_some, IsSome, All, Contains, ◌⊎◌, inl, inr, ⊎_elim, refl, ap, sym, subst, ◌∙◌, true≢false, arith}
use Rattle.std.specs.List.{fold, filter, flat_map, list_any}
use Rattle.std.specs.declared.cmp.Ordering.{Ordering}
use Rattle.std.specs.declared.cmp.Ordering.TheVariants.{Less, Equal, Greater}
use Rattle.std.specs.Ordering.{match_ordering, eq_by_cmp}
use Rattle.std.specs.BTreeSet.{insert_key}
use Rattle.std.specs.Cmp.Lexicographic.{nat_list_cmp_total}
use Rattle.std.specs.Cmp.{both_ways}
use Rattle.std.proofs.lemmas.Simd.{map-map}
use Rattle.std.proofs.lemmas.Option.{same_Some}
use Rattle.std.proofs.lemmas.Cmp.{eq_by_cmp_equiv}
use Rattle.std.proofs.lemmas.List.Concat.{flat_map_single}
use Rattle.std.proofs.lemmas.List.Elements.{All-nil, All-head, All-tail, All-weaker, All-contains, All-contains_itself, All-filter, filter_passes, Contains-append_left, Contains-append_right}
use Rattle.std.proofs.lemmas.Map.Views.{All-insert_key, list_any-from_Contains}
use Rattle.std.proofs.lemmas.Slice.Eq.{bytes_eq-Decides}
use Rattle.json.specs.Print.{quoted}
use Rattle.cw_types.specs.Order.{name_cmp}
use Rattle.cw_types.specs.Same.{same_part, connector_of}
use Rattle.cw_types.specs.declared.ids.PartKey.{PartKey}
use Rattle.cw_types.specs.declared.ids.PartKey.TheVariants.{Raw, File, Seq, Sink}
use Rattle.cw_types.specs.declared.ids.Span.{Span}
use Rattle.cw_types.proofs.SameLemmas.{same_part-Decides}
use Rattle.cw_keys.specs.Parts.{IsPart, is_raw, part_of, part_text}
use Rattle.cw_keys.proofs.PartKeys.{part_again}
use Rattle.cw_txn.specs.declared.entry.Entry.{Entry}
use Rattle.cw_txn.specs.declared.entry.Entry.TheVariants.{Bump, Commit, Set}
use Rattle.cw_txn.specs.declared.entry.SetOffset.{SetOffset}
use Rattle.cw_txn.specs.declared.history.History.{History}
use Rattle.cw_txn.specs.History.{unset, after_span, after_offset, after_entry, end_of}
use Rattle.cw_txn.specs.Transactions.{ArePartsOf}
use Rattle.cw_rest.specs.Offsets.{is_of_type, is_part_of, partition_cmp, parts_in, has_offset, parts_with_offsets}
use Rattle.cw_reply.specs.declared.placed.Placed.{Placed}
use Rattle.cw_reply.specs.Placed.{partition_text, placed_of, placed_cmp, with_part, in_order}
use Rattle.cw_reply.proofs.Connectors.{named, one_name}
use Rattle.cw_types.proofs.Sorted.{same_fold}

-- ---- a map that keeps the order goes through inserts

module _ {A B : Type 0} (f : A → B) (R : A → A → Ordering) (S : B → B → Ordering) (alike : (a b : A) → R a b ≡ S (f a) (f b)) where
  map-insert_at : (r : Ordering) (k x : A) (xs : List A) → map f (insert_key R xs k) ≡ insert_key S (map f xs) (f k)
      → map f (match_ordering r (k ∷ x ∷ xs) (x ∷ xs) (x ∷ insert_key R xs k)) ≡ match_ordering r (f k ∷ f x ∷ map f xs) (f x ∷ map f xs) (f x ∷ insert_key S (map f xs) (f k))
  map-insert_at Less k x xs more = refl
  map-insert_at Equal k x xs more = refl
  map-insert_at Greater k x xs more = ap (λ (ys : List B). f x ∷ ys) more

  map-insert : (k : A) (xs : List A) → map f (insert_key R xs k) ≡ insert_key S (map f xs) (f k)
  map-insert k [] = refl
  map-insert k (x ∷ xs) =
      map-insert_at (R k x) k x xs (map-insert k xs)
      ∙ ap (λ (r : Ordering). match_ordering r (f k ∷ f x ∷ map f xs) (f x ∷ map f xs) (f x ∷ insert_key S (map f xs) (f k))) (alike k x)

  map-fold : (xs acc : List A) → map f (fold (insert_key R) acc xs) ≡ fold (insert_key S) (map f acc) (map f xs)
  map-fold [] acc = refl
  map-fold (x ∷ xs) acc = map-fold xs (insert_key R acc x) ∙ ap (λ (ys : List B). fold (insert_key S) ys (map f xs)) (map-insert x acc)

-- what holds of each element holds of each that was inserted
All-fold : {K : Type 0} (R : K → K → Ordering) (P : K → Type 0) (xs acc : List K) → All P acc → All P xs → All P (fold (insert_key R) acc xs)
All-fold R P [] acc were are = were
All-fold R P (x ∷ xs) acc were are = All-fold R P xs (insert_key R acc x) (All-insert_key R x P acc were (All-head P x xs are)) (All-tail P x xs are)

-- lists are one where what is read of them is, and that tells the elements apart
same_list : {A B : Type 0} (f : A → B) (P : A → Type 0) → ((x y : A) → P x → P y → f x ≡ f y → x ≡ y)
    → (xs ys : List A) → All P xs → All P ys → map f xs ≡ map f ys → xs ≡ ys
same_list f P one [] [] these those is = refl
same_list f P one [] (y ∷ ys) these those is = absurd (cc)
same_list f P one (x ∷ xs) [] these those is = absurd (cc)
same_list {A} f P one (x ∷ xs) (y ∷ ys) these those is =
    let first : f x ≡ f y = cc in
    let others : map f xs ≡ map f ys = cc in
    ap (λ (z : A). z ∷ xs) (one x y (All-head P x xs these) (All-head P y ys those) first)
    ∙ ap (λ (zs : List A). y ∷ zs) (same_list f P one xs ys (All-tail P x xs these) (All-tail P y ys those) others)

-- ---- what a list contains

module _ {X : Type 0} where
  one_more : (y : X) (ys : List X) (x : X) → Contains ys x → Contains (y ∷ ys) x
  one_more y ys x there = Contains-append_right (y ∷ []) ys x there

  Contains-map : {Y : Type 0} (f : X → Y) (xs : List X) (x : X) → Contains xs x → Contains (map f xs) (f x)
  Contains-map f [] x there = absurd (omega (arith, there.1))
  Contains-map f (y ∷ ys) x there = at (λ later. Contains-map f ys x later) there.0 there.1 there.2
    where
      at : (Contains ys x → Contains (map f ys) (f x)) → (k : ℕ) → k < length (y ∷ ys) → slice_index_or (y ∷ ys) k x ≡ x → Contains (f y ∷ map f ys) (f x)
      at more zero within is = (0, omega arith, ap f is)
      at more (suc k) within is = let r = more (k, omega arith, is) in (suc r.0, omega arith, r.2)

  Contains-filter : (test : X → Bool) (xs : List X) (x : X) → test x ≡ true → Contains xs x → Contains (filter test xs) x
  Contains-filter test [] x passes there = there
  Contains-filter test (y ∷ ys) x passes there = at (λ later. Contains-filter test ys x passes later) there.0 there.1 there.2
    where
      kept : (b : Bool) → Contains (filter test ys) x → Contains (cond b (y ∷ filter test ys) (filter test ys)) x
      kept true more = one_more y (filter test ys) x more
      kept false more = more

      at : (Contains ys x → Contains (filter test ys) x) → (k : ℕ) → k < length (y ∷ ys) → slice_index_or (y ∷ ys) k x ≡ x → Contains (filter test (y ∷ ys)) x
      at more zero within is =
          subst (λ (b : Bool). Contains (cond b (y ∷ filter test ys) (filter test ys)) x) (sym (ap test is ∙ passes)) (0, omega arith, is)
      at more (suc k) within is = kept (test y) (more (k, omega arith, is))

  Contains-unfiltered : (test : X → Bool) (xs : List X) (x : X) → Contains (filter test xs) x → Contains xs x
  Contains-unfiltered test xs x there = All-contains (Contains xs) (filter test xs) x (All-filter test (Contains xs) xs (All-contains_itself xs)) there

  passes : (test : X → Bool) (xs : List X) (x : X) → Contains (filter test xs) x → test x ≡ true
  passes test xs x there = All-contains (λ (y : X). test y ≡ true) (filter test xs) x (filter_passes test xs) there

-- ---- a part that has an end stands in the entries

module _ (part : PartKey) where
  abbrev Ended : History → Type 0
  Ended h = is_some h.end ≡ true

  module _ {E : Type 0} (step : History → E → History) (parts_of : E → List PartKey)
      (each : (h : History) (e : E) → Ended (step h e) → Ended h ⊎ Contains (parts_of e) part) where
    walked : (es : List E) (h : History) → Ended (fold step h es) → Ended h ⊎ Contains (flat_map parts_of es) part
    walked [] h is = inl is
    walked (e ∷ es) h is =
        ⊎_elim
        (λ (ended : Ended (step h e)). ⊎_elim
        (λ (before : Ended h). inl before)
        (λ (own : Contains (parts_of e) part). inr (Contains-append_left (parts_of e) (flat_map parts_of es) part own)) (each h e ended))
        (λ (later : Contains (flat_map parts_of es) part). inr (Contains-append_right (parts_of e) (flat_map parts_of es) part later))
        (walked es (step h e) is)

  moved : (b : Bool) (own : PartKey) (h after : History) → same_part part own ≡ b → Ended (cond b after h) → Ended h ⊎ Contains (own ∷ []) part
  moved true own h after same is = inr (0, omega arith, sym ((same_part-Decides part own).0 same))
  moved false own h after same is = inl is

  entry_in : (h : History) (e : Entry) → Ended (after_entry part h e) → Ended h ⊎ Contains (parts_in e) part
  entry_in h (Bump tid) is = inl is
  entry_in h (Commit tag generation spans) is =
      subst (λ (own : List PartKey). Ended h ⊎ Contains own part) (flat_map_single (λ (span : Span). span.part) spans)
      (walked (after_span part) (λ (span : Span). span.part ∷ [])
      (λ before span ended. moved (same_part part span.part) span.part before (record { base = before.base; end = Some span.to }) refl ended) spans h is)
  entry_in h (Set tid epoch list) is =
      subst (λ (own : List PartKey). Ended h ⊎ Contains own part) (flat_map_single (λ (set : SetOffset). set.part) list)
      (walked (after_offset part) (λ (set : SetOffset). set.part ∷ [])
      (λ before set ended. moved (same_part part set.part) set.part before (record { base = unwrap_or set.to 0; end = set.to }) refl ended) list h is)

  stands : (entries : List Entry) → IsSome (end_of part entries) → Contains (flat_map parts_in entries) part
  stands entries is =
      ⊎_elim (λ (none : Ended unset). absurd (true≢false (sym none))) (λ (there : Contains (flat_map parts_in entries) part). there)
      (walked (after_entry part) parts_in entry_in entries unset is)

-- ---- parts of one connector

owner_is : (name : List ℕ) (part : PartKey) → is_part_of name part ≡ true → connector_of part ≡ Some name
owner_is name (Raw n) is = absurd (true≢false (sym is))
owner_is name (File own feed) is = ap Some ((bytes_eq-Decides own name).0 is)
owner_is name (Seq own index) is = ap Some ((bytes_eq-Decides own name).0 is)
owner_is name (Sink own topic) is = ap Some ((bytes_eq-Decides own name).0 is)

owned : (name : List ℕ) (part : PartKey) → connector_of part ≡ Some name → is_part_of name part ≡ true
owned name (Raw n) is = absurd (cc)
owned name (File own feed) is = (bytes_eq-Decides own name).1 (same_Some own name is)
owned name (Seq own index) is = (bytes_eq-Decides own name).1 (same_Some own name is)
owned name (Sink own topic) is = (bytes_eq-Decides own name).1 (same_Some own name is)

not_raw : (name : List ℕ) (part : PartKey) → connector_of part ≡ Some name → is_raw part ≡ false
not_raw name (Raw n) is = absurd (cc)
not_raw name (File own feed) is = refl
not_raw name (Seq own index) is = refl
not_raw name (Sink own topic) is = refl

-- the key of a part, by its connector's name and its partition's text
abbrev key_of : List ℕ → List ℕ → List ℕ
key_of name text = 91 ∷ (quoted name ++ 44 ∷ (text ++ 93 ∷ []))

part_text-is : (name : List ℕ) (part : PartKey) → connector_of part ≡ Some name → part_text part ≡ key_of name (partition_text part)
part_text-is name (Raw n) is = absurd (cc)
part_text-is name (File own feed) is = ap (λ (n : List ℕ). key_of n (partition_text (File own feed))) (same_Some own name is)
part_text-is name (Seq own index) is = ap (λ (n : List ℕ). key_of n (partition_text (Seq own index))) (same_Some own name is)
part_text-is name (Sink own topic) is = ap (λ (n : List ℕ). key_of n (partition_text (Sink own topic))) (same_Some own name is)

abbrev IsOf : List ℕ → PartKey → Type 0
IsOf name part = (connector_of part ≡ Some name) × IsPart part

one_part : (name : List ℕ) (x y : PartKey) → IsOf name x → IsOf name y → partition_text x ≡ partition_text y → x ≡ y
one_part name x y this that is =
    let keys : part_text x ≡ part_text y = part_text-is name x this.0 ∙ ap (key_of name) is ∙ sym (part_text-is name y that.0) in
    same_Some x y (sym (part_again x this.1 (not_raw name x this.0)) ∙ ap part_of keys ∙ part_again y that.1 (not_raw name y that.0))

-- ---- the two lists

all_true : (a b c : Bool) → a ≡ true → b ≡ true → c ≡ true → (a && b && c) ≡ true
all_true true true c first second third = third
all_true true false c first second third = absurd (true≢false (sym second))
all_true false b c first second third = absurd (true≢false (sym first))

three : (a b c : Bool) → (a && b && c) ≡ true → (a ≡ true) × (b ≡ true) × (c ≡ true)
three true true c is = (refl, refl, is)
three true false c is = absurd (true≢false (sym is))
three false b c is = absurd (true≢false (sym is))

has_text : (ps qs : List PartKey) → ((part : PartKey) → Contains ps part → Contains qs part) → (text : List ℕ)
    → list_any (eq_by_cmp name_cmp text) (map partition_text ps) ≡ true → list_any (eq_by_cmp name_cmp text) (map partition_text qs) ≡ true
has_text [] qs within text is = absurd (true≢false (sym is))
has_text (p ∷ ps) qs within text is =
    at (λ later. has_text ps qs (λ q there. within q (one_more p ps q there)) text later) (eq_by_cmp name_cmp text (partition_text p)) refl is
  where
    at : (list_any (eq_by_cmp name_cmp text) (map partition_text ps) ≡ true → list_any (eq_by_cmp name_cmp text) (map partition_text qs) ≡ true)
        → (b : Bool) → eq_by_cmp name_cmp text (partition_text p) ≡ b → (b || list_any (eq_by_cmp name_cmp text) (map partition_text ps)) ≡ true
        → list_any (eq_by_cmp name_cmp text) (map partition_text qs) ≡ true
    at more true same any =
        subst (λ (t : List ℕ). list_any (eq_by_cmp name_cmp t) (map partition_text qs) ≡ true) (sym (named text (partition_text p) same))
        (list_any-from_Contains (eq_by_cmp_equiv nat_list_cmp_total) (partition_text p) (map partition_text qs)
        (Contains-map partition_text qs p (within p (0, omega arith, refl))))
    at more false same any = more any

-- the parts of a type, put into their places
by_type : (is_source : Bool) (parts : List PartKey) (placed : List Placed)
    → fold (with_part is_source) placed parts ≡ fold (insert_key placed_cmp) placed (map placed_of (filter (is_of_type is_source) parts))
by_type is_source [] placed = refl
by_type is_source (p ∷ ps) placed = at (λ next. by_type is_source ps next) (is_of_type is_source p)
  where
    at : ((next : List Placed) → fold (with_part is_source) next ps ≡ fold (insert_key placed_cmp) next (map placed_of (filter (is_of_type is_source) ps)))
        → (b : Bool) → fold (with_part is_source) (cond b (insert_key placed_cmp placed (placed_of p)) placed) ps
        ≡ fold (insert_key placed_cmp) placed (map placed_of (cond b (p ∷ filter (is_of_type is_source) ps) (filter (is_of_type is_source) ps)))
    at more true = more (insert_key placed_cmp placed (placed_of p))
    at more false = more placed

module _ (is_source : Bool) (name : List ℕ) (entries : List Entry) (parts : List PartKey) (are : ArePartsOf name entries parts) where
  -- the parts as the code has them, and as the definition has them
  abbrev told : List PartKey
  told = filter (is_of_type is_source) parts

  abbrev meant : List PartKey
  meant = filter (has_offset is_source name entries) (flat_map parts_in entries)

  told_is_meant : (part : PartKey) → Contains told part → Contains meant part
  told_is_meant part there =
      let own = are.theirs part (Contains-unfiltered (is_of_type is_source) parts part there) in
      Contains-filter (has_offset is_source name entries) (flat_map parts_in entries) part
      (all_true (is_part_of name part) (is_of_type is_source part) (is_some (end_of part entries))
      (owned name part own.0) (passes (is_of_type is_source) parts part there) own.1)
      (stands part entries own.1)

  meant_is_told : (part : PartKey) → Contains meant part → Contains told part
  meant_is_told part there =
      let is = three (is_part_of name part) (is_of_type is_source part) (is_some (end_of part entries))
      (passes (has_offset is_source name entries) (flat_map parts_in entries) part there) in
      Contains-filter (is_of_type is_source) parts part is.1 (are.all part (owner_is name part is.0) is.2)

  same_texts : map partition_text (fold (insert_key partition_cmp) [] told) ≡ map partition_text (fold (insert_key partition_cmp) [] meant)
  same_texts =
      map-fold partition_text partition_cmp name_cmp (λ a b. refl) told []
      ∙ same_fold name_cmp nat_list_cmp_total one_name (map partition_text told) (map partition_text meant)
      (λ text. both_ways (list_any (eq_by_cmp name_cmp text) (map partition_text told)) (list_any (eq_by_cmp name_cmp text) (map partition_text meant))
      (has_text told meant told_is_meant text) (has_text meant told meant_is_told text))
      ∙ sym (map-fold partition_text partition_cmp name_cmp (λ a b. refl) meant [])

  module _ (all : All IsPart parts) where
    told_is_of : (part : PartKey) → Contains told part → IsOf name part
    told_is_of part there =
        let within = Contains-unfiltered (is_of_type is_source) parts part there in
        ((are.theirs part within).0, All-contains IsPart parts part all within)

    all_of : (xs : List PartKey) → ((part : PartKey) → Contains xs part → IsOf name part) → All (IsOf name) (fold (insert_key partition_cmp) [] xs)
    all_of xs each = All-fold partition_cmp (IsOf name) xs [] (All-nil (IsOf name)) (All-weaker (Contains xs) (IsOf name) each xs (All-contains_itself xs))

    same_parts : fold (insert_key partition_cmp) [] told ≡ parts_with_offsets is_source name entries
    same_parts =
        same_list partition_text (IsOf name) (one_part name) (fold (insert_key partition_cmp) [] told) (fold (insert_key partition_cmp) [] meant)
        (all_of told told_is_of) (all_of meant (λ part there. told_is_of part (meant_is_told part there))) same_texts

    -- what is told of the parts that were put into their places is told of those that the definition has
    pub listing : {A : Type 0} (f : PartKey → A) → map (λ placed. f placed.part) (in_order is_source parts) ≡ map f (parts_with_offsets is_source name entries)
    listing f =
        ap (map (λ placed. f placed.part))
        (by_type is_source parts [] ∙ sym (map-fold placed_of partition_cmp placed_cmp (λ a b. refl) told []))
        ∙ map-map (λ placed. f placed.part) placed_of (fold (insert_key partition_cmp) [] told) ∙ ap (map f) same_parts
