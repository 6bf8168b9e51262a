-- Rows and places for calls that are reserved.
use Rattle.std.proofs.Common.{◌≡◌, ◌⊎◌, inl, inr, ⊎_elim, ℕ, ◌+◌, ◌≤◌, ◌<◌, ◌==◌, ◌^◌, Bool, true, false, cond, List, [], ◌∷◌, ◌++◌, length, take, drop, slice_index_or, Contains, Option, None, Some, IsSome, refl, sym, ap, subst, ◌∙◌, arith, length-append}
use Rattle.std.specs.Option.{option_map}
use Rattle.std.specs.BTreeMap.{BTreeMap, get, is_at}
use Rattle.std.specs.Ordering.{nat_cmp}
use Rattle.std.proofs.lemmas.Bool.{true≢false}
use Rattle.std.proofs.lemmas.Bool.Decides.{nat_tests}
use Rattle.std.proofs.lemmas.List.{get_or_default}
use Rattle.std.proofs.lemmas.List.Elements.{Contains-push_cases, Contains-append_left, Contains-append_right, Contains-append_cases}
use Rattle.cw_types.specs.declared.ids.Tag.{Tag}
use Rattle.cw_types.specs.declared.ids.PartKey.{PartKey}
use Rattle.cw_types.specs.Same.{same_tag, part_order}
use Rattle.cw_types.proofs.Lists.{cut_at}
use Rattle.cw_types.proofs.SameLemmas.{same_tag-Decides}
use Rattle.cw_offset.specs.declared.call.OffsetCall.{OffsetCall}
use Rattle.cw_offset.specs.declared.call.OffsetCall.TheVariants.{Stand, Put, Commit, Abort, Set}
use Rattle.cw_offset.specs.declared.under.Settled.{Settled}
use Rattle.cw_offset.specs.declared.under.Under.{Under}
use Rattle.cw_offset.specs.declared.tables.Tables.{Tables}
use Rattle.cw_offset.specs.Calls.{WithoutFirst}
use Rattle.cw_offset.specs.Rows.{settled_at, value_at, if_begun, HasPart, ended}
use Rattle.cw_offset.specs.Tables.{under_at, first_at, first_in, put_in, is_place, Puts, IsBacked, Changes, HasUnder, HasPartIn, HasRows, HasRoom, Roomier, Uses, Keeps, IsFirstAt, IsOffsets}
use Rattle.cw_offset.proofs.Pushed.{first_at-below}

pub one_there : (call : OffsetCall) → Contains (call ∷ []) call
one_there call = (0, omega arith, refl)

-- ---- a row of a transaction that was changed

some_row : (b : Bool) (now : Under) (o : Option Under) → IsSome o → IsSome (cond b (Some now) o)
some_row true now o has = refl
some_row false now o has = has

parts_row : (b : Bool) (was now : Under) (o : Option Under) (q : PartKey) → (b ≡ true → o ≡ Some was) → (HasPart was.parts q → HasPart now.parts q) → HasPartIn o q → HasPartIn (cond b (Some now) o) q
parts_row true was now o q there more has = more (subst (λ x. HasPartIn x q) (there refl) has)
parts_row false was now o q there more has = has

module _ (by : Under → Under → Type 0) (t : Tag) (old new : BTreeMap Tag Under) (change : Changes by t old new) where
  pub changed_under : (q : Tag) → HasUnder old q → HasUnder new q
  changed_under q has = subst (λ o. IsSome o) (sym (change.row q)) (some_row (same_tag q t) change.now (under_at old q) has)

  pub changed_parts : ((p : PartKey) → HasPart change.was.parts p → HasPart change.now.parts p) → (q : Tag) (p : PartKey) → HasPartIn (under_at old q) p → HasPartIn (under_at new q) p
  changed_parts more q p has = subst (λ o. HasPartIn o p) (sym (change.row q))
      (parts_row (same_tag q t) change.was change.now (under_at old q) p (λ same. ap (under_at old) ((same_tag-Decides q t).0 same) ∙ change.there) (more p) has)

ended_some : (b : Bool) (o : Option Under) → IsSome o → IsSome (cond b (option_map ended o) o)
ended_some true (Some under) has = refl
ended_some true None has = has
ended_some false o has = has

ended_parts : (b : Bool) (o : Option Under) (p : PartKey) → HasPartIn o p → HasPartIn (cond b (option_map ended o) o) p
ended_parts true None p has = has
ended_parts true (Some under) p has = has
ended_parts false o p has = has

module _ (t : Tag) (old new : BTreeMap Tag Under) (rows : (q : Tag) → under_at new q ≡ cond (same_tag q t) (option_map ended (under_at old q)) (under_at old q)) where
  pub ended_under : (q : Tag) → HasUnder old q → HasUnder new q
  ended_under q has = subst (λ o. IsSome o) (sym (rows q)) (ended_some (same_tag q t) (under_at old q) has)

  pub ended_parts_in : (q : Tag) (p : PartKey) → HasPartIn (under_at old q) p → HasPartIn (under_at new q) p
  ended_parts_in q p has = subst (λ o. HasPartIn o p) (sym (rows q)) (ended_parts (same_tag q t) (under_at old q) p has)

-- a place isn't one before it
pub not_before : (place n : ℕ) → place < n → (place == n) ≡ false
not_before place n lt = grind (arith, nat_tests, lt)

-- ---- room that a call leaves

module _ (old new : Tables) (parts : (q : PartKey) → HasPart old.parts q → HasPart new.parts q) (under : (t : Tag) → HasUnder old.waiting t → HasUnder new.waiting t)
    (parts_in : (t : Tag) (q : PartKey) → HasPartIn (under_at old.waiting t) q → HasPartIn (under_at new.waiting t) q) where
  has_rows : (call : OffsetCall) → HasRows old call → HasRows new call
  has_rows (Stand tag) has = under tag has
  has_rows (Put tag part to) has = (parts part has.0, parts_in tag part has.1)
  has_rows (Commit tag) has = tt
  has_rows (Abort tag) has = tt
  has_rows (Set part to) has = parts part has

among : (front back : List OffsetCall) (call e : OffsetCall) → Contains (front ++ back) e → Contains (front ++ call ∷ back) e
among front back call e there = ⊎_elim
    (λ one. Contains-append_left front (call ∷ back) e one)
    (λ two. Contains-append_right front (call ∷ back) e (Contains-append_right (call ∷ []) back e two))
    (Contains-append_cases front back e there)

longer : (front back : List OffsetCall) (call : OffsetCall) → length (front ++ call ∷ back) ≡ length (front ++ back) + 1
longer front back call = simp length-append (omega arith)

pub uses_room : (old new : Tables) → Uses old new → (call : OffsetCall) (front back : List OffsetCall) → HasRoom old (front ++ call ∷ back) → HasRoom new (front ++ back)
uses_room old new uses call front back room =
    let long : length (front ++ call ∷ back) ≡ length (front ++ back) + 1 = longer front back call in
    let next : new.next ≡ old.next + 1 = uses.next in
    let small : old.next + length (front ++ call ∷ back) < 2 ^ 64 = room.small in
    record {
      rows = λ e there. has_rows old new uses.parts uses.under uses.parts_in e (room.rows e (among front back call e there));
      places = λ n low high. uses.places n (omega (arith, next, low)) (room.places n (omega (arith, next, low)) (omega (arith, next, long, high)));
      small = omega (arith, next, long, small);
    }

-- room for one of these calls
pub room_one : (tables : Tables) (call : OffsetCall) (front back : List OffsetCall) → HasRoom tables (front ++ call ∷ back) → HasRoom tables (call ∷ [])
room_one tables call front back room =
    let long : length (front ++ call ∷ back) ≡ length (front ++ back) + 1 = longer front back call in
    let small : tables.next + length (front ++ call ∷ back) < 2 ^ 64 = room.small in
    record {
      rows = λ e there. room.rows e (in_middle e there);
      places = λ n low high. let one : n < tables.next + 1 = high in room.places n low (omega (arith, long, one));
      small = let one : tables.next + 1 < 2 ^ 64 = omega (arith, long, small) in one;
    }
  where
    in_middle : (e : OffsetCall) → Contains (call ∷ []) e → Contains (front ++ call ∷ back) e
    in_middle e there = Contains-append_right front (call ∷ back) e (Contains-append_left (call ∷ []) back e there)

-- ---- rows that were made

pub roomier_keeps : (old new : Tables) → Roomier old new → (calls : List OffsetCall) → Keeps old calls → Keeps new calls
roomier_keeps old new more calls kept = record {
  next = more.next ∙ kept.next;
  settled = λ q. more.settled q ∙ kept.settled q;
  first = λ q. more.first q ∙ kept.first q;
  waits = λ q p. more.waits q p ∙ kept.waits q p;
  backed = λ q. subst (λ (n : ℕ). IsBacked new.parts n (under_at new.waiting q)) (sym more.next) (more.backed old.next q (kept.backed q));
  stands = λ m q e. kept.stands m q (sym (more.stands m) ∙ e);
  placed = λ m q e. more.stands m ∙ kept.placed m q e;
}

pub roomier_room : (old new : Tables) → Roomier old new → (reserved : List OffsetCall) → HasRoom old reserved → HasRoom new reserved
roomier_room old new more reserved room =
    let next : new.next ≡ old.next = more.next in
    let small : old.next + length reserved < 2 ^ 64 = room.small in
    record {
      rows = λ e there. has_rows old new more.parts more.under more.parts_in e (room.rows e there);
      places = λ n low high. more.places n (room.places n (omega (arith, next, low)) (omega (arith, next, high)));
      small = omega (arith, next, small);
    }

pub roomier_more : (old new : Tables) → Roomier old new → (reserved : List OffsetCall) → HasRoom old reserved → (call : OffsetCall) → HasRows new call → IsSome (get nat_cmp new.order (old.next + length reserved))
    → old.next + length reserved + 1 < 2 ^ 64 → HasRoom new (reserved ++ call ∷ [])
roomier_more old new more reserved room call has place small =
    let next : new.next ≡ old.next = more.next in
    let long : length (reserved ++ call ∷ []) ≡ length reserved + 1 = simp length-append refl in
    let was : HasRoom new reserved = roomier_room old new more reserved room in
    record {
      rows = λ e there. ⊎_elim (λ one. was.rows e one) (λ (two : call ≡ e). subst (HasRows new) two has) (Contains-push_cases reserved call e there);
      places = λ n low high. by n (test_lt n (new.next + length reserved)) low (omega (arith, long, high)) was next;
      small = omega (arith, next, long, small);
    }
  where
    test_lt : (a b : ℕ) → (a < b) ⊎ (b ≤ a)
    test_lt a b = Rattle.std.proofs.lemmas.Bool.cases_lt a b

    by : (n : ℕ) → (n < new.next + length reserved) ⊎ (new.next + length reserved ≤ n) → new.next ≤ n → n < new.next + (length reserved + 1) → HasRoom new reserved → new.next ≡ old.next → IsSome (get nat_cmp new.order n)
    by n (inl below) low high was next = was.places n low below
    by n (inr above) low high was next = let here : old.next + length reserved ≡ n = omega (arith, next, above, high) in subst (λ (k : ℕ). IsSome (get nat_cmp new.order k)) here place

pub roomier-trans : (a b c : Tables) → Roomier a b → Roomier b c → Roomier a c
roomier-trans a b c one two = record {
  next = two.next ∙ one.next;
  settled = λ q. two.settled q ∙ one.settled q;
  parts = λ q has. two.parts q (one.parts q has);
  first = λ t. two.first t ∙ one.first t;
  waits = λ t q. two.waits t q ∙ one.waits t q;
  backed = λ n t has. two.backed n t (one.backed n t has);
  under = λ t has. two.under t (one.under t has);
  parts_in = λ t q has. two.parts_in t q (one.parts_in t q has);
  stands = λ n. two.stands n ∙ one.stands n;
  places = λ n has. two.places n (one.places n has);
}

pub roomier-same : (a : Tables) → Roomier a a
roomier-same a = record {
  next = refl;
  settled = λ q. refl;
  parts = λ q has. has;
  first = λ t. refl;
  waits = λ t q. refl;
  backed = λ n t has. has;
  under = λ t has. has;
  parts_in = λ t q has. has;
  stands = λ n. refl;
  places = λ n has. has;
}

-- ---- a list without its element at a place

pub taken_is : (calls : List OffsetCall) (at : ℕ) (call taken : OffsetCall) → IsFirstAt call calls at → taken ≡ slice_index_or calls at taken → taken ≡ call
taken_is calls at call taken first is = is ∙ get_or_default calls at taken call first.within ∙ first.there

pub without : (calls rest : List OffsetCall) (at : ℕ) → rest ≡ take at calls ++ drop (at + 1) calls → (call : OffsetCall) → IsFirstAt call calls at → WithoutFirst call calls rest
without calls rest at taken call first = record {
  front = take at calls;
  back = drop (at + 1) calls;
  split = cut_at calls at call first.within first.there;
  first = first.first;
  rest = taken;
}

-- ---- rows as they were

pub under_has : (o : Option Under) (q : PartKey) → HasPartIn o q → IsSome o
under_has None q has = absurd has
under_has (Some under) q has = refl

pub parts_as_before : (was now : Under) → now ≡ was → (q : PartKey) → HasPart was.parts q → HasPart now.parts q
parts_as_before was now is q has = subst (λ (u : Under). HasPart u.parts q) (sym is) has

set_has : (b : Bool) (s : Option Settled) (o : Option (Option Settled)) → IsSome o → IsSome (cond b (Some s) o)
set_has true s o has = refl
set_has false s o has = has

pub put_parts : (n : ℕ) (part : PartKey) (to : ℕ) (was now : Under) → Puts n part to was now → (q : PartKey) → HasPart was.parts q → HasPart now.parts q
put_parts n part to was now change q has = subst (λ (o : Option (Option Settled)). IsSome o) (sym (change.parts q)) (set_has (is_at (part_order part) q) (Some (value_at n (Some to))) (get part_order was.parts q) has)

-- ---- places that were emptied

pub emptied : (next m : ℕ) (o mid old : Option Tag) (first found : Option ℕ) → o ≡ cond (next == m) None mid → mid ≡ cond (is_place found m) None old → found ≡ first → o ≡ cond (next == m) None (cond (is_place first m) None old)
emptied next m o mid old first found now was is = now ∙ ap (λ (x : Option Tag). cond (next == m) None x) (was ∙ ap (λ (f : Option ℕ). cond (is_place f m) None old) is)

pub place_before : (next : ℕ) (first : Option ℕ) → ((m : ℕ) → first ≡ Some m → m < next) → (n : ℕ) → next < n → is_place first n ≡ false
place_before next None before n lt = refl
place_before next (Some m) before n lt = let lower = before m refl in not_before m n (omega (arith, lower, lt))

pub stands_before : (tables : Tables) (calls : List OffsetCall) → Keeps tables calls → (t : Tag) (n : ℕ) → first_in (under_at tables.waiting t) ≡ Some n → n < tables.next
stands_before tables calls kept t n e =
    let at : first_at t 0 calls ≡ Some n = sym (kept.first t) ∙ e in
    let below : n < 0 + length calls = first_at-below t calls 0 n at in
    let is : tables.next ≡ length calls = kept.next in
    omega (arith, below, is)

begun_some : (f : Option ℕ) (o : Option Settled) → IsSome (if_begun f o) → (s : Settled) × (o ≡ Some s)
begun_some None o has = absurd (true≢false (sym has))
begun_some (Some m) None has = absurd (true≢false (sym has))
begun_some (Some m) (Some s) has = (s, refl)

pub backs_parts : (tables : Tables) (calls : List OffsetCall) → Keeps tables calls → (t : Tag) (q : PartKey) → IsSome (put_in (under_at tables.waiting t) q) → HasPart tables.parts q
backs_parts tables calls kept t q has = by (under_at tables.waiting t) (kept.backed t) has
  where
    by : (o : Option Under) → IsBacked tables.parts tables.next o → IsSome (put_in o q) → HasPart tables.parts q
    by None backed has = absurd (true≢false (sym has))
    by (Some under) backed has = let some = begun_some under.first (settled_at under.parts q) has in backed.1 q some.0 some.1

-- ---- all offsets

pub offsets_roomier : (old new : Tables) (calls reserved : List OffsetCall) → IsOffsets old calls reserved → Roomier old new → IsOffsets new calls reserved
offsets_roomier old new calls reserved was more = record { kept = roomier_keeps old new more calls was.kept; room = roomier_room old new more reserved was.room }

pub offsets_reserved : (old new : Tables) (calls reserved : List OffsetCall) → IsOffsets old calls reserved → Roomier old new → (call : OffsetCall) → HasRows new call → IsSome (get nat_cmp new.order (old.next + length reserved))
    → old.next + length reserved + 1 < 2 ^ 64 → IsOffsets new calls (reserved ++ call ∷ [])
offsets_reserved old new calls reserved was more call has place small =
    record { kept = roomier_keeps old new more calls was.kept; room = roomier_more old new more reserved was.room call has place small }

pub room_none : (tables : Tables) (reserved : List OffsetCall) → HasRoom tables reserved → HasRoom tables []
room_none tables reserved room =
    let small : tables.next + length reserved < 2 ^ 64 = room.small in
    record {
      rows = λ e there. absurd (nothing e there);
      places = λ n low high. absurd (let one : n < tables.next + 0 = high in omega (arith, low, one));
      small = let one : tables.next + 0 < 2 ^ 64 = omega (arith, small) in one;
    }
  where
    nothing : (e : OffsetCall) → Contains [] e → ⊥
    nothing e there = let within : there.0 < 0 = there.1 in omega (arith, within)

pub offsets_none : (tables : Tables) (calls reserved : List OffsetCall) → IsOffsets tables calls reserved → IsOffsets tables calls []
offsets_none tables calls reserved was = record { kept = was.kept; room = room_none tables reserved was.room }
