-- The tables behind one call more.
use Rattle.std.proofs.Common.{◌≡◌, ℕ, ◌+◌, ◌≤◌, ◌<◌, ◌==◌, Bool, true, false, cond, List, [], ◌∷◌, ◌++◌, length, Option, None, Some, nat_le, refl, sym, ap, subst, ◌∙◌, arith, length-append}
use Rattle.std.specs.Option.{option_or, option_map, is_none, unwrap_or}
use Rattle.std.specs.BTreeMap.{BTreeMap, get, is_at}
use Rattle.std.proofs.lemmas.Bool.{eqb-true, true≢false}
use Rattle.std.proofs.lemmas.Bool.Decides.{nat_tests}
use Rattle.cw_types.specs.declared.ids.Tag.{Tag}
use Rattle.cw_types.specs.declared.ids.PartKey.{PartKey}
use Rattle.cw_types.specs.Same.{same_tag, same_part, part_order}
use Rattle.cw_types.proofs.SameLemmas.{same_tag-Decides, part_at, same_part-flip, same_part-Decides}
use Rattle.cw_tables.proofs.RowLemmas.{value-set}
use Rattle.cw_offset.specs.declared.call.OffsetCall.{OffsetCall}
use Rattle.cw_offset.specs.declared.under.Settled.{Settled}
use Rattle.cw_offset.specs.declared.under.Under.{Under}
use Rattle.cw_offset.specs.declared.tables.Tables.{Tables}
use Rattle.cw_offset.specs.Offsets.{mark_in}
use Rattle.cw_offset.specs.Rows.{value_at, settled_at, HasPart, if_from, if_begun, waits_in, begun, ended, AreEarly}
use Rattle.cw_offset.specs.Tables.{settled, is_stand_of, first_at, put_at, waits_at, first_in, put_in, under_at, stands_at, is_place, IsBacked, Puts, Keeps}
use Rattle.cw_offset.proofs.Replays.{option_or-none}
use Rattle.cw_offset.proofs.Pushed.{first_at-push, first_at-marked, first_at-below, waits_at-push, waits_at-marked}

pub some_is : {A : Type 0} (x y : A) → ◌≡◌ {A = Option A} (Some x) (Some y) → x ≡ y
some_is x y e = cc e

pub none_is : {A : Type 0} {P : Type 0} (x : A) → ◌≡◌ {A = Option A} None (Some x) → P
none_is x e = absurd (cc e)

some_or : (f : Option ℕ) (n : ℕ) → ◌≡◌ {A = Option ℕ} (Some (unwrap_or f n)) (option_or f (Some n))
some_or None n = refl
some_or (Some m) n = refl

pub test_cases : {P : Type 0} (b : Bool) → (b ≡ true → P) → (b ≡ false → P) → P
test_cases true here others = here refl
test_cases false here others = others refl

-- values before a place don't wait from there on
early_is_past : (n : ℕ) (s : Option Settled) → ((v : Settled) → s ≡ Some v → v.place < n) → if_from n s ≡ None
early_is_past n None early = refl
early_is_past n (Some v) early =
    let before : v.place < n = early v refl in
    let test : nat_le n v.place ≡ false = grind (arith, nat_tests, before) in
    ap (λ (b : Bool). cond b (Some v) None) test

pub begun_waits : (n : ℕ) (under : Under) → AreEarly under.parts n → (part : PartKey) → waits_in (begun n under) part ≡ waits_in under part
begun_waits n under early part = by under.first
  where
    by : (f : Option ℕ) → if_begun (Some (unwrap_or f n)) (settled_at under.parts part) ≡ if_begun f (settled_at under.parts part)
    by None = early_is_past n (settled_at under.parts part) (early part)
    by (Some m) = refl

-- ---- a transaction whose records stand in the log by a call

-- what a call leaves of the row of its transaction
pub record Stood (parts : BTreeMap PartKey (Option Settled)) (n : ℕ) (puts : PartKey → Option Settled) (was now : Under) : Type 0 where
  pub first : now.first ≡ Some (unwrap_or was.first n)
  pub waits : (part : PartKey) → waits_in now part ≡ option_or (puts part) (waits_in was part)
  pub backed : IsBacked parts (n + 1) (Some now)

first_chosen : (b : Bool) (o : Option Under) (was now : Under) (f : Option ℕ) (n : ℕ) → first_in o ≡ f → (b ≡ true → was.first ≡ f) → now.first ≡ Some (unwrap_or was.first n)
    → first_in (cond b (Some now) o) ≡ option_or f (cond b (Some n) None)
first_chosen true o was now f n same there is = is ∙ ap (λ (g : Option ℕ). Some (unwrap_or g n)) (there refl) ∙ some_or f n
first_chosen false o was now f n same there is = same ∙ sym (option_or-none f)

waits_chosen : (b : Bool) (o : Option Under) (was now : Under) (part : PartKey) (w put : Option Settled) → put_in o part ≡ w → (b ≡ true → waits_in was part ≡ w) → waits_in now part ≡ option_or put (waits_in was part)
    → put_in (cond b (Some now) o) part ≡ option_or (cond b put None) w
waits_chosen true o was now part w put same there is = is ∙ ap (option_or put) (there refl)
waits_chosen false o was now part w put same there is = same

backed_chosen : (parts : BTreeMap PartKey (Option Settled)) (n : ℕ) (b : Bool) (o : Option Under) (now : Under) → IsBacked parts n (Some now) → IsBacked parts n o → IsBacked parts n (cond b (Some now) o)
backed_chosen parts n true o now here others = here
backed_chosen parts n false o now here others = others

pub backed_later : (parts : BTreeMap PartKey (Option Settled)) (n : ℕ) (o : Option Under) → IsBacked parts n o → IsBacked parts (n + 1) o
backed_later parts n None backed = tt
backed_later parts n (Some under) backed = ((λ q v e. let early = backed.0 q v e in omega (arith, early)), backed.1)

module _ (old : Tables) (calls : List OffsetCall) (kept : Keeps old calls) where
  abbrev n : ℕ
  n = length calls

  pub pushed_next : (last : OffsetCall) → old.next + 1 ≡ length (calls ++ last ∷ [])
  pushed_next last = rw kept.next (simp length-append (omega arith))

  -- the row that is there says what the calls say
  there_first : (t q : Tag) (was : Under) → under_at old.waiting t ≡ Some was → same_tag q t ≡ true → was.first ≡ first_at q 0 calls
  there_first t q was there same = ap first_in (sym there ∙ ap (under_at old.waiting) (sym ((same_tag-Decides q t).0 same))) ∙ kept.first q

  there_waits : (t q : Tag) (was : Under) (part : PartKey) → under_at old.waiting t ≡ Some was → same_tag q t ≡ true → waits_in was part ≡ waits_at q part 0 calls
  there_waits t q was part there same = ap (λ o. put_in o part) (sym there ∙ ap (under_at old.waiting) (sym ((same_tag-Decides q t).0 same))) ∙ kept.waits q part

  -- a place of a call isn't that of the next one
  pub other_place : (q : Tag) (m : ℕ) → first_at q 0 calls ≡ Some m → (old.next == m) ≡ false
  other_place q m e =
      let below : m < 0 + length calls = first_at-below q calls 0 m e in
      let is : old.next ≡ length calls = kept.next in
      grind (arith, nat_tests, below, is)

  module _ (last : OffsetCall) (t : Tag) (puts : PartKey → Option Settled) (plain : (q : Tag) → mark_in q last ≡ None) (stands : (q : Tag) → is_stand_of q last ≡ same_tag q t)
      (put : (q : Tag) (part : PartKey) → put_at q part (0 + length calls) last ≡ cond (same_tag q t) (puts part) None)
      (new : Tables) (was now : Under) (there : under_at old.waiting t ≡ Some was) (row : (q : Tag) → under_at new.waiting q ≡ cond (same_tag q t) (Some now) (under_at old.waiting q))
      (stood : Stood new.parts old.next puts was now) where
    first_behind : (q : Tag) → first_at q 0 (calls ++ last ∷ []) ≡ option_or (first_at q 0 calls) (cond (same_tag q t) (Some old.next) None)
    first_behind q =
        first_at-push q last (plain q) calls 0
        ∙ ap (λ (b : Bool). option_or (first_at q 0 calls) (cond b (Some (0 + length calls)) None)) (stands q)
        ∙ ap (λ (m : ℕ). option_or (first_at q 0 calls) (cond (same_tag q t) (Some m) None)) (let is : old.next ≡ length calls = kept.next in omega (arith, is))

    stood_first : (q : Tag) → first_in (under_at new.waiting q) ≡ first_at q 0 (calls ++ last ∷ [])
    stood_first q =
        ap first_in (row q)
        ∙ first_chosen (same_tag q t) (under_at old.waiting q) was now (first_at q 0 calls) old.next (kept.first q) (there_first t q was there) stood.first
        ∙ sym (first_behind q)

    stood_waits : (q : Tag) (part : PartKey) → put_in (under_at new.waiting q) part ≡ waits_at q part 0 (calls ++ last ∷ [])
    stood_waits q part =
        ap (λ o. put_in o part) (row q)
        ∙ waits_chosen (same_tag q t) (under_at old.waiting q) was now part (waits_at q part 0 calls) (puts part) (kept.waits q part) (there_waits t q was part there) (stood.waits part)
        ∙ ap (λ o. option_or o (waits_at q part 0 calls)) (sym (put q part))
        ∙ sym (waits_at-push q last (plain q) part calls 0)

    stood_backed : ((q : Tag) → IsBacked new.parts old.next (under_at old.waiting q)) → (q : Tag) → IsBacked new.parts (old.next + 1) (under_at new.waiting q)
    stood_backed backed q =
        subst (IsBacked new.parts (old.next + 1)) (sym (row q))
        (backed_chosen new.parts (old.next + 1) (same_tag q t) (under_at old.waiting q) now stood.backed (backed_later new.parts old.next (under_at old.waiting q) (backed q)))

    module _ (begins : Bool) (is : begins ≡ is_none (first_in (under_at old.waiting t)))
        (order : (m : ℕ) → stands_at new.order m ≡ cond (old.next == m) (cond begins (Some t) None) (stands_at old.order m)) where
      none_first : (o : Option ℕ) → begins ≡ is_none o → begins ≡ true → o ≡ None
      none_first None same begun = refl
      none_first (Some m) same begun = absurd (true≢false (sym begun ∙ same))

      begun_here : (b : Bool) (q : Tag) → begins ≡ b → cond b (Some t) None ≡ Some q → (first_at q 0 calls ≡ None) × (same_tag q t ≡ true)
      begun_here true q begun e =
          let one : q ≡ t = sym (some_is t q e) in
          (ap (λ (k : Tag). first_at k 0 calls) one ∙ sym (kept.first t) ∙ none_first (first_in (under_at old.waiting t)) is begun, (same_tag-Decides q t).1 one)
      begun_here false q begun e = none_is q e

      stood_stands : (m : ℕ) (q : Tag) → stands_at new.order m ≡ Some q → first_at q 0 (calls ++ last ∷ []) ≡ Some m
      stood_stands m q e = test_cases (old.next == m)
          (λ here.
          let at : cond begins (Some t) None ≡ Some q = sym (ap (λ (b : Bool). cond b (cond begins (Some t) None) (stands_at old.order m)) here) ∙ sym (order m) ∙ e in
          let facts = begun_here begins q refl at in
          first_behind q ∙ ap (λ o. option_or o (cond (same_tag q t) (Some old.next) None)) facts.0 ∙ ap (λ (b : Bool). cond b (Some old.next) None) facts.1 ∙ ap Some (eqb-true old.next m here))
          (λ other.
          let at : stands_at old.order m ≡ Some q = sym (ap (λ (b : Bool). cond b (cond begins (Some t) None) (stands_at old.order m)) other) ∙ sym (order m) ∙ e in
          first_behind q ∙ ap (λ o. option_or o (cond (same_tag q t) (Some old.next) None)) (kept.stands m q at))

      placed_by : (f : Option ℕ) (q : Tag) (m : ℕ) → first_at q 0 calls ≡ f → option_or f (cond (same_tag q t) (Some old.next) None) ≡ Some m → stands_at new.order m ≡ Some q
      placed_by (Some k) q m is_first e =
          let at : first_at q 0 calls ≡ Some m = is_first ∙ e in
          order m ∙ ap (λ (b : Bool). cond b (cond begins (Some t) None) (stands_at old.order m)) (other_place q m at) ∙ kept.placed m q at
      placed_by None q m is_first e = test_cases (same_tag q t)
          (λ same.
          let one : q ≡ t = (same_tag-Decides q t).0 same in
          let here : old.next ≡ m = some_is old.next m (sym (ap (λ (b : Bool). cond b (Some old.next) None) same) ∙ e) in
          let test : (old.next == m) ≡ true = grind (arith, nat_tests, here) in
          let begun_now : begins ≡ true = is ∙ ap is_none (kept.first t ∙ ap (λ (k : Tag). first_at k 0 calls) (sym one) ∙ is_first) in
          order m ∙ ap (λ (b : Bool). cond b (cond begins (Some t) None) (stands_at old.order m)) test ∙ ap (λ (b : Bool). cond b (Some t) None) begun_now ∙ ap Some (sym one))
          (λ other. none_is m (sym (ap (λ (b : Bool). cond b (Some old.next) None) other) ∙ e))

      stood_placed : (m : ℕ) (q : Tag) → first_at q 0 (calls ++ last ∷ []) ≡ Some m → stands_at new.order m ≡ Some q
      stood_placed m q e = placed_by (first_at q 0 calls) q m refl (sym (first_behind q) ∙ e)

      pub stood_keeps : new.next ≡ old.next + 1 → ((q : PartKey) → settled_at new.parts q ≡ settled q 0 (calls ++ last ∷ [])) → ((q : Tag) → IsBacked new.parts old.next (under_at old.waiting q)) → Keeps new (calls ++ last ∷ [])
      stood_keeps next settles backed = record {
        next = next ∙ pushed_next last;
        settled = settles;
        first = stood_first;
        waits = stood_waits;
        backed = λ q. subst (λ (k : ℕ). IsBacked new.parts k (under_at new.waiting q)) (sym next) (stood_backed backed q);
        stands = stood_stands;
        placed = stood_placed;
      }

-- the row behind the first call of a transaction, and behind a put
pub stood_begun : (parts : BTreeMap PartKey (Option Settled)) (n : ℕ) (was now : Under) → now ≡ begun n was → IsBacked parts n (Some was) → Stood parts n (λ _. None) was now
stood_begun parts n was now is backed = record {
  first = ap (λ (u : Under). u.first) is;
  waits = λ part. ap (λ (u : Under). waits_in u part) is ∙ begun_waits n was backed.0 part;
  backed = subst (λ (u : Under). IsBacked parts (n + 1) (Some u)) (sym is) ((λ q v e. let early = backed.0 q v e in omega (arith, early)), backed.1);
}

module _ (n : ℕ) (part : PartKey) (to : ℕ) (mid now : Under) (change : Puts n part to mid now) where
  pub put_row : (q : PartKey) → settled_at now.parts q ≡ cond (same_part q part) (Some (value_at n (Some to))) (settled_at mid.parts q)
  put_row = value-set (get part_order) (λ (a b : PartKey). is_at (part_order a) b) same_part part_at same_part-flip same_part-Decides None mid.parts now.parts part (Some (value_at n (Some to))) change.parts

  pub put_early : (b : Bool) (o : Option Settled) (v : Settled) → cond b (Some (value_at n (Some to))) o ≡ Some v → (o ≡ Some v → v.place < n) → v.place < n + 1
  put_early true o v e early = let is : value_at n (Some to) ≡ v = some_is (value_at n (Some to)) v e in rw (← is) (omega arith)
  put_early false o v e early = let before = early e in omega (arith, before)

  pub put_waits : (b : Bool) (f m : ℕ) (o : Option Settled) → f ≤ n → if_from f (cond b (Some (value_at n (Some to))) o) ≡ option_or (cond b (Some (value_at n (Some to))) None) (if_from f o)
  put_waits true f m o le = let test : nat_le f n ≡ true = grind (arith, nat_tests, le) in ap (λ (b : Bool). cond b (Some (value_at n (Some to))) None) test
  put_waits false f m o le = refl

  pub in_has : (parts : BTreeMap PartKey (Option Settled)) → HasPart parts part → (b : Bool) (q : PartKey) (o : Option Settled) (s : Settled) → same_part q part ≡ b → (o ≡ Some s → HasPart parts q)
      → cond b (Some (value_at n (Some to))) o ≡ Some s → HasPart parts q
  in_has parts has true q o s same backs e = subst (HasPart parts) (sym ((same_part-Decides q part).0 same)) has
  in_has parts has false q o s same backs e = backs e

-- ---- a call that marks a transaction

ended_first : (o : Option Under) → first_in (option_map ended o) ≡ None
ended_first None = refl
ended_first (Some under) = refl

ended_waits : (o : Option Under) (part : PartKey) → put_in (option_map ended o) part ≡ None
ended_waits None part = refl
ended_waits (Some under) part = refl

ended_backed : (parts : BTreeMap PartKey (Option Settled)) (n : ℕ) (o : Option Under) → IsBacked parts n o → IsBacked parts n (option_map ended o)
ended_backed parts n None backed = tt
ended_backed parts n (Some under) backed = backed

is_place-some : (o : Option ℕ) (m : ℕ) → o ≡ Some m → is_place o m ≡ true
is_place-some None m e = none_is m e
is_place-some (Some k) m e = let same : k ≡ m = some_is k m e in grind (arith, nat_tests, same)

is_place-true : (o : Option ℕ) (m : ℕ) → is_place o m ≡ true → o ≡ Some m
is_place-true None m e = absurd (true≢false (sym e))
is_place-true (Some k) m e = ap Some (eqb-true k m e)

kept_row : (b : Bool) (o : Option Tag) (q : Tag) → cond b None o ≡ Some q → (b ≡ false) × (o ≡ Some q)
kept_row true o q e = none_is q e
kept_row false o q e = (refl, e)

module _ (old : Tables) (calls : List OffsetCall) (kept : Keeps old calls) (last : OffsetCall) (t : Tag) (committed : Bool) (marks : (q : Tag) → mark_in q last ≡ cond (same_tag q t) (Some committed) None)
    (quiet : (q : Tag) → is_stand_of q last ≡ false) (none : (q : Tag) (part : PartKey) (place : ℕ) → put_at q part place last ≡ None)
    (new : Tables) (row : (q : Tag) → under_at new.waiting q ≡ cond (same_tag q t) (option_map ended (under_at old.waiting q)) (under_at old.waiting q))
    (order : (m : ℕ) → stands_at new.order m ≡ cond (old.next == m) None (cond (is_place (first_in (under_at old.waiting t)) m) None (stands_at old.order m))) where
  mark_here : (q : Tag) → same_tag q t ≡ true → mark_in q last ≡ Some committed
  mark_here q same = marks q ∙ ap (λ (b : Bool). cond b (Some committed) None) same

  mark_other : (q : Tag) → same_tag q t ≡ false → mark_in q last ≡ None
  mark_other q other = marks q ∙ ap (λ (b : Bool). cond b (Some committed) None) other

  first_other : (q : Tag) → same_tag q t ≡ false → first_at q 0 (calls ++ last ∷ []) ≡ first_at q 0 calls
  first_other q other =
      first_at-push q last (mark_other q other) calls 0
      ∙ ap (λ (b : Bool). option_or (first_at q 0 calls) (cond b (Some (0 + length calls)) None)) (quiet q)
      ∙ option_or-none (first_at q 0 calls)

  marked_first : (q : Tag) → first_in (under_at new.waiting q) ≡ first_at q 0 (calls ++ last ∷ [])
  marked_first q = ap first_in (row q) ∙ test_cases (same_tag q t)
      (λ same. ap (λ (b : Bool). first_in (cond b (option_map ended (under_at old.waiting q)) (under_at old.waiting q))) same ∙ ended_first (under_at old.waiting q)
      ∙ sym (first_at-marked q last committed (mark_here q same) (quiet q) calls 0))
      (λ other. ap (λ (b : Bool). first_in (cond b (option_map ended (under_at old.waiting q)) (under_at old.waiting q))) other ∙ kept.first q ∙ sym (first_other q other))

  marked_waits : (q : Tag) (part : PartKey) → put_in (under_at new.waiting q) part ≡ waits_at q part 0 (calls ++ last ∷ [])
  marked_waits q part = ap (λ o. put_in o part) (row q) ∙ test_cases (same_tag q t)
      (λ same. ap (λ (b : Bool). put_in (cond b (option_map ended (under_at old.waiting q)) (under_at old.waiting q)) part) same ∙ ended_waits (under_at old.waiting q) part
      ∙ sym (waits_at-marked q last committed (mark_here q same) part (none q part) calls 0))
      (λ other. ap (λ (b : Bool). put_in (cond b (option_map ended (under_at old.waiting q)) (under_at old.waiting q)) part) other ∙ kept.waits q part
      ∙ sym (waits_at-push q last (mark_other q other) part calls 0 ∙ ap (λ o. option_or o (waits_at q part 0 calls)) (none q part (0 + length calls))))

  backed_by : (parts : BTreeMap PartKey (Option Settled)) (b : Bool) (o : Option Under) → IsBacked parts old.next o → IsBacked parts (old.next + 1) (cond b (option_map ended o) o)
  backed_by parts true o backed = backed_later parts old.next (option_map ended o) (ended_backed parts old.next o backed)
  backed_by parts false o backed = backed_later parts old.next o backed

  marked_stands : (m : ℕ) (q : Tag) → stands_at new.order m ≡ Some q → first_at q 0 (calls ++ last ∷ []) ≡ Some m
  marked_stands m q e =
      let one = kept_row (old.next == m) (cond (is_place (first_in (under_at old.waiting t)) m) None (stands_at old.order m)) q (sym (order m) ∙ e) in
      let two = kept_row (is_place (first_in (under_at old.waiting t)) m) (stands_at old.order m) q one.1 in
      let was : first_at q 0 calls ≡ Some m = kept.stands m q two.1 in
      test_cases (same_tag q t)
      (λ same. absurd (true≢false (sym (is_place-some (first_in (under_at old.waiting t)) m (kept.first t ∙ ap (λ (k : Tag). first_at k 0 calls) (sym ((same_tag-Decides q t).0 same)) ∙ was)) ∙ two.0)))
      (λ other. first_other q other ∙ was)

  marked_placed : (m : ℕ) (q : Tag) → first_at q 0 (calls ++ last ∷ []) ≡ Some m → stands_at new.order m ≡ Some q
  marked_placed m q e = test_cases (same_tag q t)
      (λ same. none_is m (sym (first_at-marked q last committed (mark_here q same) (quiet q) calls 0) ∙ e))
      (λ other.
      let was : first_at q 0 calls ≡ Some m = sym (first_other q other) ∙ e in
      let stands : stands_at old.order m ≡ Some q = kept.placed m q was in
      order m
      ∙ ap (λ (b : Bool). cond b None (cond (is_place (first_in (under_at old.waiting t)) m) None (stands_at old.order m))) (other_place old calls kept q m was)
      ∙ test_cases (is_place (first_in (under_at old.waiting t)) m)
      (λ here.
      let first : first_at t 0 calls ≡ Some m = sym (kept.first t) ∙ is_place-true (first_in (under_at old.waiting t)) m here in
      let two : t ≡ q = some_is t q (sym (kept.placed m t first) ∙ stands) in
      absurd (true≢false (sym ((same_tag-Decides q t).1 (sym two)) ∙ other)))
      (λ there. ap (λ (b : Bool). cond b None (stands_at old.order m)) there ∙ stands))

  pub marked_keeps : new.next ≡ old.next + 1 → ((q : PartKey) → settled_at new.parts q ≡ settled q 0 (calls ++ last ∷ [])) → ((q : Tag) → IsBacked new.parts old.next (under_at old.waiting q)) → Keeps new (calls ++ last ∷ [])
  marked_keeps next settles backed = record {
    next = next ∙ pushed_next old calls kept last;
    settled = settles;
    first = marked_first;
    waits = marked_waits;
    backed = λ q. subst (λ (k : ℕ). IsBacked new.parts k (under_at new.waiting q)) (sym next) (subst (IsBacked new.parts (old.next + 1)) (sym (row q)) (backed_by new.parts (same_tag q t) (under_at old.waiting q) (backed q)));
    stands = marked_stands;
    placed = marked_placed;
  }
