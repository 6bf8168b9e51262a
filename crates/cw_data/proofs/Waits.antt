-- The batches without marker behind one entry more, and the room for their places.
use Rattle.std.proofs.Common.{◌≡◌, ℕ, zero, suc, ◌+◌, ◌<◌, ◌≤◌, ◌^◌, Bool, true, false, not, ◌&&◌, ◌||◌, ◌==◌, cond, List, [], ◌∷◌, ◌++◌, length, Option, None, Some, is_none, IsSome, refl, sym, ap, subst, ◌∙◌, arith, append_assoc, length-append}
use Rattle.std.specs.Prelude.{slice_get, nat_lt}
use Rattle.std.specs.Option.{option_or}
use Rattle.std.specs.List.{list_any, count_by, AllByRecursion}
use Rattle.std.specs.BTreeMap.{get}
use Rattle.std.specs.Ordering.{nat_cmp}
use Rattle.std.specs.Global.{Vec}
use Rattle.std.proofs.lemmas.Bool.{true≢false}
use Rattle.std.proofs.lemmas.Bool.Decides.{nat_tests}
use Rattle.std.proofs.lemmas.List.{append-nil}
use Rattle.cw_types.specs.declared.ids.Tag.{Tag}
use Rattle.cw_types.specs.Same.{same_tag, tag_order}
use Rattle.cw_types.proofs.SameLemmas.{same_tag-flip, same_tag-Decides}
use Rattle.cw_data.specs.declared.entry.Batch.{Batch}
use Rattle.cw_data.specs.declared.entry.DataEntry.{DataEntry}
use Rattle.cw_data.specs.declared.entry.DataEntry.TheVariants.{Batch as InBatch, Mark}
use Rattle.cw_data.specs.declared.unmarked.Unmarked.{Unmarked}
use Rattle.cw_data.specs.Rows.{Marks, batch_in, batch_at}
use Rattle.cw_data.specs.Tables.{after_mark}
use Rattle.cw_data.specs.Unmarked.{is_batch_with, place_with, places_from, unmarked_of, is_place, begins_with, begins_at, stands_at, places_at, KeepsPlaces, HasRoomFor, HasPlaces, Roomier}
use Rattle.cw_data.proofs.Lists.{slice_get-left, slice_get-here, slice_get-past, count-split}

pub by_test : {P : Type 0} (b : Bool) → (b ≡ true → P) → (b ≡ false → P) → P
by_test true yes' no' = yes' refl
by_test false yes' no' = no' refl

same_place : (a b : ℕ) → (a == b) ≡ true → a ≡ b
same_place a b is = grind (arith, nat_tests)

is_same : (a b : ℕ) → a ≡ b → (a == b) ≡ true
is_same a b is = grind (arith, nat_tests)

other_place : (a b : ℕ) → a < b → (a == b) ≡ false
other_place a b less = grind (arith, nat_tests)

later_place : (a b : ℕ) → b < a → (a == b) ≡ false
later_place a b less = grind (arith, nat_tests)

-- ---- places

pub places_from-push : (tag : Tag) (place : ℕ) (entries : List DataEntry) (entry : DataEntry) → places_from tag place (entries ++ entry ∷ []) ≡ places_from tag place entries ++ place_with tag (place + length entries) entry
places_from-push tag place [] entry = let e : place ≡ place + 0 = omega arith in append-nil (place_with tag place entry) ∙ ap (λ n. place_with tag n entry) e
places_from-push tag place (e ∷ es) entry =
    let same : place + 1 + length es ≡ place + suc (length es) = omega arith in
    ap (λ (l : List ℕ). place_with tag place e ++ l) (places_from-push tag (place + 1) es entry ∙ ap (λ n. places_from tag (place + 1) es ++ place_with tag n entry) same)
    ∙ sym (append_assoc (place_with tag place e) (places_from tag (place + 1) es) (place_with tag (place + suc (length es)) entry))

-- no place is before the first one
first_past : (tag : Tag) (place n : ℕ) (es : List DataEntry) → n < place → is_place (slice_get (places_from tag place es) 0) n ≡ false
first_past tag place n [] before = refl
first_past tag place n (e ∷ es) before = by (is_batch_with tag e) (first_past tag (place + 1) n es (omega (arith, before)))
  where
    by : (b : Bool) → is_place (slice_get (places_from tag (place + 1) es) 0) n ≡ false → is_place (slice_get (cond b (place ∷ []) [] ++ places_from tag (place + 1) es) 0) n ≡ false
    by true rest = later_place place n before
    by false rest = rest

-- nor is it where no batch of the transaction stands
pub first_apart : (tag : Tag) (place i : ℕ) (es : List DataEntry) (e : DataEntry) → slice_get es i ≡ Some e → is_batch_with tag e ≡ false → is_place (slice_get (places_from tag place es) 0) (place + i) ≡ false
first_apart tag place i [] e there apart = refl
first_apart tag place zero (x ∷ es) e there apart =
    let one : x ≡ e = cc there in
    let n : place + 0 ≡ place = omega arith in
    let rest = first_past tag (place + 1) (place + 0) es (omega arith) in
    ap (λ (b : Bool). is_place (slice_get (cond b (place ∷ []) [] ++ places_from tag (place + 1) es) 0) (place + 0)) (ap (is_batch_with tag) one ∙ apart) ∙ rest
first_apart tag place (suc i) (x ∷ es) e there apart = by (is_batch_with tag x) (subst (λ n. is_place (slice_get (places_from tag (place + 1) es) 0) n ≡ false) same (first_apart tag (place + 1) i es e there apart))
  where
    same : place + 1 + i ≡ place + suc i
    same = omega arith

    by : (b : Bool) → is_place (slice_get (places_from tag (place + 1) es) 0) (place + suc i) ≡ false → is_place (slice_get (cond b (place ∷ []) [] ++ places_from tag (place + 1) es) 0) (place + suc i) ≡ false
    by true rest = other_place place (place + suc i) (omega arith)
    by false rest = rest

-- it is where the first batch of the transaction stands
pub first_here : (tag : Tag) (place i : ℕ) (es : List DataEntry) (e : DataEntry) → slice_get es i ≡ Some e → is_batch_with tag e ≡ true → ((j : ℕ) (x : DataEntry) → j < i → slice_get es j ≡ Some x → is_batch_with tag x ≡ false)
    → is_place (slice_get (places_from tag place es) 0) (place + i) ≡ true
first_here tag place i [] e there is others = absurd (cc there)
first_here tag place zero (x ∷ es) e there is others =
    let one : x ≡ e = cc there in
    ap (λ (b : Bool). is_place (slice_get (cond b (place ∷ []) [] ++ places_from tag (place + 1) es) 0) (place + 0)) (ap (is_batch_with tag) one ∙ is) ∙ is_same place (place + 0) (omega arith)
first_here tag place (suc i) (x ∷ es) e there is others =
    ap (λ (b : Bool). is_place (slice_get (cond b (place ∷ []) [] ++ places_from tag (place + 1) es) 0) (place + suc i)) (others 0 x (omega arith) refl)
    ∙ subst (λ n. is_place (slice_get (places_from tag (place + 1) es) 0) n ≡ true) same (first_here tag (place + 1) i es e there is (λ j y less at. others (suc j) y (omega (arith, less)) at))
  where
    same : place + 1 + i ≡ place + suc i
    same = omega arith

-- each is below the list's end
pub places_below : (tag : Tag) (place : ℕ) (es : List DataEntry) (n : ℕ) → place + length es ≤ n → AllByRecursion (λ p. p < n) (places_from tag place es)
places_below tag place [] n within = tt
places_below tag place (e ∷ es) n within = by (is_batch_with tag e) (places_below tag (place + 1) es n (omega (arith, within)))
  where
    by : (b : Bool) → AllByRecursion (λ p. p < n) (places_from tag (place + 1) es) → AllByRecursion (λ p. p < n) (cond b (place ∷ []) [] ++ places_from tag (place + 1) es)
    by true rest = (omega (arith, within), rest)
    by false rest = rest

-- a batch of the transaction has its place among them
pub in_places : (tag : Tag) (f : ℕ → Bool) (place i : ℕ) (es : List DataEntry) (e : DataEntry) → slice_get es i ≡ Some e → is_batch_with tag e ≡ true → f (place + i) ≡ true → list_any f (places_from tag place es) ≡ true
in_places tag f place i [] e there is passes = absurd (cc there)
in_places tag f place zero (x ∷ es) e there is passes =
    let one : x ≡ e = cc there in
    let same : place + 0 ≡ place = omega arith in
    ap (λ (b : Bool). list_any f (cond b (place ∷ []) [] ++ places_from tag (place + 1) es)) (ap (is_batch_with tag) one ∙ is)
    ∙ ap (λ (b : Bool). b || list_any f (places_from tag (place + 1) es)) (ap f (sym same) ∙ passes)
in_places tag f place (suc i) (x ∷ es) e there is passes = by (is_batch_with tag x) (in_places tag f (place + 1) i es e there is (subst (λ n. f n ≡ true) same passes))
  where
    same : place + suc i ≡ place + 1 + i
    same = omega arith

    by : (b : Bool) → list_any f (places_from tag (place + 1) es) ≡ true → list_any f (cond b (place ∷ []) [] ++ places_from tag (place + 1) es) ≡ true
    by true rest = by_test (f place) (λ yes'. ap (λ (b : Bool). b || list_any f (places_from tag (place + 1) es)) yes') (λ no'. ap (λ (b : Bool). b || list_any f (places_from tag (place + 1) es)) no' ∙ rest)
    by false rest = rest

-- ---- the batch at a place, behind one entry more

batch_left : (entries : List DataEntry) (entry : DataEntry) (n : ℕ) → n < length entries → batch_at (entries ++ entry ∷ []) n ≡ batch_at entries n
batch_left entries entry n within = ap batch_in (slice_get-left entries (entry ∷ []) n within)

batch_here : (entries : List DataEntry) (entry : DataEntry) → batch_at (entries ++ entry ∷ []) (length entries) ≡ batch_in (Some entry)
batch_here entries entry = ap batch_in (slice_get-here entries entry [])

batch_past : (entries : List DataEntry) (n : ℕ) → length entries ≤ n → batch_at entries n ≡ None
batch_past entries n past = ap batch_in (slice_get-past entries n past)

none_begins : (marks : Marks) (entries : List DataEntry) (n : ℕ) → length entries ≤ n → begins_at marks entries n ≡ false
none_begins marks entries n past = ap (begins_with marks entries n) (batch_past entries n past)

past_push : (entries : List DataEntry) (entry : DataEntry) (n : ℕ) → length entries < n → length (entries ++ entry ∷ []) ≤ n
past_push entries entry n past = omega (arith, past, length-append entries (entry ∷ []))

-- a place is before the end, at it or behind it
by_place : {P : Type 0} (n m : ℕ) → (n < m → P) → (n ≡ m → P) → (m < n → P) → P
by_place n m before at past = by_test (n == m) (λ same. at (same_place n m same)) (λ apart. by_test (nat_lt n m) (λ less. before (grind (arith, nat_tests))) (λ more. past (grind (arith, nat_tests))))

-- ---- behind a batch

-- the first place stays the first
first_stays : (w e : Bool) (ps : List ℕ) (end n : ℕ) → n < end → is_place (slice_get (cond w ps []) 0) n ≡ is_place (slice_get (cond w (ps ++ cond e (end ∷ []) []) []) 0) n
first_stays false e ps end n less = refl
first_stays true e (p ∷ ps) end n less = refl
first_stays true true [] end n less = sym (later_place end n less)
first_stays true false [] end n less = refl

-- and the end is the first where there is no other
first_new : (w : Bool) (ps : List ℕ) (end : ℕ) → AllByRecursion (λ p. p < end) ps → (w && (length (cond w ps []) == 0)) ≡ is_place (slice_get (cond w (ps ++ end ∷ []) []) 0) end
first_new false ps end each = refl
first_new true [] end each = sym (is_same end end refl)
first_new true (p ∷ ps) end each = later_place (suc (length ps)) 0 (omega arith) ∙ sym (other_place p end each.0)

pushed : (w s m : Bool) → (s ≡ true → m ≡ w) → (ps : List ℕ) (end : ℕ) → cond (w && s) (cond m ps [] ++ end ∷ []) (cond m ps []) ≡ cond m (ps ++ cond s (end ∷ []) []) []
pushed true false true is ps end = sym (append-nil ps)
pushed false false true is ps end = sym (append-nil ps)
pushed true false false is ps end = refl
pushed false false false is ps end = refl
pushed true true true is ps end = refl
pushed false true true is ps end = absurd (true≢false (is refl))
pushed true true false is ps end = absurd (true≢false (sym (is refl)))
pushed false true false is ps end = refl

module _ (marks : Marks) (entries : List DataEntry) (batch : Batch) (old new : Unmarked) (was : KeepsPlaces marks entries old) (waits : Bool) (is : waits ≡ is_none (marks batch.tag)) where
  abbrev after : List DataEntry
  after = entries ++ InBatch batch ∷ []

  unmarked_after : (q : Tag) → unmarked_of marks after q ≡ cond (is_none (marks q)) (places_from q 0 entries ++ cond (same_tag q batch.tag) (length entries ∷ []) []) []
  unmarked_after q = ap (λ (l : List ℕ). cond (is_none (marks q)) l []) (places_from-push q 0 entries (InBatch batch) ∙ ap (λ n. places_from q 0 entries ++ cond (same_tag q batch.tag) (n ∷ []) []) (omega arith))

  batch_places : ((q : Tag) → places_at new.places q ≡ cond (waits && same_tag q batch.tag) (places_at old.places q ++ old.next ∷ []) (places_at old.places q)) → (q : Tag) → places_at new.places q ≡ unmarked_of marks after q
  batch_places set q =
      set q
      ∙ ap (λ (l : List ℕ). cond (waits && same_tag q batch.tag) (l ++ old.next ∷ []) l) (was.places q)
      ∙ ap (λ n. cond (waits && same_tag q batch.tag) (unmarked_of marks entries q ++ n ∷ []) (unmarked_of marks entries q)) was.next
      ∙ pushed waits (same_tag q batch.tag) (is_none (marks q)) (λ same. ap (λ (t : Tag). is_none (marks t)) ((same_tag-Decides q batch.tag).0 same) ∙ sym is) (places_from q 0 entries) (length entries)
      ∙ sym (unmarked_after q)

  begins_before : (n : ℕ) → n < length entries → (o : Option Batch) → begins_with marks entries n o ≡ begins_with marks after n o
  begins_before n less None = refl
  begins_before n less (Some c) =
      first_stays (is_none (marks c.tag)) (same_tag c.tag batch.tag) (places_from c.tag 0 entries) (length entries) n less
      ∙ ap (λ (l : List ℕ). is_place (slice_get l 0) n) (sym (unmarked_after c.tag))

  batch_begins : (waits && (length (places_at old.places batch.tag) == 0)) ≡ begins_at marks after (length entries)
  batch_begins =
      ap (λ (l : List ℕ). waits && (length l == 0)) (was.places batch.tag)
      ∙ ap (λ (w : Bool). w && (length (unmarked_of marks entries batch.tag) == 0)) is
      ∙ first_new (is_none (marks batch.tag)) (places_from batch.tag 0 entries) (length entries) (places_below batch.tag 0 entries (length entries) (omega arith))
      ∙ ap (λ (b : Bool). is_place (slice_get (cond (is_none (marks batch.tag)) (places_from batch.tag 0 entries ++ cond b (length entries ∷ []) []) []) 0) (length entries)) (sym ((same_tag-Decides batch.tag batch.tag).1 refl))
      ∙ ap (λ (l : List ℕ). is_place (slice_get l 0) (length entries)) (sym (unmarked_after batch.tag))
      ∙ ap (begins_with marks after (length entries)) (sym (batch_here entries (InBatch batch)))

  batch_order : ((n : ℕ) → stands_at new.order n ≡ cond (old.next == n) (waits && (length (places_at old.places batch.tag) == 0)) (stands_at old.order n)) → (n : ℕ) → stands_at new.order n ≡ begins_at marks after n
  batch_order set n = by_place n (length entries)
      (λ before.
      set n
      ∙ ap (λ (b : Bool). cond b (waits && (length (places_at old.places batch.tag) == 0)) (stands_at old.order n)) (ap (λ m. m == n) was.next ∙ later_place (length entries) n before)
      ∙ was.order n
      ∙ begins_before n before (batch_at entries n)
      ∙ ap (begins_with marks after n) (sym (batch_left entries (InBatch batch) n before)))
      (λ at.
      set n
      ∙ ap (λ (b : Bool). cond b (waits && (length (places_at old.places batch.tag) == 0)) (stands_at old.order n)) (is_same old.next n (was.next ∙ sym at))
      ∙ batch_begins
      ∙ ap (begins_at marks after) (sym at))
      (λ past.
      set n
      ∙ ap (λ (b : Bool). cond b (waits && (length (places_at old.places batch.tag) == 0)) (stands_at old.order n)) (ap (λ m. m == n) was.next ∙ other_place (length entries) n past)
      ∙ was.order n
      ∙ none_begins marks entries n (omega (arith, past))
      ∙ sym (none_begins marks after n (past_push entries (InBatch batch) n past)))

  pub keeps_batch : new.next ≡ old.next + 1
      → ((q : Tag) → places_at new.places q ≡ cond (waits && same_tag q batch.tag) (places_at old.places q ++ old.next ∷ []) (places_at old.places q))
      → ((n : ℕ) → stands_at new.order n ≡ cond (old.next == n) (waits && (length (places_at old.places batch.tag) == 0)) (stands_at old.order n))
      → KeepsPlaces marks after new
  keeps_batch next places order = record {
    next = omega (arith, next, was.next, length-append entries (InBatch batch ∷ []));
    places = batch_places places;
    order = batch_order order;
  }

-- ---- behind a marker

none_more : (o : Option Bool) (b c : Bool) → is_none (option_or o (cond b (Some c) None)) ≡ (is_none o && not b)
none_more None true c = refl
none_more None false c = refl
none_more (Some d) b c = refl

pub falls_by : (marks : Marks) (tag : Tag) (committed : Bool) (now : Marks) → ((q : Tag) → now q ≡ after_mark marks tag committed q) → (q : Tag) → is_none (now q) ≡ (is_none (marks q) && not (same_tag tag q))
falls_by marks tag committed now is q = ap is_none (is q) ∙ none_more (marks q) (same_tag q tag) committed ∙ ap (λ b. is_none (marks q) && not b) (same_tag-flip q tag)

emptied : (s m k : Bool) → k ≡ (m && not s) → (ps : List ℕ) → cond s [] (cond m ps []) ≡ cond k (ps ++ []) []
emptied true true k is ps = ap (λ (b : Bool). cond b (ps ++ []) []) (sym is)
emptied true false k is ps = ap (λ (b : Bool). cond b (ps ++ []) []) (sym is)
emptied false true k is ps = sym (append-nil ps) ∙ ap (λ (b : Bool). cond b (ps ++ []) []) (sym is)
emptied false false k is ps = ap (λ (b : Bool). cond b (ps ++ []) []) (sym is)

gone : (b : Bool) → cond b false b ≡ false
gone true = refl
gone false = refl

none_left : (b : Bool) → cond b false false ≡ false
none_left true = refl
none_left false = refl

module _ (marks now : Marks) (entries : List DataEntry) (tag : Tag) (committed : Bool) (old new : Unmarked) (was : KeepsPlaces marks entries old) (set : (q : Tag) → now q ≡ after_mark marks tag committed q) where
  abbrev behind : List DataEntry
  behind = entries ++ Mark tag committed ∷ []

  falls : (q : Tag) → is_none (now q) ≡ (is_none (marks q) && not (same_tag tag q))
  falls = falls_by marks tag committed now set

  unmarked_behind : (q : Tag) → unmarked_of now behind q ≡ cond (same_tag tag q) [] (unmarked_of marks entries q)
  unmarked_behind q =
      ap (λ (l : List ℕ). cond (is_none (now q)) l []) (places_from-push q 0 entries (Mark tag committed))
      ∙ sym (emptied (same_tag tag q) (is_none (marks q)) (is_none (now q)) (falls q) (places_from q 0 entries))

  -- the batch at another transaction's first place is that one's
  apart : (m : Bool) (c : Batch) (n : ℕ) → batch_at entries n ≡ Some c → same_tag tag c.tag ≡ false → is_place (slice_get (cond m (places_from tag 0 entries) []) 0) n ≡ false
  apart true c n there other = by (slice_get entries n) refl
    where
      by : (o : Option DataEntry) → slice_get entries n ≡ o → is_place (slice_get (places_from tag 0 entries) 0) n ≡ false
      by None at = absurd (cc (sym (ap batch_in at) ∙ there))
      by (Some (InBatch b)) at = let one : b ≡ c = cc (sym (ap batch_in at) ∙ there) in
          let same : 0 + n ≡ n = omega arith in
          subst (λ k. is_place (slice_get (places_from tag 0 entries) 0) k ≡ false) same (first_apart tag 0 n entries (InBatch b) at (ap (λ (x : Batch). same_tag tag x.tag) one ∙ other))
      by (Some (Mark t k)) at = absurd (cc (sym (ap batch_in at) ∙ there))
  apart false c n there other = refl

  begins_behind : (n : ℕ) (o : Option Batch) → batch_at entries n ≡ o → cond (is_place (slice_get (unmarked_of marks entries tag) 0) n) false (begins_with marks entries n o) ≡ begins_with now behind n o
  begins_behind n None at = none_left (is_place (slice_get (unmarked_of marks entries tag) 0) n)
  begins_behind n (Some c) at = by_test (same_tag tag c.tag)
      (λ same.
      let one : tag ≡ c.tag = (same_tag-Decides tag c.tag).0 same in
      ap (λ (t : Tag). cond (is_place (slice_get (unmarked_of marks entries tag) 0) n) false (is_place (slice_get (unmarked_of marks entries t) 0) n)) (sym one)
      ∙ gone (is_place (slice_get (unmarked_of marks entries tag) 0) n)
      ∙ sym (ap (λ (l : List ℕ). is_place (slice_get l 0) n) (unmarked_behind c.tag ∙ ap (λ (b : Bool). cond b [] (unmarked_of marks entries c.tag)) same)))
      (λ other.
      ap (λ (b : Bool). cond b false (is_place (slice_get (unmarked_of marks entries c.tag) 0) n)) (apart (is_none (marks tag)) c n at other)
      ∙ sym (ap (λ (l : List ℕ). is_place (slice_get l 0) n) (unmarked_behind c.tag ∙ ap (λ (b : Bool). cond b [] (unmarked_of marks entries c.tag)) other)))

  pub keeps_mark : new.next ≡ old.next + 1
      → ((q : Tag) → places_at new.places q ≡ cond (same_tag q tag) [] (places_at old.places q))
      → ((n : ℕ) → stands_at new.order n ≡ cond (old.next == n) false (cond (is_place (slice_get (places_at old.places tag) 0) n) false (stands_at old.order n)))
      → KeepsPlaces now behind new
  keeps_mark next places order = record {
    next = omega (arith, next, was.next, length-append entries (Mark tag committed ∷ []));
    places = λ q. places q ∙ ap (cond (same_tag q tag) []) (was.places q) ∙ ap (λ (b : Bool). cond b [] (unmarked_of marks entries q)) (same_tag-flip q tag) ∙ sym (unmarked_behind q);
    order = λ n.
        order n
        ∙ ap (λ (b : Bool). cond (old.next == n) false (cond (is_place (slice_get (places_at old.places tag) 0) n) false b)) (was.order n)
        ∙ ap (λ (l : List ℕ). cond (old.next == n) false (cond (is_place (slice_get l 0) n) false (begins_at marks entries n))) (was.places tag)
        ∙ by_place n (length entries)
        (λ before.
        ap (λ (b : Bool). cond b false (cond (is_place (slice_get (unmarked_of marks entries tag) 0) n) false (begins_at marks entries n))) (ap (λ m. m == n) was.next ∙ later_place (length entries) n before)
        ∙ begins_behind n (batch_at entries n) refl
        ∙ ap (begins_with now behind n) (sym (batch_left entries (Mark tag committed) n before)))
        (λ at.
        ap (λ (b : Bool). cond b false (cond (is_place (slice_get (unmarked_of marks entries tag) 0) n) false (begins_at marks entries n))) (is_same old.next n (was.next ∙ sym at))
        ∙ sym (ap (begins_at now behind) at ∙ ap (begins_with now behind (length entries)) (batch_here entries (Mark tag committed))))
        (λ past.
        ap (λ (b : Bool). cond (old.next == n) false (cond (is_place (slice_get (unmarked_of marks entries tag) 0) n) false b)) (none_begins marks entries n (omega (arith, past)))
        ∙ ap (cond (old.next == n) false) (none_left (is_place (slice_get (unmarked_of marks entries tag) 0) n))
        ∙ none_left (old.next == n)
        ∙ sym (none_begins now behind n (past_push entries (Mark tag committed) n past)));
  }

-- what waits of a transaction stands in the log
pub first_before : (marks : Marks) (entries : List DataEntry) (old : Unmarked) → KeepsPlaces marks entries old → (tag : Tag) (n : ℕ) → slice_get (places_at old.places tag) 0 ≡ Some n → n < old.next
first_before marks entries old was tag n is = by (is_none (marks tag)) (places_from tag 0 entries) (places_below tag 0 entries (length entries) (omega arith)) (sym (ap (λ (l : List ℕ). slice_get l 0) (was.places tag)) ∙ is)
  where
    by : (m : Bool) (ps : List ℕ) → AllByRecursion (λ p. p < length entries) ps → slice_get (cond m ps []) 0 ≡ Some n → n < old.next
    by true [] each at = absurd (cc at)
    by true (p ∷ ps) each at = let one : p ≡ n = cc at in let low = each.0 in omega (arith, one, low, was.next)
    by false ps each at = absurd (cc at)

-- ---- room

pub not_before : (place n : ℕ) → place < n → (place == n) ≡ false
not_before place n less = other_place place n less

pub first_passed : (end : ℕ) (o : Option ℕ) → ((n : ℕ) → o ≡ Some n → n < end) → (n : ℕ) → end < n → is_place o n ≡ false
first_passed end None before n later = refl
first_passed end (Some p) before n later = let low = before p refl in other_place p n (omega (arith, low, later))

pub room_on : (old new : Unmarked) (entry : DataEntry) → new.next ≡ old.next + 1 → ((n : ℕ) → old.next < n → IsSome (get nat_cmp old.order n) → IsSome (get nat_cmp new.order n))
    → ((n : ℕ) (q : Tag) → HasRoomFor (n + cond (is_batch_with q entry) 1 0) (get tag_order old.places q) → HasRoomFor n (get tag_order new.places q))
    → (front back : List DataEntry) → HasPlaces old (front ++ entry ∷ back) → HasPlaces new (front ++ back)
room_on old new entry next rows room front back was =
    let long = length-append front (entry ∷ back) in
    let short = length-append front back in
    record {
      rows = λ n from to. rows n (omega (arith, next, from)) (was.rows n (omega (arith, next, from)) (omega (arith, next, to, long, short)));
      small = let small = was.small in omega (arith, next, small, long, short);
      room = λ q. room (count_by (is_batch_with q) (front ++ back)) q (subst (λ n. HasRoomFor n (get tag_order old.places q)) (count-split (is_batch_with q) front entry back) (was.room q));
    }

has_less : (n m : ℕ) (o : Option (Vec ℕ)) → n ≤ m → HasRoomFor m o → HasRoomFor n o
has_less n m None less room = omega (arith, less, room)
has_less n m (Some places) less room = omega (arith, less, room)

-- room for one of the entries alone
pub places_alone : (unmarked : Unmarked) (front : List DataEntry) (entry : DataEntry) (back : List DataEntry) → HasPlaces unmarked (front ++ entry ∷ back) → HasPlaces unmarked (entry ∷ [])
places_alone unmarked front entry back was =
    let long = length-append front (entry ∷ back) in
    record {
      rows = λ n from to. was.rows n from (omega (arith, to, long));
      small = let small = was.small in omega (arith, small, long);
      room = λ q.
          let less : count_by (is_batch_with q) (entry ∷ []) ≤ count_by (is_batch_with q) (front ++ entry ∷ back) = omega (arith, count-split (is_batch_with q) front entry back, count-split (is_batch_with q) [] entry []) in
          has_less (count_by (is_batch_with q) (entry ∷ [])) (count_by (is_batch_with q) (front ++ entry ∷ back)) (get tag_order unmarked.places q) less (was.room q);
    }

-- tables that read as before
pub keeps_roomier : (marks : Marks) (entries : List DataEntry) (old new : Unmarked) → Roomier old new → KeepsPlaces marks entries old → KeepsPlaces marks entries new
keeps_roomier marks entries old new more was = record {
  next = more.next ∙ was.next;
  places = λ q. more.places q ∙ was.places q;
  order = λ n. more.order n ∙ was.order n;
}

pub has_roomier : (old new : Unmarked) (reserved : List DataEntry) → Roomier old new → HasPlaces old reserved → HasPlaces new reserved
has_roomier old new reserved more was = record {
  rows = λ n from to. more.rows n (was.rows n (omega (arith, more.next, from)) (omega (arith, more.next, to)));
  small = let small = was.small in omega (arith, more.next, small);
  room = λ q. more.room (count_by (is_batch_with q) reserved) q (was.room q);
}

pub roomier_twice : (old mid new : Unmarked) → Roomier old mid → Roomier mid new → Roomier old new
roomier_twice old mid new one two = record {
  next = two.next ∙ one.next;
  order = λ n. two.order n ∙ one.order n;
  places = λ q. two.places q ∙ one.places q;
  rows = λ n had. two.rows n (one.rows n had);
  room = λ n q had. two.room n q (one.room n q had);
}

-- room for one entry more
pub has_more : (now : Unmarked) (reserved : List DataEntry) (entry : DataEntry) → HasPlaces now reserved → IsSome (get nat_cmp now.order (now.next + length reserved)) → now.next + length reserved + 1 < 2 ^ 64
    → ((q : Tag) → is_batch_with q entry ≡ true → HasRoomFor (count_by (is_batch_with q) reserved + 1) (get tag_order now.places q)) → HasPlaces now (reserved ++ entry ∷ [])
has_more now reserved entry was there small room =
    let long = length-append reserved (entry ∷ []) in
    record {
      rows = λ n from to. by_place n (now.next + length reserved)
          (λ before. was.rows n from before)
          (λ at. subst (λ m. IsSome (get nat_cmp now.order m)) (sym at) there)
          (λ past. absurd (omega (arith, past, to, long)));
      small = omega (arith, small, long);
      room = λ q. subst (λ n. HasRoomFor n (get tag_order now.places q)) (sym (count-split (is_batch_with q) reserved entry [] ∙ ap (λ (l : List DataEntry). count_by (is_batch_with q) l + cond (is_batch_with q entry) 1 0) (append-nil reserved)))
          (by_test (is_batch_with q entry)
          (λ is. subst (λ (b : Bool). HasRoomFor (count_by (is_batch_with q) reserved + cond b 1 0) (get tag_order now.places q)) (sym is) (room q is))
          (λ isnt.
          let none : count_by (is_batch_with q) reserved ≡ count_by (is_batch_with q) reserved + 0 = omega arith in
          subst (λ (b : Bool). HasRoomFor (count_by (is_batch_with q) reserved + cond b 1 0) (get tag_order now.places q)) (sym isnt) (subst (λ n. HasRoomFor n (get tag_order now.places q)) none (was.room q))));
    }
