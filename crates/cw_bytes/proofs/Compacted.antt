-- What a compaction by keys leaves: of each key the last record.
use Rattle.std.proofs.Common.{◌≡◌, ℕ, ◌+◌, ◌≤◌, ◌<◌, ◌==◌, Bool, true, false, not, cond, ◌&&◌, ◌||◌, leb, max, List, [], ◌∷◌, ◌++◌, length, map, Option, None, Some, refl, ap, sym, subst, ◌∙◌, append_assoc, arith}
use Rattle.std.specs.Bool.{⊤}
use Rattle.std.specs.Option.{option_map_or}
use Rattle.std.specs.List.{filter, flat_map, fold, list_any, last_or}
use Rattle.std.specs.Str.{bytes_eq}
use Rattle.std.proofs.lemmas.Bool.Decides.{nat_tests}
use Rattle.std.proofs.lemmas.List.Elements.{filter-append}
use Rattle.std.proofs.lemmas.List.Folds.{fold-map}
use Rattle.std.proofs.lemmas.Slice.Eq.{bytes_eq-Decides}
use Rattle.cw_bytes.specs.declared.applied.Applied.{Applied}
use Rattle.cw_bytes.specs.Frames.{joined, next_after, staying, is_last}

-- ---- frame by frame, as one list

module _ {A : Type 0} (stays : A → Bool) where
  filled : (x : A) (xs : List A) → not (length (x ∷ xs) == 0) ≡ true
  filled x xs = grind (arith, nat_tests)

  with_frame : (frame : List A) (frames : List (List A)) → joined (filter (λ f. not (length f == 0)) (frame ∷ frames)) ≡ frame ++ joined (filter (λ f. not (length f == 0)) frames)
  with_frame [] frames = refl
  with_frame (x ∷ xs) frames =
      ap (λ (b : Bool). joined (cond b ((x ∷ xs) ∷ filter (λ (f : List A). not (length f == 0)) frames) (filter (λ (f : List A). not (length f == 0)) frames))) (filled x xs)

  pub joined-staying : (frames : List (List A)) → joined (staying stays frames) ≡ filter stays (joined frames)
  joined-staying [] = refl
  joined-staying (frame ∷ frames) =
      with_frame (filter stays frame) (map (filter stays) frames)
      ∙ ap (λ (l : List A). filter stays frame ++ l) (joined-staying frames)
      ∙ sym (filter-append stays frame (joined frames))

-- ---- rising offsets

-- offsets rise, from one on
abbrev pub OffsetsRise : ℕ → List Applied → Type 0
OffsetsRise low [] = ⊤
OffsetsRise low (r ∷ records) = (low ≤ r.offset) × OffsetsRise (r.offset + 1) records

abbrev pub ends : ℕ → List Applied → ℕ
ends low records = fold (λ end (r : Applied). max end (r.offset + 1)) low records

ends-cons : (low : ℕ) (r : Applied) (records : List Applied) → low ≤ r.offset → ends low (r ∷ records) ≡ ends (r.offset + 1) records
ends-cons low r records above = let e : max low (r.offset + 1) ≡ r.offset + 1 = omega arith in ap (λ (end : ℕ). ends end records) e

low_ends : (low : ℕ) (records : List Applied) → OffsetsRise low records → low ≤ ends low records
low_ends low [] rises = omega arith
low_ends low (r ∷ records) rises =
    let rest : r.offset + 1 ≤ ends (r.offset + 1) records = low_ends (r.offset + 1) records rises.1 in
    let first : low ≤ r.offset = rises.0 in
    let e : ends low (r ∷ records) ≡ ends (r.offset + 1) records = ends-cons low r records rises.0 in
    omega (arith, rest, first, e)

pub next_after-ends : (records : List Applied) → next_after records ≡ ends 0 records
next_after-ends records = fold-map (λ (end : ℕ) (offset : ℕ). max end (offset + 1)) (λ (r : Applied). r.offset) 0 records

pub rise_front : (low : ℕ) (front back : List Applied) → OffsetsRise low (front ++ back) → OffsetsRise low front
rise_front low [] back rises = tt
rise_front low (r ∷ front) back rises = (rises.0, rise_front (r.offset + 1) front back rises.1)

rise_back : (low : ℕ) (front back : List Applied) → OffsetsRise low (front ++ back) → OffsetsRise (ends low front) back
rise_back low [] back rises = rises
rise_back low (r ∷ front) back rises =
    subst (λ (e : ℕ). OffsetsRise e back) (sym (ends-cons low r front rises.0)) (rise_back (r.offset + 1) front back rises.1)

-- ---- what stands before a point, and behind it

module _ (n : ℕ) (test : Applied → Bool) where
  all_stay : (low : ℕ) (records : List Applied) → OffsetsRise low records → n ≤ low → filter (λ r. leb n r.offset || test r) records ≡ records
  all_stay low [] rises above = refl
  all_stay low (r ∷ records) rises above =
      let first : low ≤ r.offset = rises.0 in
      let higher : n ≤ r.offset = omega (arith, first, above) in
      let is : leb n r.offset ≡ true = grind (arith, nat_tests) in
      let next : n ≤ r.offset + 1 = omega (arith, higher) in
      ap (λ (b : Bool). cond (b || test r) (r ∷ filter (λ q. leb n q.offset || test q) records) (filter (λ q. leb n q.offset || test q) records)) is
      ∙ ap (λ (l : List Applied). r ∷ l) (all_stay (r.offset + 1) records rises.1 next)

  some_stay : (low : ℕ) (records : List Applied) → OffsetsRise low records → ends low records ≤ n → filter (λ r. leb n r.offset || test r) records ≡ filter test records
  some_stay low [] rises below = refl
  some_stay low (r ∷ records) rises below =
      let rest : r.offset + 1 ≤ ends (r.offset + 1) records = low_ends (r.offset + 1) records rises.1 in
      let end : ends (r.offset + 1) records ≤ n = subst (λ (e : ℕ). e ≤ n) (ends-cons low r records rises.0) below in
      let lower : r.offset < n = omega (arith, rest, end) in
      let is : leb n r.offset ≡ false = grind (arith, nat_tests) in
      ap (λ (b : Bool). cond (b || test r) (r ∷ filter (λ q. leb n q.offset || test q) records) (filter (λ q. leb n q.offset || test q) records)) is
      ∙ ap (λ (l : List Applied). cond (test r) (r ∷ l) l) (some_stay (r.offset + 1) records rises.1 end)

-- before the point what passes stays, and behind it all
pub split_staying : (test : Applied → Bool) (front back : List Applied) → OffsetsRise 0 (front ++ back)
    → filter (λ r. leb (next_after front) r.offset || test r) (front ++ back) ≡ filter test front ++ back
split_staying test front back rises =
    let e : next_after front ≡ ends 0 front = next_after-ends front in
    let low : ends 0 front ≤ next_after front = omega (arith, e) in
    let high : next_after front ≤ ends 0 front = omega (arith, e) in
    filter-append (λ r. leb (next_after front) r.offset || test r) front back
    ∙ ap (λ (l : List Applied). l ++ filter (λ r. leb (next_after front) r.offset || test r) back) (some_stay (next_after front) test 0 front (rise_front 0 front back rises) low)
    ∙ ap (λ (l : List Applied). filter test front ++ l) (all_stay (next_after front) test (ends 0 front) back (rise_back 0 front back rises) high)

-- ---- the last record of each key

-- whether a key comes
abbrev pub repeats : List ℕ → List Applied → Bool
repeats key records = list_any (λ r. bytes_eq r.key key) records

abbrev pub keep_last : List Applied → List Applied
keep_last [] = []
keep_last (x ∷ xs) = cond (repeats x.key xs) (keep_last xs) (x ∷ keep_last xs)

last_or-append : (o : Option Applied) (xs ys : List Applied) → last_or o (xs ++ ys) ≡ last_or (last_or o xs) ys
last_or-append o [] ys = refl
last_or-append o (x ∷ xs) ys = last_or-append (Some x) xs ys

apart : (a b : ℕ) → a < b → (b == a) ≡ false
apart a b less = grind (arith, nat_tests)

none_passes : (b c : Bool) → (b && not (true || c)) ≡ false
none_passes true c = refl
none_passes false c = refl

and_true : (b : Bool) → (b && true) ≡ b
and_true true = refl
and_true false = refl

-- whether the last of those that pass stands where a record does
abbrev at : Applied → Option Applied → Bool
at x o = option_map_or (λ last. last.offset == x.offset) o false

one_more : (b any : Bool) (x z y : Applied) (rest : List Applied) → x.offset < y.offset
    → at x (last_or (Some y) rest) ≡ ((y.offset == x.offset) && not any) → at x (last_or (Some z) rest) ≡ ((z.offset == x.offset) && not any)
    → at x (last_or (Some z) (cond b (y ∷ rest) rest)) ≡ ((z.offset == x.offset) && not (b || any))
one_more true any x z y rest less taken passed =
    taken ∙ ap (λ (b : Bool). b && not any) (apart x.offset y.offset less) ∙ sym (none_passes (z.offset == x.offset) any)
one_more false any x z y rest less taken passed = passed

last_passing : (test : Applied → Bool) (x z : Applied) (low : ℕ) (xs : List Applied) → OffsetsRise low xs → x.offset < low
    → at x (last_or (Some z) (filter test xs)) ≡ ((z.offset == x.offset) && not (list_any test xs))
last_passing test x z low [] rises below = sym (and_true (z.offset == x.offset))
last_passing test x z low (y ∷ xs) rises below =
    let first : low ≤ y.offset = rises.0 in
    let less : x.offset < y.offset = omega (arith, first, below) in
    let next : x.offset < y.offset + 1 = omega (arith, less) in
    one_more (test y) (list_any test xs) x z y (filter test xs) less
    (last_passing test x y (y.offset + 1) xs rises.1 next) (last_passing test x z (y.offset + 1) xs rises.1 next)

itself : (n : ℕ) → (n == n) ≡ true
itself n = grind (arith, nat_tests)

-- a record is the last of its key where that doesn't come again
is_last-at : (front : List Applied) (x : Applied) (xs : List Applied) (low : ℕ) → OffsetsRise low (x ∷ xs) → is_last (front ++ x ∷ xs) x ≡ not (repeats x.key xs)
is_last-at front x xs low rises =
    let more : x.offset < x.offset + 1 = omega arith in
    ap (λ (l : List Applied). option_map_or (λ last. last.offset == x.offset) (last_or None l) false) (filter-append (λ r. bytes_eq r.key x.key) front (x ∷ xs))
    ∙ ap (λ (o : Option Applied). option_map_or (λ last. last.offset == x.offset) o false) (last_or-append None (filter (λ r. bytes_eq r.key x.key) front) (filter (λ r. bytes_eq r.key x.key) (x ∷ xs)))
    ∙ ap (λ (b : Bool). option_map_or (λ last. last.offset == x.offset) (last_or (last_or None (filter (λ r. bytes_eq r.key x.key) front)) (cond b (x ∷ filter (λ r. bytes_eq r.key x.key) xs) (filter (λ r. bytes_eq r.key x.key) xs))) false) ((bytes_eq-Decides x.key x.key).1 refl)
    ∙ last_passing (λ r. bytes_eq r.key x.key) x x (x.offset + 1) xs rises.1 more
    ∙ ap (λ (b : Bool). b && not (repeats x.key xs)) (itself x.offset)

turned : (b : Bool) (x y : List Applied) → cond (not b) x y ≡ cond b y x
turned true x y = refl
turned false x y = refl

kept_behind : (front xs : List Applied) (low : ℕ) → OffsetsRise low xs → filter (is_last (front ++ xs)) xs ≡ keep_last xs
kept_behind front [] low rises = refl
kept_behind front (x ∷ xs) low rises =
    let rest : filter (is_last (front ++ x ∷ xs)) xs ≡ keep_last xs =
    ap (λ (l : List Applied). filter (is_last l) xs) (sym (append_assoc front (x ∷ []) xs)) ∙ kept_behind (front ++ x ∷ []) xs (x.offset + 1) rises.1 in
    ap (λ (b : Bool). cond b (x ∷ filter (is_last (front ++ x ∷ xs)) xs) (filter (is_last (front ++ x ∷ xs)) xs)) (is_last-at front x xs low rises)
    ∙ ap (λ (l : List Applied). cond (not (repeats x.key xs)) (x ∷ l) l) rest
    ∙ turned (repeats x.key xs) (x ∷ keep_last xs) (keep_last xs)

-- those that are the last of their key
pub kept_last : (records : List Applied) → OffsetsRise 0 records → filter (is_last records) records ≡ keep_last records
kept_last records rises = kept_behind [] records 0 rises
