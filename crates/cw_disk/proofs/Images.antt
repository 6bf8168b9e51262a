-- The images of a disk in memory, after one more call.
use Rattle.std.proofs.Common.{◌≡◌, ◌⊎◌, inl, inr, ℕ, ◌+◌, ◌-◌, ◌≤◌, ◌<◌, min, max, List, [], ◌∷◌, ◌++◌, length, take, drop, get_or, map, replicate, Bool, true, false, not, cond, refl, sym, ◌∙◌, ap, subst, rules, arith, append_assoc, length-take, length-drop, length-append}
use Rattle.std.specs.List.{range_with_len}
use Rattle.std.proofs.lemmas.List.{take_at, drop_at, take_all, drop_all, places, replicate-append-replicate, length-replicate, get_or-replicate, get_or-take, get_or-drop, get_or_past, drop-append-le, ext_get_or}
use Rattle.std.proofs.lemmas.List.FromFn.{length-map-range_with_len, get_or-map-range_with_len}
use Rattle.std.proofs.lemmas.Bool.{cases_lt}
use Rattle.std.proofs.lemmas.Bool.Decides.{nat_tests}
use Rattle.cw_disk.specs.declared.held.Held.{Held}
use Rattle.cw_disk.specs.declared.memory.Way.{Way}
use Rattle.cw_disk.specs.declared.memory.Way.TheVariants.{AsRead, Old, Noise}
use Rattle.cw_disk.specs.Disk.{written, Torn, Cut, Follows, Only, IsFirstByte, Elapses}
use Rattle.cw_disk.specs.Memory.{is_loose, IsImage, Leaves, HadLeft, LeftSince, IsHeld, is_first_byte, Wrote, Shortened, Fastened, noise, image_of}

-- ---- lists

-- the front that is fast has no mark
pub front_fast : (loose : List Bool) (n : ℕ) → n ≤ length loose → ((i : ℕ) → i < n → is_loose loose i ≡ false) → take n loose ≡ replicate n false
front_fast loose n le fast = ext_get_or true (take n loose) (replicate n false) (omega (arith, length-take n loose, length-replicate n false))
    (λ i h. let short : i < n = omega (arith, h, length-take n loose) in get_or-take n loose i true short ∙ fast i short ∙ sym (get_or-replicate n i false true short))

pub fast_again : (front : List Bool) (n m k : ℕ) → front ≡ replicate n false → n ≤ m → k ≡ n → take m front ++ replicate (m - k) false ≡ replicate m false
fast_again front n m k is le same =
    ap (λ l. l ++ replicate (m - k) false) (take_all m front (omega (arith, ap length is, length-replicate n false)) ∙ is)
    ∙ replicate-append-replicate n (m - k) false ∙ ap (λ (j : ℕ). replicate j false) (omega arith)

-- before and behind a write what was there stands
module _ {A : Type 0} (old from : List A) (at : ℕ) (start : at ≤ length old) where
  pub length-written : length (written old at from) ≡ max (length old) (at + length from)
  length-written = omega (arith, length-append (take at old ++ from) (drop (at + length from) old), length-append (take at old) from, length-take at old, length-drop (at + length from) old)

  pub before_written : take at (written old at from) ≡ take at old
  before_written = ap (λ l. take at l) (append_assoc (take at old) from (drop (at + length from) old)) ∙ take_at (take at old) (from ++ drop (at + length from) old) at (omega (arith, length-take at old))

  pub behind_written : drop (at + length from) (written old at from) ≡ drop (at + length from) old
  behind_written = drop_at (take at old ++ from) (drop (at + length from) old) (at + length from) (omega (arith, length-append (take at old) from, length-take at old))

  pub below_written : (i : ℕ) (d : A) → i < at → get_or (written old at from) i d ≡ get_or old i d
  below_written i d h = sym (get_or-take at (written old at from) i d h) ∙ ap (λ l. get_or l i d) before_written ∙ get_or-take at old i d h

  pub above_written : (i : ℕ) (d : A) → at + length from ≤ i → get_or (written old at from) i d ≡ get_or old i d
  above_written i d h =
      let e : at + length from + (i - (at + length from)) ≡ i = omega arith in
      let there : (l : List A) → get_or (drop (at + length from) l) (i - (at + length from)) d ≡ get_or l i d = λ l. get_or-drop (at + length from) l (i - (at + length from)) d ∙ ap (λ k. get_or l k d) e in
      sym (there (written old at from)) ∙ ap (λ l. get_or l (i - (at + length from)) d) behind_written ∙ there old

  pub within_written : (i : ℕ) (d : A) → at ≤ i → i < at + length from → get_or (written old at from) i d ≡ get_or from (i - at) d
  within_written i d low high = search (rules, places)

-- ---- an image before, for an image now: what was fast stands, and what was loose is as it is now

abbrev settle : List ℕ → List Bool → List ℕ → ℕ → List ℕ
settle bytes loose image n = map (λ i. cond (is_loose loose i) (get_or image i 0) (get_or bytes i 0)) (range_with_len 0 n)

length-settle : (bytes : List ℕ) (loose : List Bool) (image : List ℕ) (n : ℕ) → length (settle bytes loose image n) ≡ n
length-settle bytes loose image n = length-map-range_with_len (λ i. cond (is_loose loose i) (get_or image i 0) (get_or bytes i 0)) 0 n

settle_at : (bytes : List ℕ) (loose : List Bool) (image : List ℕ) (n i : ℕ) → i < n → get_or (settle bytes loose image n) i 0 ≡ cond (is_loose loose i) (get_or image i 0) (get_or bytes i 0)
settle_at bytes loose image n i h = get_or-map-range_with_len (λ i. cond (is_loose loose i) (get_or image i 0) (get_or bytes i 0)) 0 n i i 0 h (omega arith)

settle_fast : (b : Bool) (x y : ℕ) → b ≡ false → cond b x y ≡ y
settle_fast b x y e = rw e refl

settle_is : (b : Bool) (x y : ℕ) → (b ≡ false → x ≡ y) → x ≡ cond b x y
settle_is true x y h = refl
settle_is false x y h = h refl

-- where what is fast is as it reads, settling changes nothing
settle_same : (bytes : List ℕ) (loose : List Bool) (image : List ℕ) (n i : ℕ) → i < n → (is_loose loose i ≡ false → get_or image i 0 ≡ get_or bytes i 0) → get_or image i 0 ≡ get_or (settle bytes loose image n) i 0
settle_same bytes loose image n i h kept = settle_is (is_loose loose i) (get_or image i 0) (get_or bytes i 0) kept ∙ sym (settle_at bytes loose image n i h)

settled : (bytes : List ℕ) (loose : List Bool) (least : ℕ) (image : List ℕ) (n : ℕ) → least ≤ n → n ≤ length loose → IsImage bytes loose least (settle bytes loose image n)
settled bytes loose least image n low high = record {
  no_shorter = omega (arith, low, length-settle bytes loose image n);
  no_longer = omega (arith, high, length-settle bytes loose image n);
  kept = λ i h fast. settle_at bytes loose image n i (omega (arith, h, length-settle bytes loose image n)) ∙ settle_fast (is_loose loose i) (get_or image i 0) (get_or bytes i 0) fast;
}

-- the fronts are one, and so are the ends
same_front : (xs ys : List ℕ) (n : ℕ) → min n (length xs) ≡ min n (length ys) → ((i : ℕ) → i < n → i < length xs → get_or xs i 0 ≡ get_or ys i 0) → take n xs ≡ take n ys
same_front xs ys n long same = ext_get_or 0 (take n xs) (take n ys) (length-take n xs ∙ long ∙ sym (length-take n ys))
    (λ i h. let short : i < n = omega (arith, h, length-take n xs) in
    let within : i < length xs = omega (arith, h, length-take n xs) in
    get_or-take n xs i 0 short ∙ same i short within ∙ sym (get_or-take n ys i 0 short))

same_end : (xs ys : List ℕ) (n : ℕ) → length xs - n ≡ length ys - n → ((i : ℕ) → n ≤ i → i < length xs → get_or xs i 0 ≡ get_or ys i 0) → drop n xs ≡ drop n ys
same_end xs ys n long same = ext_get_or 0 (drop n xs) (drop n ys) (length-drop n xs ∙ long ∙ sym (length-drop n ys))
    (λ i h. let within : n + i < length xs = omega (arith, h, length-drop n xs) in
    get_or-drop n xs i 0 ∙ same (n + i) (omega arith) within ∙ sym (get_or-drop n ys i 0))

-- ---- a write

module _ (bytes from : List ℕ) (loose loose' : List Bool) (at least : ℕ) (start : at ≤ length bytes) (reads : IsImage bytes loose least bytes)
    (long : length loose' ≡ max (length loose) (at + length from))
    (below : (i : ℕ) → i < at → is_loose loose' i ≡ is_loose loose i) (above : (i : ℕ) → at + length from ≤ i → is_loose loose' i ≡ is_loose loose i) where
  write_torn : (image : List ℕ) → IsImage (written bytes at from) loose' least image → (before : List ℕ) × IsImage bytes loose least before × Torn at (length from) before image
  write_torn image is =
      let n : ℕ = min (length image) (length loose) in
      let within : least ≤ n = omega (arith, reads.no_shorter, reads.no_longer, is.no_shorter) in
      let size : length (settle bytes loose image n) ≡ n = length-settle bytes loose image n in
      let no_longer : length image ≤ max (length loose) (at + length from) = omega (arith, is.no_longer, long) in (
        settle bytes loose image n,
        settled bytes loose least image n within (omega arith),
        record {
          before = same_front image (settle bytes loose image n) at (omega (arith, size, reads.no_longer, start))
              (λ i low high. settle_same bytes loose image n i (omega (arith, low, high, reads.no_longer, start)) (λ fast. is.kept i high (below i low ∙ fast) ∙ below_written bytes from at start i 0 low));
          after = same_end image (settle bytes loose image n) (at + length from) (omega (arith, size, no_longer))
              (λ i low high. settle_same bytes loose image n i (omega (arith, low, high, no_longer)) (λ fast. is.kept i high (above i low ∙ fast) ∙ above_written bytes from at start i 0 low));
          no_shorter = omega (arith, size);
          no_longer = omega (arith, size, no_longer);
        },
      )

-- ---- a cut

module _ (bytes : List ℕ) (loose loose' : List Bool) (to least : ℕ) (end : to ≤ length bytes) (reads : IsImage bytes loose least bytes)
    (long : length loose' ≡ length loose) (below : (i : ℕ) → i < to → is_loose loose' i ≡ is_loose loose i) where
  cut_torn : (image : List ℕ) → IsImage (take to bytes) loose' (min least to) image → (before : List ℕ) × IsImage bytes loose least before × Cut to before image
  cut_torn image is =
      let n : ℕ = max (length image) least in
      let size : length (settle bytes loose image n) ≡ n = length-settle bytes loose image n in
      let longer : min least to ≤ length image = is.no_shorter in
      let shorter : length image ≤ length loose = omega (arith, is.no_longer, long) in (
        settle bytes loose image n,
        settled bytes loose least image n (omega arith) (omega (arith, shorter, reads.no_shorter, reads.no_longer)),
        record {
          before = same_front image (settle bytes loose image n) to (omega (arith, size, longer))
              (λ i low high. settle_same bytes loose image n i (omega arith) (λ fast. is.kept i high (below i low ∙ fast) ∙ get_or-take to bytes i 0 low));
          no_shorter = omega (arith, size, longer);
          no_longer = omega (arith, size);
        },
      )

-- ---- what is kept

place : (i at k : ℕ) → ((i < at) ⊎ (at + k ≤ i)) ⊎ ((at ≤ i) × (i < at + k))
place i at k = elim (cases_lt i at) [ inl low ↦ inl (inl low) | inr high ↦ elim (cases_lt i (at + k)) [ inl within ↦ inr (high, within) | inr behind ↦ inl (inr behind) ] ]

pub first_is : (at : ℕ) (from : List ℕ) (n : ℕ) → is_first_byte at from n ≡ true → (at ≡ 0) × (from ≡ 0 ∷ []) × (n ≤ 1)
first_is at [] n e = cc
first_is at (byte ∷ []) n e =
    let zero_byte : byte ≡ 0 = grind (arith, nat_tests) in
    let zero_at : at ≡ 0 = grind (arith, nat_tests) in
    let few : n ≤ 1 = grind (arith, nat_tests) in
    (zero_at, ap (λ (b : ℕ). b ∷ []) zero_byte, few)
first_is at (byte ∷ other ∷ bytes) n e = cc

is_not : (b : Bool) → not b ≡ false → b ≡ true
is_not true e = refl
is_not false e = absurd cc

-- a place that a write has touched is loose, unless it was a first byte
touched : (old : List Bool) (at k i : ℕ) (first : Bool) → at ≤ length old → at ≤ i → i < at + k → is_loose (written old at (replicate k (not first))) i ≡ not first
touched old at k i first start low high =
    within_written old (replicate k (not first)) at start i true low (omega (arith, high, length-replicate k (not first))) ∙ get_or-replicate k (i - at) (not first) true (omega arith)

module _ (h h' : Held) (at : ℕ) (from : List ℕ) (held : IsHeld h) (start : at ≤ length h.bytes.items) (w : Wrote at from h h') where
  abbrev first : Bool
  first = is_first_byte at from (length h.loose.items)

  marks : List Bool
  marks = replicate (length from) (not first)

  starts : at ≤ length h.loose.items
  starts = omega (arith, start, held.reads.no_longer)

  long : length h'.loose.items ≡ max (length h.loose.items) (at + length from)
  long = ap length w.loose ∙ length-written h.loose.items (replicate (length from) (not first)) at starts ∙ ap (λ (k : ℕ). max (length h.loose.items) (at + k)) (length-replicate (length from) (not first))

  long_bytes : length h'.bytes.items ≡ max (length h.bytes.items) (at + length from)
  long_bytes = ap length w.bytes ∙ length-written h.bytes.items from at start

  below : (i : ℕ) → i < at → is_loose h'.loose.items i ≡ is_loose h.loose.items i
  below i low = ap (λ (l : List Bool). is_loose l i) w.loose ∙ below_written h.loose.items (replicate (length from) (not first)) at starts i true low

  above : (i : ℕ) → at + length from ≤ i → is_loose h'.loose.items i ≡ is_loose h.loose.items i
  above i low = ap (λ (l : List Bool). is_loose l i) w.loose ∙ above_written h.loose.items (replicate (length from) (not first)) at starts i true (omega (arith, low, length-replicate (length from) (not first)))

  pub write_follows : Follows (Torn at (length from)) (Leaves h) (Leaves h')
  write_follows image (inl is) = (h.bytes.items, inl refl, subst (Torn at (length from) h.bytes.items) (sym (is ∙ w.bytes)) done)
    where
      done : Torn at (length from) h.bytes.items (written h.bytes.items at from)
      done = record {
        before = before_written h.bytes.items from at start;
        after = behind_written h.bytes.items from at start;
        no_shorter = omega (arith, length-written h.bytes.items from at start);
        no_longer = omega (arith, length-written h.bytes.items from at start);
      }
  write_follows image (inr is) =
      let torn = write_torn h.bytes.items from h.loose.items h'.loose.items at h.least start held.reads long below above image
      (record { no_shorter = subst (λ (n : ℕ). n ≤ length image) w.least is.no_shorter; no_longer = is.no_longer; kept = λ i within fast. is.kept i within fast ∙ ap (λ (l : List ℕ). get_or l i 0) w.bytes }) in
      (torn.0, inr torn.1, torn.2)

  -- the byte that is written is a first one
  case_first : (b : Bool) (i : ℕ) → b ≡ first → at ≤ i → i < at + length from → is_loose h'.loose.items i ≡ false → b ≡ true
  case_first b i e low high fast = e ∙ is_not first (sym (touched h.loose.items at (length from) i first starts low high) ∙ sym (ap (λ (l : List Bool). is_loose l i) w.loose) ∙ fast)

  -- an image of which no loose byte has come
  old_kept : (b : Bool) → b ≡ first → (i : ℕ) → i < length h.synced.items → is_loose h'.loose.items i ≡ false → get_or (cond b (replicate (length h.synced.items) 0) h.synced.items) i 0 ≡ get_or h'.bytes.items i 0
  old_kept false e i within fast = elim (place i at (length from)) [
    | inl (inl low) ↦ held.had.kept i within (sym (below i low) ∙ fast) ∙ sym (ap (λ (l : List ℕ). get_or l i 0) w.bytes ∙ below_written h.bytes.items from at start i 0 low)
    | inl (inr high) ↦ held.had.kept i within (sym (above i high) ∙ fast) ∙ sym (ap (λ (l : List ℕ). get_or l i 0) w.bytes ∙ above_written h.bytes.items from at start i 0 high)
    | inr inside ↦ absurd (let no : false ≡ true = case_first false i e inside.0 inside.1 fast in cc)
  ]
  old_kept true e i within fast =
      let is = first_is at from (length h.loose.items) (sym e) in
      let zero_i : i ≡ 0 = omega (arith, within, held.had.no_longer, is.2) in
      let none : i - at ≡ 0 = omega (arith, zero_i) in
      get_or-replicate (length h.synced.items) i 0 0 within
      ∙ sym (ap (λ (l : List ℕ). get_or l i 0) w.bytes ∙ within_written h.bytes.items from at start i 0 (omega (arith, is.0, zero_i)) (omega (arith, is.0, zero_i, ap length is.1))
      ∙ ap (λ (l : List ℕ). get_or l (i - at) 0) is.1 ∙ ap (λ (k : ℕ). get_or (0 ∷ []) k 0) none)

  length_old : (b : Bool) → length (cond b (replicate (length h.synced.items) 0) h.synced.items) ≡ length h.synced.items
  length_old false = refl
  length_old true = length-replicate (length h.synced.items) 0

  pub write_held : IsHeld h'
  write_held =
      let size : length h'.synced.items ≡ length h.synced.items = ap length w.synced ∙ length_old first in
      record {
        reads = record {
          no_shorter = omega (arith, w.least, held.reads.no_shorter, long_bytes);
          no_longer = omega (arith, held.reads.no_longer, long, long_bytes);
          kept = λ i within fast. refl;
        };
        had = record {
          no_shorter = omega (arith, w.least, held.had.no_shorter, size);
          no_longer = omega (arith, held.had.no_longer, long, size);
          kept = λ i within fast. ap (λ (l : List ℕ). get_or l i 0) w.synced ∙ old_kept first refl i (omega (arith, within, size)) fast;
        };
        clean = λ i low. below i (omega (arith, low, w.clean)) ∙ held.clean i (omega (arith, low, w.clean));
        firm = omega (arith, w.clean, w.least, held.firm);
      }

noise_long : (bytes : List ℕ) (loose : List Bool) → length (noise bytes loose) ≡ length loose
noise_long bytes loose = length-map-range_with_len (λ i. cond (is_loose loose i) 255 (get_or bytes i 0)) 0 (length loose)

pub noise_image : (bytes : List ℕ) (loose : List Bool) (least : ℕ) → least ≤ length loose → IsImage bytes loose least (noise bytes loose)
noise_image bytes loose least le = record {
  no_shorter = omega (arith, le, noise_long bytes loose);
  no_longer = omega (arith, noise_long bytes loose);
  kept = λ i within fast. get_or-map-range_with_len (λ i. cond (is_loose loose i) 255 (get_or bytes i 0)) 0 (length loose) i i 0 (omega (arith, within, noise_long bytes loose)) (omega arith)
      ∙ settle_fast (is_loose loose i) 255 (get_or bytes i 0) fast;
}

first_holds : (n : ℕ) → n ≤ 1 → is_first_byte 0 (0 ∷ []) n ≡ true
first_holds n le = grind (arith, nat_tests)

one_byte : (image : List ℕ) → length image ≤ 1 → (0 < length image → get_or image 0 0 ≡ 0) → IsFirstByte image
one_byte [] le is = inl refl
one_byte (b ∷ []) le is = inr (ap (λ (x : ℕ). x ∷ []) (is (omega arith)))
one_byte (b ∷ c ∷ image) le is = absurd (omega arith)

-- the first byte over a disk of at most one
module _ (h h' : Held) (held : IsHeld h) (w : Wrote 0 (0 ∷ []) h h') (few : (image : List ℕ) → Leaves h image → length image ≤ 1) where
  short : length h.loose.items ≤ 1
  short = omega (arith, few (noise h.bytes.items h.loose.items) (inr (noise_image h.bytes.items h.loose.items h.least (omega (arith, held.reads.no_shorter, held.reads.no_longer)))), noise_long h.bytes.items h.loose.items)

  now_bytes : h'.bytes.items ≡ 0 ∷ []
  now_bytes = w.bytes ∙ ap (λ (l : List ℕ). 0 ∷ l) (drop_all 1 h.bytes.items (omega (arith, short, held.reads.no_longer)))

  now_loose : h'.loose.items ≡ false ∷ []
  now_loose = w.loose ∙ ap (λ (b : Bool). written h.loose.items 0 (replicate 1 (not b))) (first_holds (length h.loose.items) short) ∙ ap (λ (l : List Bool). false ∷ l) (drop_all 1 h.loose.items short)

  pub write_first : (image : List ℕ) → Leaves h' image → IsFirstByte image
  write_first image (inl is) = inr (is ∙ now_bytes)
  write_first image (inr is) = one_byte image (omega (arith, is.no_longer, ap length now_loose)) (λ some. is.kept 0 some (ap (λ (l : List Bool). is_loose l 0) now_loose) ∙ ap (λ (l : List ℕ). get_or l 0 0) now_bytes)

module _ (h h' : Held) (to : ℕ) (held : IsHeld h) (end : to ≤ length h.bytes.items) (s : Shortened to h h') where
  cut_starts : to ≤ length h.loose.items
  cut_starts = omega (arith, end, held.reads.no_longer)

  cut_long : length h'.loose.items ≡ length h.loose.items
  cut_long = ap length s.loose ∙ length-written h.loose.items (replicate (length h.loose.items - to) true) to cut_starts ∙ omega (arith, cut_starts, length-replicate (length h.loose.items - to) true)

  cut_below : (i : ℕ) → i < to → is_loose h'.loose.items i ≡ is_loose h.loose.items i
  cut_below i low = ap (λ (l : List Bool). is_loose l i) s.loose ∙ below_written h.loose.items (replicate (length h.loose.items - to) true) to cut_starts i true low

  cut_long_bytes : length h'.bytes.items ≡ to
  cut_long_bytes = ap length s.bytes ∙ length-take to h.bytes.items ∙ omega (arith, end)

  -- what is fast lies before the cut
  before_cut : (i : ℕ) → is_loose h'.loose.items i ≡ false → i < to
  before_cut i fast = elim (cases_lt i to) [
    | inl low ↦ low
    | inr high ↦ elim (cases_lt i (length h.loose.items)) [
      | inl within ↦ absurd (let marked : is_loose h'.loose.items i ≡ true = ap (λ (l : List Bool). is_loose l i) s.loose ∙ within_written h.loose.items (replicate (length h.loose.items - to) true) to cut_starts i true high (omega (arith, within, cut_starts, length-replicate (length h.loose.items - to) true)) ∙ get_or-replicate (length h.loose.items - to) (i - to) true true (omega arith) in cc)
      | inr past ↦ absurd (let marked : is_loose h'.loose.items i ≡ true = get_or_past h'.loose.items i true (omega (arith, past, cut_long)) in cc)
    ]
  ]

  pub cut_follows : Follows (Cut to) (Leaves h) (Leaves h')
  cut_follows image (inl is) = (
    h.bytes.items,
    inl refl,
    subst (Cut to h.bytes.items) (sym (is ∙ s.bytes)) (record {
      before = take_all to (take to h.bytes.items) (omega (arith, length-take to h.bytes.items));
      no_shorter = omega (arith, length-take to h.bytes.items);
      no_longer = omega (arith, length-take to h.bytes.items);
    }),
  )
  cut_follows image (inr is) =
      let torn = cut_torn h.bytes.items h.loose.items h'.loose.items to h.least end held.reads cut_long cut_below image
      (record { no_shorter = subst (λ (n : ℕ). n ≤ length image) s.least is.no_shorter; no_longer = is.no_longer; kept = λ i within fast. is.kept i within fast ∙ ap (λ (l : List ℕ). get_or l i 0) s.bytes }) in
      (torn.0, inr torn.1, torn.2)

  pub cut_held : IsHeld h'
  cut_held = record {
    reads = record {
      no_shorter = omega (arith, s.least, cut_long_bytes);
      no_longer = omega (arith, cut_long, cut_long_bytes, cut_starts);
      kept = λ i within fast. refl;
    };
    had = record {
      no_shorter = omega (arith, s.least, held.had.no_shorter, ap length s.synced);
      no_longer = omega (arith, held.had.no_longer, cut_long, ap length s.synced);
      kept = λ i within fast. let low = before_cut i fast in ap (λ (l : List ℕ). get_or l i 0) s.synced ∙ held.had.kept i (omega (arith, within, ap length s.synced)) (sym (cut_below i low) ∙ fast) ∙ sym (ap (λ (l : List ℕ). get_or l i 0) s.bytes ∙ get_or-take to h.bytes.items i 0 low);
    };
    clean = λ i low. cut_below i (omega (arith, low, s.clean)) ∙ held.clean i (omega (arith, low, s.clean));
    firm = omega (arith, s.clean, s.least, held.firm);
  }

module _ (h h' : Held) (held : IsHeld h) (f : Fastened h h') where
  all_fast : (i : ℕ) → i < length h.bytes.items → is_loose h'.loose.items i ≡ false
  all_fast i low = ap (λ (l : List Bool). is_loose l i) f.loose ∙ get_or-replicate (length h.bytes.items) i false true low

  fast_long : length h'.loose.items ≡ length h.bytes.items
  fast_long = ap length f.loose ∙ length-replicate (length h.bytes.items) false

  -- one image is left
  pub sync_only : Only h.bytes.items (Leaves h')
  sync_only image (inl is) = is ∙ f.bytes
  sync_only image (inr is) = ext_get_or 0 image h.bytes.items (omega (arith, is.no_shorter, is.no_longer, fast_long, f.least))
      (λ i within. is.kept i within (all_fast i (omega (arith, within, is.no_longer, fast_long))) ∙ ap (λ (l : List ℕ). get_or l i 0) f.bytes)

  pub sync_less : (image : List ℕ) → Leaves h' image → Leaves h image
  sync_less image left = inl (sync_only image left)

  pub sync_held : IsHeld h'
  sync_held = record {
    reads = record {
      no_shorter = omega (arith, f.least, ap length f.bytes);
      no_longer = omega (arith, fast_long, ap length f.bytes);
      kept = λ i within fast. refl;
    };
    had = record {
      no_shorter = omega (arith, f.least, ap length f.synced);
      no_longer = omega (arith, fast_long, ap length f.synced);
      kept = λ i within fast. ap (λ (l : List ℕ). get_or l i 0) (f.synced ∙ sym f.bytes);
    };
    clean = λ i low. all_fast i (omega (arith, low, f.clean));
    firm = omega (arith, f.clean, f.least);
  }

-- ---- time

had_push : (past : List Held) (h : Held) (image : List ℕ) → HadLeft (past ++ h ∷ []) image → HadLeft past image ⊎ Leaves h image
had_push [] h image (inl now) = inr now
had_push [] h image (inr none) = absurd none
had_push (g ∷ past) h image (inl this) = inl (inl this)
had_push (g ∷ past) h image (inr rest) = elim (had_push past h image rest) [ inl had ↦ inl (inr had) | inr now ↦ inr now ]

had_pushed : (past : List Held) (h : Held) (image : List ℕ) → HadLeft past image ⊎ Leaves h image → HadLeft (past ++ h ∷ []) image
had_pushed [] h image (inl none) = absurd none
had_pushed [] h image (inr now) = inl now
had_pushed (g ∷ past) h image (inl (inl this)) = inl this
had_pushed (g ∷ past) h image (inl (inr rest)) = inr (had_pushed past h image (inl rest))
had_pushed (g ∷ past) h image (inr now) = inr (had_pushed past h image (inr now))

-- one call more, before which the disk was h
pub goes_on : (past : List Held) (h h' : Held) → Elapses (length past) (length (past ++ h ∷ [])) (LeftSince past h) (LeftSince (past ++ h ∷ []) h') (Leaves h')
goes_on past h h' = record {
  later = omega (arith, length-append past (h ∷ []));
  nothing_else = λ t image le left. since t image le left;
  keeps = λ t image le left. kept t image le left;
}
  where
    since : (t : ℕ) (image : List ℕ) → t ≤ length past → LeftSince (past ++ h ∷ []) h' t image → LeftSince past h t image ⊎ Leaves h' image
    since t image le (inl now) = inr now
    since t image le (inr had) = elim (had_push (drop t past) h image (subst (λ (l : List Held). HadLeft l image) (drop-append-le t past (h ∷ []) le) had)) [ inl before ↦ inl (inr before) | inr then_ ↦ inl (inl then_) ]

    kept : (t : ℕ) (image : List ℕ) → t ≤ length past → LeftSince past h t image → LeftSince (past ++ h ∷ []) h' t image
    kept t image le (inl now) = inr (subst (λ (l : List Held). HadLeft l image) (sym (drop-append-le t past (h ∷ []) le)) (had_pushed (drop t past) h image (inr now)))
    kept t image le (inr had) = inr (subst (λ (l : List Held). HadLeft l image) (sym (drop-append-le t past (h ∷ []) le)) (had_pushed (drop t past) h image (inl had)))

pub goes_on_to : (past later : List Held) (h h' : Held) → later ≡ past ++ h ∷ [] → Elapses (length past) (length later) (LeftSince past h) (LeftSince later h') (Leaves h')
goes_on_to past later h h' is = subst (λ (l : List Held). Elapses (length past) (length l) (LeftSince past h) (LeftSince l h') (Leaves h')) (sym is) (goes_on past h h')

-- more room, and all else the same
pub held_same : (h h' : Held) → h'.bytes.items ≡ h.bytes.items → h'.loose.items ≡ h.loose.items → h'.synced.items ≡ h.synced.items → h'.least ≡ h.least → h'.clean ≡ h.clean → IsHeld h → IsHeld h'
held_same h h' bytes loose synced least clean held = record {
  reads = rw (bytes, loose, least) held.reads;
  had = rw (bytes, loose, least, synced) held.had;
  clean = rw (clean, loose) held.clean;
  firm = rw (clean, least) held.firm;
}

-- each way gives an image
pub way_image : (way : Way) (h : Held) → IsHeld h → Leaves h (image_of way h)
way_image AsRead h held = inl refl
way_image Old h held = inr held.had
way_image Noise h held = inr (noise_image h.bytes.items h.loose.items h.least (omega (arith, held.reads.no_shorter, held.reads.no_longer)))
