-- Numbers and texts: what is read is spelled so, and what is spelled so is read.
use Rattle.std.proofs.Common.{◌≡◌, ℕ, ◌+◌, ◌^◌, ◌<◌, ◌≤◌, false, ltb, List, ◌++◌, length, take, drop, Ok, refl, sym, ap, subst, ◌∙◌, arith, inl, inr}
use Rattle.std.specs.Int.{Width, w32, w64, byte_len, from_be_bytes, to_be_bytes}
use Rattle.std.proofs.lemmas.Bool.{cases_lt, ltb-false, le-ltb}
use Rattle.std.proofs.lemmas.List.{take_at, drop_at, take-append-drop, length-append, length-take, get_or-drop, get_or-take, get_or_past}
use Rattle.std.proofs.lemmas.Nat.{be_bytes_4, be_bytes_8, from_be_bytes-to_be_bytes_4, from_be_bytes-to_be_bytes_8}
use Rattle.cw_bytes.specs.declared.fault.FieldFault.TheVariants.{Short}
use Rattle.cw_bytes.specs.Unread.{Unread, AreBytes, Takes, past}
use Rattle.cw_bytes.specs.Spelling.{word, long, text, IsText}
use Rattle.cw_bytes.specs.Reading.{◌>>=◌, number_at, cut_at, text_at}
use Rattle.cw_bytes.proofs.Steps.{bind_ok, guard_ok, ok_is, Passes, Passes-then, Takes-first, Takes-second, between, from_takes}

AreBytes-drop : (n : ℕ) (bytes : List ℕ) → AreBytes bytes → AreBytes (drop n bytes)
AreBytes-drop n bytes h i = rw get_or-drop (h (n + i))

AreBytes-take : (n : ℕ) (bytes : List ℕ) → AreBytes bytes → AreBytes (take n bytes)
AreBytes-take n bytes h i =
    elim (cases_lt i n) [
      | inl lt ↦ rw (get_or-take n bytes i 0 lt) (h i)
      | inr le ↦ rw (get_or_past (take n bytes) i 0 (omega (arith, length-take n bytes))) (omega arith)
    ]

-- the numbers of a width and their bytes
pub record IsWide (w : Width) (limit : ℕ) : Type 0 where
  pub len : (n : ℕ) → length (to_be_bytes w n) ≡ byte_len w
  pub back : (bytes : List ℕ) → length bytes ≡ byte_len w → AreBytes bytes → to_be_bytes w (from_be_bytes w bytes) ≡ bytes
  pub again : (n : ℕ) → n < limit → from_be_bytes w (to_be_bytes w n) ≡ n
  pub below : (bytes : List ℕ) → AreBytes bytes → from_be_bytes w bytes < limit

pub wide32 : IsWide w32 (2 ^ 32)
wide32 = record {
  len = λ n. refl;
  back = λ bytes len fits. be_bytes_4 bytes _ len fits refl;
  again = λ n lt. from_be_bytes-to_be_bytes_4 n lt;
  below = λ bytes fits. omega (arith, fits 0, fits 1, fits 2, fits 3);
}

pub wide64 : IsWide w64 (2 ^ 64)
wide64 = record {
  len = λ n. refl;
  back = λ bytes len fits. be_bytes_8 bytes _ len fits refl;
  again = λ n lt. from_be_bytes-to_be_bytes_8 n lt;
  below = λ bytes fits. omega (arith, fits 0, fits 1, fits 2, fits 3, fits 4, fits 5, fits 6, fits 7);
}

-- the next n bytes
front_takes : (n : ℕ) (from : Unread) → n ≤ length from.rest → AreBytes from.rest → Passes (take n from.rest) from (past n from)
front_takes n from some fits = record {
  takes = record { spelled = sym (take-append-drop n from.rest); place = omega (arith, length-take n from.rest) };
  left = AreBytes-drop n from.rest fits;
}

module _ (w : Width) (limit : ℕ) (wide : IsWide w limit) where
  pub number_takes : (from : Unread) (n : ℕ) (next : Unread) → AreBytes from.rest → number_at w from ≡ Ok (n, next) → Passes (to_be_bytes w n) from next × (n < limit)
  number_takes from n next fits e =
      let g = guard_ok (ltb (length from.rest) (byte_len w)) (Short from.place) (Ok (from_be_bytes w (take (byte_len w) from.rest), past (byte_len w) from)) (n, next) e in
      let some : byte_len w ≤ length from.rest = ltb-false _ _ g.0 in
      let front = AreBytes-take (byte_len w) from.rest fits in
      let back = wide.back (take (byte_len w) from.rest) (omega (arith, length-take (byte_len w) from.rest)) front in
      let read : ℕ × Unread = (from_be_bytes w (take (byte_len w) from.rest), past (byte_len w) from) in
      subst (λ (y : ℕ × Unread). Passes (to_be_bytes w y.0) from y.1 × (y.0 < limit)) (ok_is read (n, next) g.1)
      (subst (λ (f : List ℕ). Passes f from (past (byte_len w) from)) (sym back) (front_takes (byte_len w) from some fits), wide.below (take (byte_len w) from.rest) front)

  pub number_again : (n : ℕ) → n < limit → (from next : Unread) → Takes (to_be_bytes w n) from next → number_at w from ≡ Ok (n, next)
  number_again n lt = from_takes (number_at w) (to_be_bytes w n) n (λ place rest.
      let len = wide.len n in
      let some : ltb (length (to_be_bytes w n ++ rest)) (byte_len w) ≡ false = le-ltb _ _ (omega (arith, length-append (to_be_bytes w n) rest)) in
      rw (some, take_at (to_be_bytes w n) rest (byte_len w) len, drop_at (to_be_bytes w n) rest (byte_len w) len, wide.again n lt, len) refl)

pub word_takes : (from : Unread) (n : ℕ) (next : Unread) → AreBytes from.rest → number_at w32 from ≡ Ok (n, next) → Passes (word n) from next × (n < 2 ^ 32)
unfolding word
word_takes = number_takes w32 (2 ^ 32) wide32

pub word_again : (n : ℕ) → n < 2 ^ 32 → (from next : Unread) → Takes (word n) from next → number_at w32 from ≡ Ok (n, next)
unfolding word
word_again = number_again w32 (2 ^ 32) wide32

pub long_takes : (from : Unread) (n : ℕ) (next : Unread) → AreBytes from.rest → number_at w64 from ≡ Ok (n, next) → Passes (long n) from next × (n < 2 ^ 64)
unfolding long
long_takes = number_takes w64 (2 ^ 64) wide64

pub long_again : (n : ℕ) → n < 2 ^ 64 → (from next : Unread) → Takes (long n) from next → number_at w64 from ≡ Ok (n, next)
unfolding long
long_again = number_again w64 (2 ^ 64) wide64

-- ---- texts

cut_takes : (place n : ℕ) (from : Unread) (t : List ℕ) (next : Unread) → AreBytes from.rest → cut_at place n from ≡ Ok (t, next) → Passes t from next × (length t ≡ n)
cut_takes place n from t next fits e =
    let g = guard_ok (ltb (length from.rest) n) (Short place) (Ok (take n from.rest, past n from)) (t, next) e in
    let some : n ≤ length from.rest = ltb-false _ _ g.0 in
    let read : List ℕ × Unread = (take n from.rest, past n from) in
    subst (λ (y : List ℕ × Unread). Passes y.0 from y.1 × (length y.0 ≡ n)) (ok_is read (t, next) g.1) (front_takes n from some fits, omega (arith, length-take n from.rest))

cut_again : (place : ℕ) (t : List ℕ) (from next : Unread) → Takes t from next → cut_at place (length t) from ≡ Ok (t, next)
cut_again place t = from_takes (cut_at place (length t)) t t (λ at rest.
    let some : ltb (length (t ++ rest)) (length t) ≡ false = le-ltb _ _ (omega (arith, length-append t rest)) in
    rw (some, take_at t rest (length t) refl, drop_at t rest (length t) refl) refl)

pub text_takes : (from : Unread) (t : List ℕ) (next : Unread) → AreBytes from.rest → text_at from ≡ Ok (t, next) → Passes (text t) from next × IsText t
unfolding text_at text
text_takes from t next fits e =
    let b = bind_ok (number_at w32 from) (λ n. cut_at from.place n.0 n.1) (t, next) e in
    let n = word_takes from b.0.0 b.0.1 fits b.1 in
    let c = cut_takes from.place b.0.0 b.0.1 t next n.0.left b.2 in
    (Passes-then (word (length t)) t from b.0.1 next (subst (λ (k : ℕ). Passes (word k) from b.0.1) (sym c.1) n.0) c.0, omega (arith, n.1, c.1))

pub text_again : (t : List ℕ) → IsText t → (from next : Unread) → Takes (text t) from next → text_at from ≡ Ok (t, next)
unfolding text_at text
text_again t short from next takes =
    ap (λ r. r >>= λ (n : ℕ × Unread). cut_at from.place n.0 n.1) (word_again (length t) short from (between (word (length t)) t from next) (Takes-first (word (length t)) t from next takes))
    ∙ cut_again from.place t (between (word (length t)) t from next) next (Takes-second (word (length t)) t from next takes)
