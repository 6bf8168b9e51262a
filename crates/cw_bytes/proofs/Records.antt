-- Lists of records: what is read is spelled so, and what is spelled so is read.
use Rattle.std.proofs.Common.{◌≡◌, ℕ, ◌≤◌, Bool, true, false, cond, eqb, List, [], ◌∷◌, ◌++◌, length, Option, Some, None, Ok, Err, sym, ap, subst, ◌∙◌, arith, ⊎_elim}
use Rattle.std.specs.Int.{w32, w64}
use Rattle.std.specs.List.{flat_map}
use Rattle.std.proofs.lemmas.Bool.{eqb-true}
use Rattle.std.proofs.lemmas.Bool.Decides.{nat_tests}
use Rattle.cw_bytes.specs.declared.applied.Applied.{Applied}
use Rattle.cw_bytes.specs.declared.fault.FieldFault.TheVariants.{BadKind}
use Rattle.cw_bytes.specs.Unread.{Unread, AreBytes, Takes}
use Rattle.cw_bytes.specs.Spelling.{word, long, text, value_bytes, record_bytes, records_bytes, IsValue, IsRecord, AreRecords}
use Rattle.cw_bytes.specs.Reading.{◌>>=◌, Read, byte_at, number_at, text_at, some_text_at, value_at, record_at, many_at, records_at}
use Rattle.cw_bytes.proofs.Steps.{bind_ok, chosen, guard_ok, done, ok_is, no_value, Passes, Passes-then, byte_takes, byte_again, kind_again, between, Takes-first, Takes-second}
use Rattle.cw_bytes.proofs.Widths.{word_takes, word_again, long_takes, long_again, text_takes, text_again}
use Rattle.cw_bytes.proofs.Many.{many_takes, many_again}

some_takes : (kind from : Unread) (value : Option (List ℕ)) (next : Unread) → Passes (1 ∷ []) kind from → some_text_at from ≡ Ok (value, next) → Passes (value_bytes value) kind next × IsValue value
unfolding some_text_at
some_takes kind from value next behind e =
    let b = bind_ok (text_at from) (λ t. done (Some t.0, t.1)) (value, next) e in
    let t = text_takes from b.0.0 b.0.1 behind.left b.1 in
    subst (λ (y : Option (List ℕ) × Unread). Passes (value_bytes y.0) kind y.1 × IsValue y.0) (ok_is (Some b.0.0, b.0.1) (value, next) b.2) (Passes-then (1 ∷ []) (text b.0.0) kind from b.0.1 behind t.0, t.1)

abbrev value_of_kind : ℕ × Unread → Read (Option (List ℕ))
value_of_kind kind = cond (eqb kind.0 0) (Ok (None, kind.1)) (cond (eqb kind.0 1) (some_text_at kind.1) (Err (BadKind kind.0)))

value_takes : (from : Unread) (value : Option (List ℕ)) (next : Unread) → AreBytes from.rest → value_at from ≡ Ok (value, next) → Passes (value_bytes value) from next × IsValue value
unfolding value_at
value_takes from value next fits e =
    let b = bind_ok (byte_at from) value_of_kind (value, next) e in
    let kind = byte_takes from b.0.0 b.0.1 fits b.1 in
    let is : (k : ℕ) → eqb b.0.0 k ≡ true → Passes (k ∷ []) from b.0.1 = λ k same. subst (λ (x : ℕ). Passes (x ∷ []) from b.0.1) (eqb-true b.0.0 k same) kind in
    ⊎_elim
    (λ none. subst (λ (y : Option (List ℕ) × Unread). Passes (value_bytes y.0) from y.1 × IsValue y.0) (ok_is (None, b.0.1) (value, next) none.1) (is 0 none.0, tt))
    (λ other. ⊎_elim
    (λ some. some_takes from b.0.1 value next (is 1 some.0) some.1)
    (λ bad. absurd (no_value (BadKind b.0.0) (value, next) bad.1))
    (chosen (eqb b.0.0 1) (some_text_at b.0.1) (Err (BadKind b.0.0)) (done (value, next)) other.1))
    (chosen (eqb b.0.0 0) (Ok (None, b.0.1)) (cond (eqb b.0.0 1) (some_text_at b.0.1) (Err (BadKind b.0.0))) (done (value, next)) b.2)

value_again : (value : Option (List ℕ)) → IsValue value → (from next : Unread) → Takes (value_bytes value) from next → value_at from ≡ Ok (value, next)
unfolding value_at some_text_at
value_again None is from next takes = ap (λ r. r >>= value_of_kind) (byte_again 0 from next takes)
value_again (Some v) is from next takes = kind_again 1 (text v) value_of_kind (Some v, next) from next takes
    (λ mid there. ap (λ r. r >>= λ (t : List ℕ × Unread). done (Some t.0, t.1)) (text_again v is mid next there))

-- the last three, two and one steps of a record
abbrev made : ℕ → ℕ → List ℕ → Option (List ℕ) × Unread → Read Applied
made offset stamp key value = Ok (record { offset = offset; stamp = stamp; key = key; value = value.0 }, value.1)

abbrev behind_stamp : ℕ → ℕ → List ℕ × Unread → Read Applied
behind_stamp offset stamp key = value_at key.1 >>= made offset stamp key.0

abbrev behind_offset : ℕ → ℕ × Unread → Read Applied
behind_offset offset stamp = text_at stamp.1 >>= behind_stamp offset stamp.0

abbrev behind_all : ℕ × Unread → Read Applied
behind_all offset = number_at w64 offset.1 >>= behind_offset offset.0

pub record_takes : (from : Unread) (r : Applied) (next : Unread) → AreBytes from.rest → record_at from ≡ Ok (r, next) → Passes (record_bytes r) from next × IsRecord r
unfolding record_at
record_takes from r next fits e =
    let a = bind_ok (number_at w64 from) behind_all (r, next) e in
    let b = bind_ok (number_at w64 a.0.1) (behind_offset a.0.0) (r, next) a.2 in
    let c = bind_ok (text_at b.0.1) (behind_stamp a.0.0 b.0.0) (r, next) b.2 in
    let d = bind_ok (value_at c.0.1) (made a.0.0 b.0.0 c.0.0) (r, next) c.2 in
    let o = long_takes from a.0.0 a.0.1 fits a.1 in
    let s = long_takes a.0.1 b.0.0 b.0.1 o.0.left b.1 in
    let k = text_takes b.0.1 c.0.0 c.0.1 s.0.left c.1 in
    let v = value_takes c.0.1 d.0.0 d.0.1 k.0.left d.1 in
    let kv = Passes-then (text c.0.0) (value_bytes d.0.0) b.0.1 c.0.1 d.0.1 k.0 v.0 in
    let skv = Passes-then (long b.0.0) (text c.0.0 ++ value_bytes d.0.0) a.0.1 b.0.1 d.0.1 s.0 kv in
    let all = Passes-then (long a.0.0) (long b.0.0 ++ (text c.0.0 ++ value_bytes d.0.0)) from a.0.1 d.0.1 o.0 skv in
    let read : Applied × Unread = (record { offset = a.0.0; stamp = b.0.0; key = c.0.0; value = d.0.0 }, d.0.1) in
    subst (λ (y : Applied × Unread). Passes (record_bytes y.0) from y.1 × IsRecord y.0) (ok_is read (r, next) d.2) (all, (o.1, s.1, k.1, v.1))

pub record_again : (r : Applied) → IsRecord r → (from next : Unread) → Takes (record_bytes r) from next → record_at from ≡ Ok (r, next)
unfolding record_at
record_again r is from next t =
    let kv = text r.key ++ value_bytes r.value in
    let skv = long r.stamp ++ kv in
    let m1 = between (long r.offset) skv from next in
    let t1 = Takes-second (long r.offset) skv from next t in
    let m2 = between (long r.stamp) kv m1 next in
    let t2 = Takes-second (long r.stamp) kv m1 next t1 in
    let m3 = between (text r.key) (value_bytes r.value) m2 next in
    let t3 = Takes-second (text r.key) (value_bytes r.value) m2 next t2 in
    ap (λ x. x >>= behind_all) (long_again r.offset is.0 from m1 (Takes-first (long r.offset) skv from next t))
    ∙ ap (λ x. x >>= behind_offset r.offset) (long_again r.stamp is.1 m1 m2 (Takes-first (long r.stamp) kv m1 next t1))
    ∙ ap (λ x. x >>= behind_stamp r.offset r.stamp) (text_again r.key is.2 m2 m3 (Takes-first (text r.key) (value_bytes r.value) m2 next t2))
    ∙ ap (λ x. x >>= made r.offset r.stamp r.key) (value_again r.value is.3 m3 next t3)

abbrev counted : ℕ × Unread → Read (List Applied)
counted n = cond (eqb n.0 0) (Err (BadKind 0)) (many_at record_at n.0 n.1)

not_zero : (n : ℕ) → eqb n 0 ≡ false → 1 ≤ n
not_zero n e = grind (arith, nat_tests)

is_not_zero : (n : ℕ) → 1 ≤ n → eqb n 0 ≡ false
is_not_zero n e = grind (arith, nat_tests)

pub records_takes : (from : Unread) (records : List Applied) (next : Unread) → AreBytes from.rest → records_at from ≡ Ok (records, next) → Passes (records_bytes records) from next × AreRecords records
unfolding records_at
records_takes from records next fits e =
    let b = bind_ok (number_at w32 from) counted (records, next) e in
    let g = guard_ok (eqb b.0.0 0) (BadKind 0) (many_at record_at b.0.0 b.0.1) (records, next) b.2 in
    let n = word_takes from b.0.0 b.0.1 fits b.1 in
    let m = many_takes record_at record_bytes IsRecord record_takes record_again b.0.0 b.0.1 records next n.0.left g.1 in
    let all = Passes-then (word b.0.0) (flat_map record_bytes records) from b.0.1 next n.0 m.passes in (
      subst (λ (k : ℕ). Passes (word k ++ flat_map record_bytes records) from next) (sym m.count) all,
      record { some = omega (arith, not_zero b.0.0 g.0, m.count); few = omega (arith, n.1, m.count); each = m.each },
    )

pub records_again : (records : List Applied) → AreRecords records → (from next : Unread) → Takes (records_bytes records) from next → records_at from ≡ Ok (records, next)
unfolding records_at
records_again records are from next t =
    let mid = between (word (length records)) (flat_map record_bytes records) from next in
    ap (λ x. x >>= counted) (word_again (length records) are.few from mid (Takes-first (word (length records)) (flat_map record_bytes records) from next t))
    ∙ ap (λ (b : Bool). cond b (Err (BadKind 0)) (many_at record_at (length records) mid)) (is_not_zero (length records) are.some)
    ∙ many_again record_at record_bytes IsRecord record_takes record_again records are.each mid next (Takes-second (word (length records)) (flat_map record_bytes records) from next t)
