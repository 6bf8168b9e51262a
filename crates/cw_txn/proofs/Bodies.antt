-- Bodies of the transaction log: what is read is spelled so, and what is spelled so is read.
use Rattle.std.proofs.Common.{◌≡◌, ℕ, ◌^◌, ◌<◌, ◌≤◌, Bool, true, false, cond, eqb, List, [], ◌∷◌, ◌++◌, length, Option, Some, None, Result, Ok, Err, refl, sym, ap, subst, ◌∙◌, arith, ⊎_elim}
use Rattle.std.specs.Int.{w32, w64}
use Rattle.std.specs.List.{flat_map}
use Rattle.std.proofs.lemmas.Bool.{eqb-true}
use Rattle.std.proofs.lemmas.Bool.Decides.{nat_tests}
use Rattle.std.proofs.lemmas.List.{append-nil, nil_from_length}
use Rattle.cw_types.specs.declared.ids.Tid.{Tid}
use Rattle.cw_types.specs.declared.ids.Tag.{Tag}
use Rattle.cw_types.specs.declared.ids.PartKey.{PartKey}
use Rattle.cw_types.specs.declared.ids.Span.{Span}
use Rattle.cw_bytes.specs.declared.fault.FieldFault.TheVariants.{BadKind}
use Rattle.cw_bytes.specs.Unread.{Unread, AreBytes, Takes}
use Rattle.cw_bytes.specs.Spelling.{word, long, tid_bytes, tag_bytes, part_bytes, span_bytes, IsTid, IsTag, IsPart, IsSpan}
use Rattle.cw_bytes.specs.Reading.{◌>>=◌, Read, byte_at, number_at, tid_at, tag_at, part_at, span_at, many_at}
use Rattle.cw_bytes.proofs.Steps.{bind_ok, chosen, guard_ok, done, ok_is, no_value, Passes, Passes-then, both_takes, both_again, byte_takes, byte_again, kind_again, between, Takes-first, Takes-second}
use Rattle.cw_bytes.proofs.Widths.{word_takes, word_again, long_takes, long_again}
use Rattle.cw_bytes.proofs.Producers.{below64, tid_takes, tid_again, tag_takes, tag_again}
use Rattle.cw_bytes.proofs.Parts.{part_takes, part_again, span_takes, span_again}
use Rattle.cw_bytes.proofs.Many.{many_takes, many_again}
use Rattle.std.specs.Global.{Vec}
use Rattle.std.specs.Prelude.{◌≢◌, MatchResult, IfOk}
use Rattle.cw_txn.specs.declared.body.BodyFault.{BodyFault}
use Rattle.cw_txn.specs.declared.body.BodyFault.TheVariants.{NotEntries, Memory as BodyMemory}
use Rattle.cw_txn.specs.declared.entry.Entry.{Entry}
use Rattle.cw_txn.specs.declared.entry.Entry.TheVariants.{Bump, Commit, Set}
use Rattle.cw_txn.specs.declared.entry.SetOffset.{SetOffset}
use Rattle.cw_txn.specs.Body.{offset_bytes, set_bytes, list_bytes, entry_bytes, entries_bytes, IsOffset, IsSet, IsList, IsEntry, AreEntries}
use Rattle.cw_txn.specs.BodyReading.{some_offset_at, offset_at, set_at, list_at, spans_at, sets_at, bump_at, commit_at, set_entry_at, entry_at, count_at, entries_at, ended, body_at}

some_takes : (kind from : Unread) (to : Option ℕ) (next : Unread) → Passes (1 ∷ []) kind from → some_offset_at from ≡ Ok (to, next) → Passes (offset_bytes to) kind next × IsOffset to
unfolding some_offset_at
some_takes kind from to next behind e =
    let b = bind_ok (number_at w64 from) (λ n. done (Some n.0, n.1)) (to, next) e in
    let n = long_takes from b.0.0 b.0.1 behind.left b.1 in
    subst (λ (y : Option ℕ × Unread). Passes (offset_bytes y.0) kind y.1 × IsOffset y.0) (ok_is (Some b.0.0, b.0.1) (to, next) b.2) (Passes-then (1 ∷ []) (long b.0.0) kind from b.0.1 behind n.0, n.1)

abbrev offset_of_kind : ℕ × Unread → Read (Option ℕ)
offset_of_kind kind = cond (eqb kind.0 0) (Ok (None, kind.1)) (cond (eqb kind.0 1) (some_offset_at kind.1) (Err (BadKind kind.0)))

offset_takes : (from : Unread) (to : Option ℕ) (next : Unread) → AreBytes from.rest → offset_at from ≡ Ok (to, next) → Passes (offset_bytes to) from next × IsOffset to
unfolding offset_at
offset_takes from to next fits e =
    let b = bind_ok (byte_at from) offset_of_kind (to, next) e in
    let kind = byte_takes from b.0.0 b.0.1 fits b.1 in
    let is : (k : ℕ) → eqb b.0.0 k ≡ true → Passes (k ∷ []) from b.0.1 = λ k same. subst (λ (x : ℕ). Passes (x ∷ []) from b.0.1) (eqb-true b.0.0 k same) kind in
    ⊎_elim
    (λ none. subst (λ (y : Option ℕ × Unread). Passes (offset_bytes y.0) from y.1 × IsOffset y.0) (ok_is (None, b.0.1) (to, next) none.1) (is 0 none.0, tt))
    (λ other. ⊎_elim
    (λ some. some_takes from b.0.1 to next (is 1 some.0) some.1)
    (λ bad. absurd (no_value (BadKind b.0.0) (to, next) bad.1))
    (chosen (eqb b.0.0 1) (some_offset_at b.0.1) (Err (BadKind b.0.0)) (done (to, next)) other.1))
    (chosen (eqb b.0.0 0) (Ok (None, b.0.1)) (cond (eqb b.0.0 1) (some_offset_at b.0.1) (Err (BadKind b.0.0))) (done (to, next)) b.2)

offset_again : (to : Option ℕ) → IsOffset to → (from next : Unread) → Takes (offset_bytes to) from next → offset_at from ≡ Ok (to, next)
unfolding offset_at some_offset_at
offset_again None is from next takes = ap (λ r. r >>= offset_of_kind) (byte_again 0 from next takes)
offset_again (Some n) is from next takes = kind_again 1 (long n) offset_of_kind (Some n, next) from next takes
    (λ mid there. ap (λ r. r >>= λ (x : ℕ × Unread). done (Some x.0, x.1)) (long_again n is mid next there))

abbrev set_to : PartKey → Option ℕ → SetOffset
set_to part to = record { part = part; to = to }

set_takes : (from : Unread) (set : SetOffset) (next : Unread) → AreBytes from.rest → set_at from ≡ Ok (set, next) → Passes (set_bytes set) from next × IsSet set
unfolding set_at
set_takes from set next fits e =
    let b = both_takes part_at offset_at set_to part_bytes offset_bytes IsPart IsOffset part_takes offset_takes part_again offset_again from set next fits e in
    subst (λ (s : SetOffset). Passes (set_bytes s) from next × IsSet s) b.made (b.passes, (b.has_a, b.has_b))

set_again : (set : SetOffset) → IsSet set → (from next : Unread) → Takes (set_bytes set) from next → set_at from ≡ Ok (set, next)
unfolding set_at
set_again set is from next takes = both_again part_at offset_at set_to part_bytes offset_bytes IsPart IsOffset part_takes offset_takes part_again offset_again set.part set.to is.0 is.1 from next takes

-- fields of one kind behind their number
module _ {A : Type 0} (at : Unread → Read A) (bytes : A → List ℕ) (is : A → Type 0)
    (takes : (from : Unread) (a : A) (next : Unread) → AreBytes from.rest → at from ≡ Ok (a, next) → Passes (bytes a) from next × is a)
    (again : (a : A) → is a → (from next : Unread) → Takes (bytes a) from next → at from ≡ Ok (a, next)) where
  list_takes : (from : Unread) (list : List A) (next : Unread) → AreBytes from.rest → list_at at from ≡ Ok (list, next) → Passes (list_bytes bytes list) from next × IsList is list
  unfolding list_at
  list_takes from list next fits e =
      let b = bind_ok (number_at w32 from) (λ n. many_at at n.0 n.1) (list, next) e in
      let n = word_takes from b.0.0 b.0.1 fits b.1 in
      let m = many_takes at bytes is takes again b.0.0 b.0.1 list next n.0.left b.2 in (
        subst (λ (k : ℕ). Passes (word k ++ flat_map bytes list) from next) (sym m.count) (Passes-then (word b.0.0) (flat_map bytes list) from b.0.1 next n.0 m.passes),
        (omega (arith, n.1, m.count), m.each),
      )

  list_again : (list : List A) → IsList is list → (from next : Unread) → Takes (list_bytes bytes list) from next → list_at at from ≡ Ok (list, next)
  unfolding list_at
  list_again list are from next t =
      let mid = between (word (length list)) (flat_map bytes list) from next in
      ap (λ x. x >>= λ (n : ℕ × Unread). many_at at n.0 n.1) (word_again (length list) are.0 from mid (Takes-first (word (length list)) (flat_map bytes list) from next t))
      ∙ many_again at bytes is takes again list are.1 mid next (Takes-second (word (length list)) (flat_map bytes list) from next t)

-- a number and a list behind it
module _ {A : Type 0} (bytes : A → List ℕ) (is : A → Type 0) where
  abbrev numbered : ℕ × List A → List ℕ
  numbered p = long p.0 ++ list_bytes bytes p.1

  abbrev AreNumberedList : ℕ × List A → Type 0
  AreNumberedList p = (p.0 < 2 ^ 64) × IsList is p.1

abbrev pair : {A B : Type 0} → A → B → A × B
pair a b = (a, b)

spans_takes : (from : Unread) (p : ℕ × List Span) (next : Unread) → AreBytes from.rest → spans_at from ≡ Ok (p, next) → Passes (numbered span_bytes IsSpan p) from next × AreNumberedList span_bytes IsSpan p
unfolding spans_at
spans_takes from p next fits e =
    let b = both_takes (number_at w64) (list_at span_at) pair long (list_bytes span_bytes) below64 (IsList IsSpan) long_takes (list_takes span_at span_bytes IsSpan span_takes span_again) long_again (list_again span_at span_bytes IsSpan span_takes span_again) from p next fits e in
    subst (λ (q : ℕ × List Span). Passes (numbered span_bytes IsSpan q) from next × AreNumberedList span_bytes IsSpan q) b.made (b.passes, (b.has_a, b.has_b))

spans_again : (p : ℕ × List Span) → AreNumberedList span_bytes IsSpan p → (from next : Unread) → Takes (numbered span_bytes IsSpan p) from next → spans_at from ≡ Ok (p, next)
unfolding spans_at
spans_again p are from next takes = both_again (number_at w64) (list_at span_at) pair long (list_bytes span_bytes) below64 (IsList IsSpan) long_takes (list_takes span_at span_bytes IsSpan span_takes span_again) long_again (list_again span_at span_bytes IsSpan span_takes span_again) p.0 p.1 are.0 are.1 from next takes

sets_takes : (from : Unread) (p : ℕ × List SetOffset) (next : Unread) → AreBytes from.rest → sets_at from ≡ Ok (p, next) → Passes (numbered set_bytes IsSet p) from next × AreNumberedList set_bytes IsSet p
unfolding sets_at
sets_takes from p next fits e =
    let b = both_takes (number_at w64) (list_at set_at) pair long (list_bytes set_bytes) below64 (IsList IsSet) long_takes (list_takes set_at set_bytes IsSet set_takes set_again) long_again (list_again set_at set_bytes IsSet set_takes set_again) from p next fits e in
    subst (λ (q : ℕ × List SetOffset). Passes (numbered set_bytes IsSet q) from next × AreNumberedList set_bytes IsSet q) b.made (b.passes, (b.has_a, b.has_b))

sets_again : (p : ℕ × List SetOffset) → AreNumberedList set_bytes IsSet p → (from next : Unread) → Takes (numbered set_bytes IsSet p) from next → sets_at from ≡ Ok (p, next)
unfolding sets_at
sets_again p are from next takes = both_again (number_at w64) (list_at set_at) pair long (list_bytes set_bytes) below64 (IsList IsSet) long_takes (list_takes set_at set_bytes IsSet set_takes set_again) long_again (list_again set_at set_bytes IsSet set_takes set_again) p.0 p.1 are.0 are.1 from next takes

abbrev commit_of : Tag → ℕ × List Span → Entry
commit_of tag p = Commit tag p.0 p.1

abbrev set_of : Tid → ℕ × List SetOffset → Entry
set_of tid p = Set tid (record { 0 = p.0 }) p.1

bump_takes : (kind from : Unread) (entry : Entry) (next : Unread) → Passes (1 ∷ []) kind from → bump_at from ≡ Ok (entry, next) → Passes (entry_bytes entry) kind next × IsEntry entry
unfolding bump_at
bump_takes kind from entry next behind e =
    let b = bind_ok (tid_at from) (λ t. done (Bump t.0, t.1)) (entry, next) e in
    let t = tid_takes from b.0.0 b.0.1 behind.left b.1 in
    subst (λ (y : Entry × Unread). Passes (entry_bytes y.0) kind y.1 × IsEntry y.0) (ok_is (Bump b.0.0, b.0.1) (entry, next) b.2) (Passes-then (1 ∷ []) (tid_bytes b.0.0) kind from b.0.1 behind t.0, t.1)

commit_takes : (kind from : Unread) (entry : Entry) (next : Unread) → Passes (2 ∷ []) kind from → commit_at from ≡ Ok (entry, next) → Passes (entry_bytes entry) kind next × IsEntry entry
unfolding commit_at
commit_takes kind from entry next behind e =
    let b = both_takes tag_at spans_at commit_of tag_bytes (numbered span_bytes IsSpan) IsTag (AreNumberedList span_bytes IsSpan) tag_takes spans_takes tag_again spans_again from entry next behind.left e in
    subst (λ (x : Entry). Passes (entry_bytes x) kind next × IsEntry x) b.made (Passes-then (2 ∷ []) (tag_bytes b.a ++ numbered span_bytes IsSpan b.b) kind from next behind b.passes, (b.has_a, b.has_b.0, b.has_b.1))

set_entry_takes : (kind from : Unread) (entry : Entry) (next : Unread) → Passes (3 ∷ []) kind from → set_entry_at from ≡ Ok (entry, next) → Passes (entry_bytes entry) kind next × IsEntry entry
unfolding set_entry_at
set_entry_takes kind from entry next behind e =
    let b = both_takes tid_at sets_at set_of tid_bytes (numbered set_bytes IsSet) IsTid (AreNumberedList set_bytes IsSet) tid_takes sets_takes tid_again sets_again from entry next behind.left e in
    subst (λ (x : Entry). Passes (entry_bytes x) kind next × IsEntry x) b.made (Passes-then (3 ∷ []) (tid_bytes b.a ++ numbered set_bytes IsSet b.b) kind from next behind b.passes, (b.has_a, b.has_b.0, b.has_b.1))

abbrev entry_of_kind : ℕ × Unread → Read Entry
entry_of_kind kind = cond (eqb kind.0 1) (bump_at kind.1) (cond (eqb kind.0 2) (commit_at kind.1) (cond (eqb kind.0 3) (set_entry_at kind.1) (Err (BadKind kind.0))))

entry_takes : (from : Unread) (entry : Entry) (next : Unread) → AreBytes from.rest → entry_at from ≡ Ok (entry, next) → Passes (entry_bytes entry) from next × IsEntry entry
unfolding entry_at
entry_takes from entry next fits e =
    let b = bind_ok (byte_at from) entry_of_kind (entry, next) e in
    let kind = byte_takes from b.0.0 b.0.1 fits b.1 in
    let is : (k : ℕ) → eqb b.0.0 k ≡ true → Passes (k ∷ []) from b.0.1 = λ k same. subst (λ (x : ℕ). Passes (x ∷ []) from b.0.1) (eqb-true b.0.0 k same) kind in
    ⊎_elim
    (λ bump. bump_takes from b.0.1 entry next (is 1 bump.0) bump.1)
    (λ other. ⊎_elim
    (λ commit. commit_takes from b.0.1 entry next (is 2 commit.0) commit.1)
    (λ neither. ⊎_elim
    (λ set. set_entry_takes from b.0.1 entry next (is 3 set.0) set.1)
    (λ bad. absurd (no_value (BadKind b.0.0) (entry, next) bad.1))
    (chosen (eqb b.0.0 3) (set_entry_at b.0.1) (Err (BadKind b.0.0)) (done (entry, next)) neither.1))
    (chosen (eqb b.0.0 2) (commit_at b.0.1) (cond (eqb b.0.0 3) (set_entry_at b.0.1) (Err (BadKind b.0.0))) (done (entry, next)) other.1))
    (chosen (eqb b.0.0 1) (bump_at b.0.1) (cond (eqb b.0.0 2) (commit_at b.0.1) (cond (eqb b.0.0 3) (set_entry_at b.0.1) (Err (BadKind b.0.0)))) (done (entry, next)) b.2)

entry_again : (entry : Entry) → IsEntry entry → (from next : Unread) → Takes (entry_bytes entry) from next → entry_at from ≡ Ok (entry, next)
unfolding entry_at bump_at commit_at set_entry_at
entry_again (Bump tid) is from next takes = kind_again 1 (tid_bytes tid) entry_of_kind (Bump tid, next) from next takes
    (λ mid there. ap (λ r. r >>= λ (t : Tid × Unread). done (Bump t.0, t.1)) (tid_again tid is mid next there))
entry_again (Commit tag generation spans) is from next takes = kind_again 2 (tag_bytes tag ++ numbered span_bytes IsSpan (generation, spans)) entry_of_kind (Commit tag generation spans, next) from next takes
    (λ mid there. both_again tag_at spans_at commit_of tag_bytes (numbered span_bytes IsSpan) IsTag (AreNumberedList span_bytes IsSpan) tag_takes spans_takes tag_again spans_again tag (generation, spans) is.0 (is.1, is.2) mid next there)
entry_again (Set tid epoch list) is from next takes = kind_again 3 (tid_bytes tid ++ numbered set_bytes IsSet (epoch.0, list)) entry_of_kind (Set tid epoch list, next) from next takes
    (λ mid there. both_again tid_at sets_at set_of tid_bytes (numbered set_bytes IsSet) IsTid (AreNumberedList set_bytes IsSet) tid_takes sets_takes tid_again sets_again tid (epoch.0, list) is.0 (is.1, is.2) mid next there)

abbrev counted : ℕ × Unread → Read ℕ
counted n = cond (eqb n.0 0) (Err (BadKind 0)) (Ok (n.0, n.1))

not_zero : (n : ℕ) → eqb n 0 ≡ false → 1 ≤ n
not_zero n e = grind (arith, nat_tests)

is_not_zero : (n : ℕ) → 1 ≤ n → eqb n 0 ≡ false
is_not_zero n e = grind (arith, nat_tests)

count_takes : (from : Unread) (n : ℕ) (next : Unread) → AreBytes from.rest → count_at from ≡ Ok (n, next) → Passes (word n) from next × (1 ≤ n) × (n < 2 ^ 32)
unfolding count_at
count_takes from n next fits e =
    let b = bind_ok (number_at w32 from) counted (n, next) e in
    let g = guard_ok (eqb b.0.0 0) (BadKind 0) (done (b.0.0, b.0.1)) (n, next) b.2 in
    let w = word_takes from b.0.0 b.0.1 fits b.1 in
    subst (λ (y : ℕ × Unread). Passes (word y.0) from y.1 × (1 ≤ y.0) × (y.0 < 2 ^ 32)) (ok_is (b.0.0, b.0.1) (n, next) g.1) (w.0, not_zero b.0.0 g.0, w.1)

count_again : (n : ℕ) → 1 ≤ n → n < 2 ^ 32 → (from next : Unread) → Takes (word n) from next → count_at from ≡ Ok (n, next)
unfolding count_at
count_again n some few from next takes =
    ap (λ x. x >>= counted) (word_again n few from next takes) ∙ ap (λ (b : Bool). cond b (Err (BadKind 0)) (Ok (n, next))) (is_not_zero n some)

entries_takes : (from : Unread) (entries : List Entry) (next : Unread) → AreBytes from.rest → entries_at from ≡ Ok (entries, next) → Passes (entries_bytes entries) from next × AreEntries entries
unfolding entries_at
entries_takes from entries next fits e =
    let b = bind_ok (count_at from) (λ n. many_at entry_at n.0 n.1) (entries, next) e in
    let n = count_takes from b.0.0 b.0.1 fits b.1 in
    let m = many_takes entry_at entry_bytes IsEntry entry_takes entry_again b.0.0 b.0.1 entries next n.0.left b.2 in (
      subst (λ (k : ℕ). Passes (word k ++ flat_map entry_bytes entries) from next) (sym m.count) (Passes-then (word b.0.0) (flat_map entry_bytes entries) from b.0.1 next n.0 m.passes),
      record { some = omega (arith, n.1, m.count); list = (omega (arith, n.2, m.count), m.each) },
    )

entries_again : (entries : List Entry) → AreEntries entries → (from next : Unread) → Takes (entries_bytes entries) from next → entries_at from ≡ Ok (entries, next)
unfolding entries_at
entries_again entries are from next t =
    let mid = between (word (length entries)) (flat_map entry_bytes entries) from next in
    ap (λ x. x >>= λ (n : ℕ × Unread). many_at entry_at n.0 n.1) (count_again (length entries) are.some are.list.0 from mid (Takes-first (word (length entries)) (flat_map entry_bytes entries) from next t))
    ∙ many_again entry_at entry_bytes IsEntry entry_takes entry_again entries are.list.1 mid next (Takes-second (word (length entries)) (flat_map entry_bytes entries) from next t)

-- ---- a whole body

some_if : (b : Bool) (x y : List Entry) → cond b (Some x) None ≡ Some y → (b ≡ true) × (x ≡ y)
some_if true x y e = (refl, cc)
some_if false x y e = absurd cc

ended_some : (r : Read (List Entry)) (entries : List Entry) → ended r ≡ Some entries → (next : Unread) × (r ≡ Ok (entries, next)) × (next.rest ≡ [])
ended_some (Ok read) entries e =
    let s = some_if (eqb (length read.1.rest) 0) read.0 entries e in
    (read.1, ap (λ (l : List Entry). done (l, read.1)) s.1, nil_from_length read.1.rest (eqb-true (length read.1.rest) 0 s.0))
ended_some (Err fault) entries e = absurd cc

pub body_takes : (bytes : List ℕ) (entries : List Entry) → AreBytes bytes → body_at bytes ≡ Some entries → AreEntries entries × (bytes ≡ entries_bytes entries)
body_takes bytes entries fits e =
    let start : Unread = record { place = 0; rest = bytes } in
    let s = ended_some (entries_at start) entries e in
    let t = entries_takes start entries s.0 fits s.1 in
    (t.1, t.0.takes.spelled ∙ ap (λ (r : List ℕ). entries_bytes entries ++ r) s.2 ∙ append-nil (entries_bytes entries))

pub body_again : (entries : List Entry) → AreEntries entries → body_at (entries_bytes entries) ≡ Some entries
body_again entries are =
    let start : Unread = record { place = 0; rest = entries_bytes entries } in
    let past_all : Unread = record { place = length (entries_bytes entries); rest = [] } in
    ap ended (entries_again entries are start past_all (record { spelled = sym (append-nil (entries_bytes entries)); place = omega arith }))

some_is : (x y : List Entry) → Some x ≡ Some y → x ≡ y
some_is x y e = cc

none_isnt : (x : List Entry) → None ≡ Some x → ⊥
none_isnt x e = cc

-- ---- what a call answers

-- a fault that isn't want of memory says that there is no reading
pub isnt_unreadable : (bytes : List ℕ) (fault : BodyFault) (entries : List Entry) → AreEntries entries → bytes ≡ entries_bytes entries
    → (fault ≢ BodyMemory → body_at bytes ≡ None) → fault ≡ NotEntries → ⊥
isnt_unreadable bytes NotEntries entries are is unread e =
    let there : body_at bytes ≡ Some entries = ap body_at is ∙ body_again entries are in
    none_isnt entries (sym (unread (λ same. cc)) ∙ there)
isnt_unreadable bytes BodyMemory entries are is unread e = cc

abbrev Answers : List ℕ → Result (Vec Entry) BodyFault → Type 0
Answers bytes r = MatchResult r (λ entries. body_at bytes ≡ Some entries.items) (λ fault. fault ≢ BodyMemory → body_at bytes ≡ None)

pub is_found : (bytes : List ℕ) (r : Result (Vec Entry) BodyFault) → AreBytes bytes → Answers bytes r → IfOk r (λ entries. AreEntries entries.items × (bytes ≡ entries_bytes entries.items))
is_found bytes (Ok entries) fits answers = body_takes bytes entries.items fits answers
is_found bytes (Err fault) fits answers = tt

pub is_only : (bytes : List ℕ) (r : Result (Vec Entry) BodyFault) (entries : List Entry) → AreEntries entries → bytes ≡ entries_bytes entries → Answers bytes r → IfOk r (λ read. read.items ≡ entries)
is_only bytes (Ok read) entries are is answers =
    let there : body_at bytes ≡ Some entries = ap body_at is ∙ body_again entries are in
    some_is read.items entries (sym answers ∙ there)
is_only bytes (Err fault) entries are is answers = tt

pub not_refused : (bytes : List ℕ) (r : Result (Vec Entry) BodyFault) (entries : List Entry) → AreEntries entries → bytes ≡ entries_bytes entries → Answers bytes r → r ≡ Err NotEntries → ⊥
not_refused bytes (Ok read) entries are is answers e = cc
not_refused bytes (Err fault) entries are is answers e = isnt_unreadable bytes fault entries are is answers (cc)
