-- Bodies of the data log: what is read is spelled so, and what is spelled so is read.
use Rattle.std.proofs.Common.{◌≡◌, ℕ, true, cond, eqb, List, [], ◌∷◌, ◌++◌, length, Ok, Err, sym, ap, subst, ◌∙◌, arith, ⊎_elim}
use Rattle.std.specs.Int.{w32}
use Rattle.std.specs.List.{flat_map}
use Rattle.std.proofs.lemmas.Bool.{eqb-true}
use Rattle.cw_types.specs.Name.{IsName}
use Rattle.cw_types.specs.declared.ids.Span.{Span}
use Rattle.cw_bytes.specs.declared.mark.Mark.{Mark as TheMark}
use Rattle.cw_bytes.specs.declared.fault.FieldFault.TheVariants.{BadKind}
use Rattle.cw_bytes.specs.Unread.{Unread, AreBytes, Takes}
use Rattle.cw_bytes.specs.Spelling.{word, text, tag_bytes, mark_bytes, span_bytes, IsText, IsTag, IsSpan}
use Rattle.cw_bytes.specs.Reading.{◌>>=◌, Read, byte_at, number_at, text_at, name_at, tag_at, span_at, mark_at, many_at}
use Rattle.cw_bytes.proofs.Steps.{bind_ok, chosen, done, ok_is, no_value, Passes, Passes-then, both_takes, both_again, byte_takes, kind_again, between, Takes-first, Takes-second}
use Rattle.cw_bytes.proofs.Widths.{word_takes, word_again, text_takes, text_again}
use Rattle.cw_bytes.proofs.Names.{name_takes, name_again}
use Rattle.cw_bytes.proofs.Producers.{tag_takes, tag_again}
use Rattle.cw_bytes.proofs.Parts.{span_takes, span_again}
use Rattle.cw_bytes.proofs.Many.{many_takes, many_again}
use Rattle.cw_bytes.proofs.Marks.{mark_takes, mark_again}
use Rattle.cw_data.specs.declared.entry.DataEntry.{DataEntry}
use Rattle.cw_data.specs.declared.entry.DataEntry.TheVariants.{Batch as InBatch, Mark}
use Rattle.cw_data.specs.Body.{span_of, values_bytes, entry_bytes, AreValues, IsEntry, IsShort}
use Rattle.cw_data.specs.BodyReading.{values_at, spanned_at, named_at, batch_of, stored_at, marked_at, entry_at}

values_takes : (from : Unread) (values : List (List ℕ)) (next : Unread) → AreBytes from.rest → values_at from ≡ Ok (values, next) → Passes (values_bytes values) from next × AreValues values
unfolding values_at
values_takes from values next fits e =
    let b = bind_ok (number_at w32 from) (λ n. many_at text_at n.0 n.1) (values, next) e in
    let n = word_takes from b.0.0 b.0.1 fits b.1 in
    let m = many_takes text_at text IsText text_takes text_again b.0.0 b.0.1 values next n.0.left b.2 in (
      subst (λ (k : ℕ). Passes (word k ++ flat_map text values) from next) (sym m.count) (Passes-then (word b.0.0) (flat_map text values) from b.0.1 next n.0 m.passes),
      (omega (arith, n.1, m.count), m.each),
    )

values_again : (values : List (List ℕ)) → AreValues values → (from next : Unread) → Takes (values_bytes values) from next → values_at from ≡ Ok (values, next)
unfolding values_at
values_again values are from next t =
    let mid = between (word (length values)) (flat_map text values) from next in
    ap (λ x. x >>= λ (n : ℕ × Unread). many_at text_at n.0 n.1) (word_again (length values) are.0 from mid (Takes-first (word (length values)) (flat_map text values) from next t))
    ∙ many_again text_at text IsText text_takes text_again values are.1 mid next (Takes-second (word (length values)) (flat_map text values) from next t)

abbrev pair : {A B : Type 0} → A → B → A × B
pair a b = (a, b)

abbrev Spanned : Type 0
Spanned = Span × List (List ℕ)

abbrev spanned_bytes : Spanned → List ℕ
spanned_bytes p = span_bytes p.0 ++ values_bytes p.1

abbrev IsSpanned : Spanned → Type 0
IsSpanned p = IsSpan p.0 × AreValues p.1

spanned_takes : (from : Unread) (p : Spanned) (next : Unread) → AreBytes from.rest → spanned_at from ≡ Ok (p, next) → Passes (spanned_bytes p) from next × IsSpanned p
unfolding spanned_at
spanned_takes from p next fits e =
    let b = both_takes span_at values_at pair span_bytes values_bytes IsSpan AreValues span_takes values_takes span_again values_again from p next fits e in
    subst (λ (q : Spanned). Passes (spanned_bytes q) from next × IsSpanned q) b.made (b.passes, (b.has_a, b.has_b))

spanned_again : (p : Spanned) → IsSpanned p → (from next : Unread) → Takes (spanned_bytes p) from next → spanned_at from ≡ Ok (p, next)
unfolding spanned_at
spanned_again p are from next takes = both_again span_at values_at pair span_bytes values_bytes IsSpan AreValues span_takes values_takes span_again values_again p.0 p.1 are.0 are.1 from next takes

abbrev Named : Type 0
Named = List ℕ × Spanned

abbrev named_bytes : Named → List ℕ
named_bytes p = text p.0 ++ spanned_bytes p.1

abbrev IsNamed : Named → Type 0
IsNamed p = IsName p.0 × IsSpanned p.1

named_takes : (from : Unread) (p : Named) (next : Unread) → AreBytes from.rest → named_at from ≡ Ok (p, next) → Passes (named_bytes p) from next × IsNamed p
unfolding named_at
named_takes from p next fits e =
    let b = both_takes name_at spanned_at pair text spanned_bytes IsName IsSpanned name_takes spanned_takes name_again spanned_again from p next fits e in
    subst (λ (q : Named). Passes (named_bytes q) from next × IsNamed q) b.made (b.passes, (b.has_a, b.has_b))

named_again : (p : Named) → IsNamed p → (from next : Unread) → Takes (named_bytes p) from next → named_at from ≡ Ok (p, next)
unfolding named_at
named_again p are from next takes = both_again name_at spanned_at pair text spanned_bytes IsName IsSpanned name_takes spanned_takes name_again spanned_again p.0 p.1 are.0 are.1 from next takes

stored_takes : (kind from : Unread) (entry : DataEntry) (next : Unread) → Passes (1 ∷ []) kind from → stored_at from ≡ Ok (entry, next) → Passes (entry_bytes entry) kind next × IsEntry entry
unfolding stored_at
stored_takes kind from entry next behind e =
    let b = both_takes tag_at named_at batch_of tag_bytes named_bytes IsTag IsNamed tag_takes named_takes tag_again named_again from entry next behind.left e in
    subst (λ (x : DataEntry). Passes (entry_bytes x) kind next × IsEntry x) b.made (Passes-then (1 ∷ []) (tag_bytes b.a ++ named_bytes b.b) kind from next behind b.passes, (b.has_a, b.has_b.0, b.has_b.1.0, b.has_b.1.1))

marked_takes : (kind from : Unread) (entry : DataEntry) (next : Unread) → Passes (2 ∷ []) kind from → marked_at from ≡ Ok (entry, next) → Passes (entry_bytes entry) kind next × IsEntry entry
unfolding marked_at
marked_takes kind from entry next behind e =
    let b = bind_ok (mark_at from) (λ m. done (Mark m.0.tag m.0.committed, m.1)) (entry, next) e in
    let m = mark_takes from b.0.0 b.0.1 behind.left b.1 in
    subst (λ (y : DataEntry × Unread). Passes (entry_bytes y.0) kind y.1 × IsEntry y.0) (ok_is (Mark b.0.0.tag b.0.0.committed, b.0.1) (entry, next) b.2) (Passes-then (2 ∷ []) (mark_bytes b.0.0) kind from b.0.1 behind m.0, m.1)

abbrev not_stored : ℕ × Unread → Read DataEntry
not_stored kind = cond (eqb kind.0 2) (marked_at kind.1) (Err (BadKind kind.0))

abbrev entry_of_kind : ℕ × Unread → Read DataEntry
entry_of_kind kind = cond (eqb kind.0 1) (stored_at kind.1) (not_stored kind)

pub entry_takes : (from : Unread) (entry : DataEntry) (next : Unread) → AreBytes from.rest → entry_at from ≡ Ok (entry, next) → Passes (entry_bytes entry) from next × IsEntry entry
unfolding entry_at
entry_takes from entry next fits e =
    let b = bind_ok (byte_at from) entry_of_kind (entry, next) e in
    let kind = byte_takes from b.0.0 b.0.1 fits b.1 in
    let is : (k : ℕ) → eqb b.0.0 k ≡ true → Passes (k ∷ []) from b.0.1 = λ k same. subst (λ (x : ℕ). Passes (x ∷ []) from b.0.1) (eqb-true b.0.0 k same) kind in
    ⊎_elim
    (λ stored. stored_takes from b.0.1 entry next (is 1 stored.0) stored.1)
    (λ other. ⊎_elim
    (λ marked. marked_takes from b.0.1 entry next (is 2 marked.0) marked.1)
    (λ bad. absurd (no_value (BadKind b.0.0) (entry, next) bad.1))
    (chosen (eqb b.0.0 2) (marked_at b.0.1) (Err (BadKind b.0.0)) (done (entry, next)) other.1))
    (chosen (eqb b.0.0 1) (stored_at b.0.1) (not_stored b.0) (done (entry, next)) b.2)

pub entry_again : (entry : DataEntry) → IsEntry entry → (from next : Unread) → Takes (entry_bytes entry) from next → entry_at from ≡ Ok (entry, next)
unfolding entry_at stored_at marked_at
entry_again (InBatch batch) is from next takes = kind_again 1 (tag_bytes batch.tag ++ named_bytes (batch.topic, (span_of batch, batch.values))) entry_of_kind (InBatch batch, next) from next takes
    (λ mid there. both_again tag_at named_at batch_of tag_bytes named_bytes IsTag IsNamed tag_takes named_takes tag_again named_again batch.tag (batch.topic, (span_of batch, batch.values)) is.0 (is.1, (is.2, is.3)) mid next there)
entry_again (Mark tag committed) is from next takes = kind_again 2 (mark_bytes (record { tag = tag; committed = committed })) entry_of_kind (Mark tag committed, next) from next takes
    (λ mid there. ap (λ r. r >>= λ (m : TheMark × Unread). done (Mark m.0.tag m.0.committed, m.1)) (mark_again (record { tag = tag; committed = committed }) is mid next there))

-- an entry is seen as itself
abbrev pub itself : DataEntry → DataEntry
itself entry = entry

-- what was read can be written
pub short : (entry : DataEntry) → IsEntry entry → IsShort entry
short (InBatch batch) is = is.3
short (Mark tag committed) is = tt
