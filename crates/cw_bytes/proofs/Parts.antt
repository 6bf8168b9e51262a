-- Parts and spans: what is read is spelled so, and what is spelled so is read.
use Rattle.std.proofs.Common.{◌≡◌, ℕ, true, cond, eqb, [], ◌∷◌, ◌++◌, Ok, Err, sym, ap, subst, ◌∙◌, ⊎_elim}
use Rattle.std.specs.Int.{w32}
use Rattle.std.proofs.lemmas.Bool.{eqb-true}
use Rattle.cw_types.specs.Name.{IsName}
use Rattle.cw_types.specs.declared.ids.PartKey.{PartKey}
use Rattle.cw_types.specs.declared.ids.PartKey.TheVariants.{Raw, File, Seq, Sink}
use Rattle.cw_types.specs.declared.ids.Span.{Span}
use Rattle.cw_bytes.specs.declared.fault.FieldFault.TheVariants.{BadKind}
use Rattle.cw_bytes.specs.Unread.{Unread, AreBytes, Takes}
use Rattle.cw_bytes.specs.Spelling.{word, text, part_bytes, span_bytes, IsPart, IsSpan}
use Rattle.cw_bytes.specs.Reading.{◌>>=◌, Read, byte_at, number_at, name_at, raw_part_at, file_at, seq_at, sink_at, part_at, span_at}
use Rattle.cw_bytes.proofs.Steps.{bind_ok, chosen, done, ok_is, no_value, Passes, Passes-then, both_takes, both_again, byte_takes, kind_again}
use Rattle.cw_bytes.proofs.Widths.{word_takes, word_again}
use Rattle.cw_bytes.proofs.Names.{name_takes, name_again}
use Rattle.cw_bytes.proofs.Producers.{below32, longs, longs_at, AreLongs, longs_takes, longs_again, from_pair, regroup}

raw_takes : (kind from : Unread) (part : PartKey) (next : Unread) → Passes (1 ∷ []) kind from → raw_part_at from ≡ Ok (part, next) → Passes (part_bytes part) kind next × IsPart part
unfolding raw_part_at
raw_takes kind from part next behind e =
    let b = bind_ok (number_at w32 from) (λ n. done (Raw n.0, n.1)) (part, next) e in
    let n = word_takes from b.0.0 b.0.1 behind.left b.1 in
    subst (λ (y : PartKey × Unread). Passes (part_bytes y.0) kind y.1 × IsPart y.0) (ok_is (Raw b.0.0, b.0.1) (part, next) b.2) (Passes-then (1 ∷ []) (word b.0.0) kind from b.0.1 behind n.0, n.1)

file_takes : (kind from : Unread) (part : PartKey) (next : Unread) → Passes (2 ∷ []) kind from → file_at from ≡ Ok (part, next) → Passes (part_bytes part) kind next × IsPart part
unfolding file_at
file_takes kind from part next behind e =
    let b = both_takes name_at name_at File text text IsName IsName name_takes name_takes name_again name_again from part next behind.left e in
    subst (λ (p : PartKey). Passes (part_bytes p) kind next × IsPart p) b.made (Passes-then (2 ∷ []) (text b.a ++ text b.b) kind from next behind b.passes, (b.has_a, b.has_b))

seq_takes : (kind from : Unread) (part : PartKey) (next : Unread) → Passes (3 ∷ []) kind from → seq_at from ≡ Ok (part, next) → Passes (part_bytes part) kind next × IsPart part
unfolding seq_at
seq_takes kind from part next behind e =
    let b = both_takes name_at (number_at w32) Seq text word IsName below32 name_takes word_takes name_again word_again from part next behind.left e in
    subst (λ (p : PartKey). Passes (part_bytes p) kind next × IsPart p) b.made (Passes-then (3 ∷ []) (text b.a ++ word b.b) kind from next behind b.passes, (b.has_a, b.has_b))

sink_takes : (kind from : Unread) (part : PartKey) (next : Unread) → Passes (4 ∷ []) kind from → sink_at from ≡ Ok (part, next) → Passes (part_bytes part) kind next × IsPart part
unfolding sink_at
sink_takes kind from part next behind e =
    let b = both_takes name_at name_at Sink text text IsName IsName name_takes name_takes name_again name_again from part next behind.left e in
    subst (λ (p : PartKey). Passes (part_bytes p) kind next × IsPart p) b.made (Passes-then (4 ∷ []) (text b.a ++ text b.b) kind from next behind b.passes, (b.has_a, b.has_b))

abbrev behind_third : ℕ × Unread → Read PartKey
behind_third kind = cond (eqb kind.0 4) (sink_at kind.1) (Err (BadKind kind.0))

abbrev behind_second : ℕ × Unread → Read PartKey
behind_second kind = cond (eqb kind.0 3) (seq_at kind.1) (behind_third kind)

abbrev behind_first : ℕ × Unread → Read PartKey
behind_first kind = cond (eqb kind.0 2) (file_at kind.1) (behind_second kind)

abbrev part_of_kind : ℕ × Unread → Read PartKey
part_of_kind kind = cond (eqb kind.0 1) (raw_part_at kind.1) (behind_first kind)

pub part_takes : (from : Unread) (part : PartKey) (next : Unread) → AreBytes from.rest → part_at from ≡ Ok (part, next) → Passes (part_bytes part) from next × IsPart part
unfolding part_at
part_takes from part next fits e =
    let b = bind_ok (byte_at from) part_of_kind (part, next) e in
    let kind = byte_takes from b.0.0 b.0.1 fits b.1 in
    let is : (k : ℕ) → eqb b.0.0 k ≡ true → Passes (k ∷ []) from b.0.1 = λ k same. subst (λ (x : ℕ). Passes (x ∷ []) from b.0.1) (eqb-true b.0.0 k same) kind in
    ⊎_elim
    (λ raw. raw_takes from b.0.1 part next (is 1 raw.0) raw.1)
    (λ other. ⊎_elim
    (λ file. file_takes from b.0.1 part next (is 2 file.0) file.1)
    (λ other. ⊎_elim
    (λ seq. seq_takes from b.0.1 part next (is 3 seq.0) seq.1)
    (λ other. ⊎_elim
    (λ sink. sink_takes from b.0.1 part next (is 4 sink.0) sink.1)
    (λ bad. absurd (no_value (BadKind b.0.0) (part, next) bad.1))
    (chosen (eqb b.0.0 4) (sink_at b.0.1) (Err (BadKind b.0.0)) (done (part, next)) other.1))
    (chosen (eqb b.0.0 3) (seq_at b.0.1) (behind_third b.0) (done (part, next)) other.1))
    (chosen (eqb b.0.0 2) (file_at b.0.1) (behind_second b.0) (done (part, next)) other.1))
    (chosen (eqb b.0.0 1) (raw_part_at b.0.1) (behind_first b.0) (done (part, next)) b.2)

pub part_again : (part : PartKey) → IsPart part → (from next : Unread) → Takes (part_bytes part) from next → part_at from ≡ Ok (part, next)
unfolding part_at raw_part_at file_at seq_at sink_at
part_again (Raw n) is from next takes = kind_again 1 (word n) part_of_kind (Raw n, next) from next takes
    (λ mid there. ap (λ r. r >>= λ (x : ℕ × Unread). done (Raw x.0, x.1)) (word_again n is mid next there))
part_again (File a f) is from next takes = kind_again 2 (text a ++ text f) part_of_kind (File a f, next) from next takes
    (λ mid there. both_again name_at name_at File text text IsName IsName name_takes name_takes name_again name_again a f is.0 is.1 mid next there)
part_again (Seq a i) is from next takes = kind_again 3 (text a ++ word i) part_of_kind (Seq a i, next) from next takes
    (λ mid there. both_again name_at (number_at w32) Seq text word IsName below32 name_takes word_takes name_again word_again a i is.0 is.1 mid next there)
part_again (Sink a t) is from next takes = kind_again 4 (text a ++ text t) part_of_kind (Sink a t, next) from next takes
    (λ mid there. both_again name_at name_at Sink text text IsName IsName name_takes name_takes name_again name_again a t is.0 is.1 mid next there)

abbrev span_of : PartKey → ℕ → ℕ → Span
span_of part start stop = record { part = part; from = start; to = stop }

span_regrouped : (from : Unread) → span_at from ≡ (part_at from >>= λ (a : PartKey × Unread). longs_at a.1 >>= from_pair span_of a.0)
unfolding span_at
span_regrouped from = regroup span_of (part_at from)

pub span_takes : (from : Unread) (span : Span) (next : Unread) → AreBytes from.rest → span_at from ≡ Ok (span, next) → Passes (span_bytes span) from next × IsSpan span
span_takes from span next fits e =
    let b = both_takes part_at longs_at (λ t p. span_of t p.0 p.1) part_bytes longs IsPart AreLongs part_takes longs_takes part_again longs_again from span next fits (sym (span_regrouped from) ∙ e) in
    subst (λ (s : Span). Passes (span_bytes s) from next × IsSpan s) b.made (b.passes, (b.has_a, b.has_b.0, b.has_b.1))

pub span_again : (span : Span) → IsSpan span → (from next : Unread) → Takes (span_bytes span) from next → span_at from ≡ Ok (span, next)
span_again span is from next takes = span_regrouped from ∙ both_again part_at longs_at (λ t p. span_of t p.0 p.1) part_bytes longs IsPart AreLongs part_takes longs_takes part_again longs_again span.part (span.from, span.to) is.0 (is.1, is.2) from next takes
