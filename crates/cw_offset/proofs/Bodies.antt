-- Bodies of the offset log: what is read is spelled so, and what is spelled so is read.
use Rattle.std.proofs.Common.{◌≡◌, ℕ, true, cond, eqb, [], ◌∷◌, ◌++◌, Ok, Err, ap, subst, ⊎_elim}
use Rattle.std.proofs.lemmas.Bool.{eqb-true}
use Rattle.cw_bytes.specs.declared.mark.Mark.{Mark as TheMark}
use Rattle.cw_bytes.specs.declared.fault.FieldFault.TheVariants.{BadKind}
use Rattle.cw_bytes.specs.Unread.{Unread, AreBytes, Takes}
use Rattle.cw_bytes.specs.Spelling.{tag_bytes, mark_bytes, records_bytes, IsTag, AreRecords}
use Rattle.cw_bytes.specs.Reading.{◌>>=◌, Read, byte_at, tag_at, mark_at, records_at}
use Rattle.cw_bytes.proofs.Steps.{bind_ok, chosen, done, ok_is, no_value, Passes, Passes-then, both_takes, both_again, byte_takes, kind_again}
use Rattle.cw_bytes.proofs.Producers.{tag_takes, tag_again}
use Rattle.cw_bytes.proofs.Records.{records_takes, records_again}
use Rattle.cw_bytes.proofs.Marks.{mark_takes, mark_again}
use Rattle.cw_offset.specs.declared.body.OffsetEntry.{OffsetEntry}
use Rattle.cw_offset.specs.declared.body.OffsetEntry.TheVariants.{Records, Mark}
use Rattle.cw_offset.specs.Body.{entry_bytes, IsEntry}
use Rattle.cw_offset.specs.BodyReading.{stored_at, marked_at, entry_at}

stored_takes : (kind from : Unread) (entry : OffsetEntry) (next : Unread) → Passes (1 ∷ []) kind from → stored_at from ≡ Ok (entry, next) → Passes (entry_bytes entry) kind next × IsEntry entry
unfolding stored_at
stored_takes kind from entry next behind e =
    let b = both_takes tag_at records_at Records tag_bytes records_bytes IsTag AreRecords tag_takes records_takes tag_again records_again from entry next behind.left e in
    subst (λ (x : OffsetEntry). Passes (entry_bytes x) kind next × IsEntry x) b.made (Passes-then (1 ∷ []) (tag_bytes b.a ++ records_bytes b.b) kind from next behind b.passes, (b.has_a, b.has_b))

marked_takes : (kind from : Unread) (entry : OffsetEntry) (next : Unread) → Passes (2 ∷ []) kind from → marked_at from ≡ Ok (entry, next) → Passes (entry_bytes entry) kind next × IsEntry entry
unfolding marked_at
marked_takes kind from entry next behind e =
    let b = bind_ok (mark_at from) (λ m. done (Mark m.0, m.1)) (entry, next) e in
    let m = mark_takes from b.0.0 b.0.1 behind.left b.1 in
    subst (λ (y : OffsetEntry × Unread). Passes (entry_bytes y.0) kind y.1 × IsEntry y.0) (ok_is (Mark b.0.0, b.0.1) (entry, next) b.2) (Passes-then (2 ∷ []) (mark_bytes b.0.0) kind from b.0.1 behind m.0, m.1)

abbrev not_stored : ℕ × Unread → Read OffsetEntry
not_stored kind = cond (eqb kind.0 2) (marked_at kind.1) (Err (BadKind kind.0))

abbrev entry_of_kind : ℕ × Unread → Read OffsetEntry
entry_of_kind kind = cond (eqb kind.0 1) (stored_at kind.1) (not_stored kind)

pub entry_takes : (from : Unread) (entry : OffsetEntry) (next : Unread) → AreBytes from.rest → entry_at from ≡ Ok (entry, next) → Passes (entry_bytes entry) from next × IsEntry entry
unfolding entry_at
entry_takes from entry next fits e =
    let b = bind_ok (byte_at from) entry_of_kind (entry, next) e in
    let kind = byte_takes from b.0.0 b.0.1 fits b.1 in
    let is : (k : ℕ) → eqb b.0.0 k ≡ true → Passes (k ∷ []) from b.0.1 = λ k same. subst (λ (x : ℕ). Passes (x ∷ []) from b.0.1) (eqb-true b.0.0 k same) kind in
    ⊎_elim
    (λ stored. stored_takes from b.0.1 entry next (is 1 stored.0) stored.1)
    (λ other. ⊎_elim
    (λ marked. marked_takes from b.0.1 entry next (is 2 marked.0) marked.1)
    (λ bad. absurd (no_value (BadKind b.0.0) (entry, next) bad.1))
    (chosen (eqb b.0.0 2) (marked_at b.0.1) (Err (BadKind b.0.0)) (done (entry, next)) other.1))
    (chosen (eqb b.0.0 1) (stored_at b.0.1) (not_stored b.0) (done (entry, next)) b.2)

pub entry_again : (entry : OffsetEntry) → IsEntry entry → (from next : Unread) → Takes (entry_bytes entry) from next → entry_at from ≡ Ok (entry, next)
unfolding entry_at stored_at marked_at
entry_again (Records tag records) is from next takes = kind_again 1 (tag_bytes tag ++ records_bytes records) entry_of_kind (Records tag records, next) from next takes
    (λ mid there. both_again tag_at records_at Records tag_bytes records_bytes IsTag AreRecords tag_takes records_takes tag_again records_again tag records is.0 is.1 mid next there)
entry_again (Mark mark) is from next takes = kind_again 2 (mark_bytes mark) entry_of_kind (Mark mark, next) from next takes
    (λ mid there. ap (λ r. r >>= λ (m : TheMark × Unread). done (Mark m.0, m.1)) (mark_again mark is mid next there))

-- an entry is seen as itself
abbrev pub itself : OffsetEntry → OffsetEntry
itself entry = entry
