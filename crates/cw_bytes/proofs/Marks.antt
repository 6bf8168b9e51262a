-- Marks: what is read is spelled so, and what is spelled so is read.
use Rattle.std.proofs.Common.{◌≡◌, ℕ, Bool, true, false, cond, eqb, [], ◌∷◌, Ok, Err, ap, subst, ⊎_elim}
use Rattle.std.specs.Bool.{⊤}
use Rattle.std.proofs.lemmas.Bool.{eqb-true}
use Rattle.cw_types.specs.declared.ids.Tag.{Tag}
use Rattle.cw_bytes.specs.declared.fault.FieldFault.TheVariants.{BadKind}
use Rattle.cw_bytes.specs.declared.mark.Mark.{Mark}
use Rattle.cw_bytes.specs.Unread.{Unread, AreBytes, Takes}
use Rattle.cw_bytes.specs.Spelling.{tag_bytes, flag_bytes, mark_bytes, IsTag, IsMark}
use Rattle.cw_bytes.specs.Reading.{◌>>=◌, Read, byte_at, tag_at, flag_at, mark_at}
use Rattle.cw_bytes.proofs.Steps.{bind_ok, chosen, done, ok_is, no_value, Passes, both_takes, both_again, byte_takes, byte_again}
use Rattle.cw_bytes.proofs.Producers.{tag_takes, tag_again}

-- each flag has bytes
abbrev IsFlag : Bool → Type 0
IsFlag flag = ⊤

abbrev not_zero : ℕ × Unread → Read Bool
not_zero kind = cond (eqb kind.0 1) (Ok (true, kind.1)) (Err (BadKind kind.0))

abbrev flag_of_kind : ℕ × Unread → Read Bool
flag_of_kind kind = cond (eqb kind.0 0) (Ok (false, kind.1)) (not_zero kind)

flag_takes : (from : Unread) (flag : Bool) (next : Unread) → AreBytes from.rest → flag_at from ≡ Ok (flag, next) → Passes (flag_bytes flag) from next × IsFlag flag
unfolding flag_at
flag_takes from flag next fits e =
    let b = bind_ok (byte_at from) flag_of_kind (flag, next) e in
    let kind = byte_takes from b.0.0 b.0.1 fits b.1 in
    let is : (k : ℕ) → eqb b.0.0 k ≡ true → Passes (k ∷ []) from b.0.1 = λ k same. subst (λ (x : ℕ). Passes (x ∷ []) from b.0.1) (eqb-true b.0.0 k same) kind in
    ⊎_elim
    (λ abort. subst (λ (y : Bool × Unread). Passes (flag_bytes y.0) from y.1 × IsFlag y.0) (ok_is (false, b.0.1) (flag, next) abort.1) (is 0 abort.0, tt))
    (λ other. ⊎_elim
    (λ commit. subst (λ (y : Bool × Unread). Passes (flag_bytes y.0) from y.1 × IsFlag y.0) (ok_is (true, b.0.1) (flag, next) commit.1) (is 1 commit.0, tt))
    (λ bad. absurd (no_value (BadKind b.0.0) (flag, next) bad.1))
    (chosen (eqb b.0.0 1) (Ok (true, b.0.1)) (Err (BadKind b.0.0)) (done (flag, next)) other.1))
    (chosen (eqb b.0.0 0) (Ok (false, b.0.1)) (not_zero b.0) (done (flag, next)) b.2)

flag_again : (flag : Bool) → IsFlag flag → (from next : Unread) → Takes (flag_bytes flag) from next → flag_at from ≡ Ok (flag, next)
unfolding flag_at
flag_again false is from next takes = ap (λ r. r >>= flag_of_kind) (byte_again 0 from next takes)
flag_again true is from next takes = ap (λ r. r >>= flag_of_kind) (byte_again 1 from next takes)

abbrev mark_of : Tag → Bool → Mark
mark_of tag committed = record { tag = tag; committed = committed }

pub mark_takes : (from : Unread) (mark : Mark) (next : Unread) → AreBytes from.rest → mark_at from ≡ Ok (mark, next) → Passes (mark_bytes mark) from next × IsMark mark
unfolding mark_at
mark_takes from mark next fits e =
    let b = both_takes tag_at flag_at mark_of tag_bytes flag_bytes IsTag IsFlag tag_takes flag_takes tag_again flag_again from mark next fits e in
    subst (λ (m : Mark). Passes (mark_bytes m) from next × IsMark m) b.made (b.passes, b.has_a)

pub mark_again : (mark : Mark) → IsMark mark → (from next : Unread) → Takes (mark_bytes mark) from next → mark_at from ≡ Ok (mark, next)
unfolding mark_at
mark_again mark is from next takes = both_again tag_at flag_at mark_of tag_bytes flag_bytes IsTag IsFlag tag_takes flag_takes tag_again flag_again mark.tag mark.committed is tt from next takes
