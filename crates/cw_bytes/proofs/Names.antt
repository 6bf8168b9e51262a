-- Names: what is read is spelled so, and what is spelled so is read.
use Rattle.std.proofs.Common.{◌≡◌, ℕ, List, Option, Some, None, Ok, refl, ap, subst, ◌∙◌, arith}
use Rattle.std.proofs.lemmas.Bool.Decides.{nat_tests}
use Rattle.cw_types.specs.Name.{IsName, name_fault}
use Rattle.cw_types.specs.declared.name.NameFault.{NameFault}
use Rattle.cw_bytes.specs.Unread.{Unread, AreBytes, Takes}
use Rattle.cw_bytes.specs.Spelling.{text, IsText}
use Rattle.cw_bytes.specs.Reading.{◌>>=◌, text_at, named, name_at}
use Rattle.cw_bytes.proofs.Steps.{bind_ok, ok_is, Passes}
use Rattle.cw_bytes.proofs.Widths.{text_takes, text_again}

pub name_short : (bytes : List ℕ) → IsName bytes → IsText bytes
name_short bytes is = grind (arith, nat_tests)

named_ok : (place : ℕ) (t : List ℕ × Unread) (fault : Option NameFault) (y : List ℕ × Unread) → named place t fault ≡ Ok y → (fault ≡ None) × (t ≡ y)
named_ok place t None y e = (refl, ok_is t y e)
named_ok place t (Some fault) y e = absurd cc

pub name_takes : (from : Unread) (t : List ℕ) (next : Unread) → AreBytes from.rest → name_at from ≡ Ok (t, next) → Passes (text t) from next × IsName t
unfolding name_at
name_takes from t next fits e =
    let b = bind_ok (text_at from) (λ t. named from.place t (name_fault t.0)) (t, next) e in
    let n = named_ok from.place b.0 (name_fault b.0.0) (t, next) b.2 in
    subst (λ (y : List ℕ × Unread). Passes (text y.0) from y.1 × IsName y.0) n.1 ((text_takes from b.0.0 b.0.1 fits b.1).0, n.0)

pub name_again : (t : List ℕ) → IsName t → (from next : Unread) → Takes (text t) from next → name_at from ≡ Ok (t, next)
unfolding name_at
name_again t is from next takes =
    ap (λ r. r >>= λ (t : List ℕ × Unread). named from.place t (name_fault t.0)) (text_again t (name_short t is) from next takes)
    ∙ ap (λ o. named from.place (t, next) o) is
