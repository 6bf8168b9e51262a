-- The derived tests of equality decide it.
use Rattle.std.proofs.Common.{◌≡◌, ℕ, ◌==◌, ◌&&◌, Option, Some, None, nat_eq, refl, ap, ◌∙◌}
use Rattle.std.specs.Bool.{Decides}
use Rattle.std.specs.Option.{option_eq}
use Rattle.std.proofs.lemmas.Bool.Decides.{Decides-and, Decides-like, Decides-eqb, Decides-at}
use Rattle.cw_types.specs.declared.ids.PartKey.{PartKey}
use Rattle.cw_types.specs.declared.ids.PartKey.TheVariants.{Raw, File, Seq, Sink}
use Rattle.cw_types.specs.declared.ids.Span.{Span}
use Rattle.cw_types.specs.contracts.ids.PartKeyPartialEq.TheImpl as part_eq
use Rattle.cw_types.specs.contracts.ids.SpanPartialEq.TheImpl as span_eq
use Rattle.cw_txn.specs.contracts.entry.SetOffsetPartialEq.TheImpl as set_eq
use Rattle.cw_txn.specs.declared.entry.SetOffset.{SetOffset}
use Rattle.cw_types.specs.Same.{same_part}
use Rattle.cw_types.proofs.SameLemmas.{same_part-Decides, two}

part_same : (a b : PartKey) → part_eq.eq-value.it a b ≡ same_part a b
part_same (Raw a) (Raw b) = refl
part_same (Raw a) (File b g) = refl
part_same (Raw a) (Seq b g) = refl
part_same (Raw a) (Sink b g) = refl
part_same (File a f) (Raw b) = refl
part_same (File a f) (File b g) = refl
part_same (File a f) (Seq b g) = refl
part_same (File a f) (Sink b g) = refl
part_same (Seq a f) (Raw b) = refl
part_same (Seq a f) (File b g) = refl
part_same (Seq a f) (Seq b g) = refl
part_same (Seq a f) (Sink b g) = refl
part_same (Sink a f) (Raw b) = refl
part_same (Sink a f) (File b g) = refl
part_same (Sink a f) (Seq b g) = refl
part_same (Sink a f) (Sink b g) = refl

part-Decides : (a b : PartKey) → Decides (part_eq.eq-value.it a b) (a ≡ b)
part-Decides a b = Decides-at (part_eq.eq-value.it a b) (same_part a b) (part_same a b) (same_part-Decides a b)

pub span-Decides : (a b : Span) → Decides (span_eq.eq-value.it a b) (a ≡ b)
span-Decides a b =
    two (part_eq.eq-value.it a.part b.part) ((a.from == b.from) && (a.to == b.to)) (part-Decides a.part b.part)
    (Decides-and (a.from == b.from) (a.to == b.to) (Decides-eqb a.from b.from) (Decides-eqb a.to b.to))
    (λ p q. ap (λ (x : PartKey). record { part = x; from = a.from; to = a.to }) p ∙ ap (λ (n : ℕ). record { part = b.part; from = n; to = a.to }) q.0 ∙ ap (λ (n : ℕ). record { part = b.part; from = b.from; to = n }) q.1)
    (λ e. (ap (λ s. s.part) e, (ap (λ s. s.from) e, ap (λ s. s.to) e)))

option-Decides : (a b : Option ℕ) → Decides (option_eq nat_eq a b) (a ≡ b)
option-Decides None None = (λ _. refl, λ _. refl)
option-Decides None (Some b) = (λ e. cc, λ e. cc)
option-Decides (Some a) None = (λ e. cc, λ e. cc)
option-Decides (Some a) (Some b) = Decides-like (a == b) (ap Some) (λ e. cc) (Decides-eqb a b)

pub set-Decides : (a b : SetOffset) → Decides (set_eq.eq-value.it a b) (a ≡ b)
set-Decides a b =
    two (part_eq.eq-value.it a.part b.part) (option_eq nat_eq a.to b.to) (part-Decides a.part b.part) (option-Decides a.to b.to)
    (λ p q. ap (λ (x : PartKey). record { part = x; to = a.to }) p ∙ ap (λ (o : Option ℕ). record { part = b.part; to = o }) q)
    (λ e. (ap (λ s. s.part) e, ap (λ s. s.to) e))
