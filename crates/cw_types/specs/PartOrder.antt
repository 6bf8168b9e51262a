-- The order of parts as keys of a table (this project's own): scripts' parts come first, and each connector's parts
-- stand side by side, by kind and then by name or number.
use Rattle.std.specs.Prelude.{◌≡◌, ℕ, Bool, false, ◌&&◌, List, [], refl}
use Rattle.std.specs.declared.cmp.Ordering.{Ordering}
use Rattle.std.specs.declared.cmp.Ordering.TheVariants.{Less, Equal, Greater}
use Rattle.std.specs.Ordering.{is_eq, nat_cmp, ordering_then, then_cmp, on, eq_by_cmp}
use Rattle.std.specs.Cmp.{IsTotalOrder, then_total, on_total, nat_cmp_total, unsigned_ties}
use Rattle.std.specs.Cmp.Lexicographic.{slice_cmp, nat_list_cmp_total, texts_ties}
use Rattle.std.proofs.Common.{ap, ◌∙◌}
use Rattle.cw_types.specs.declared.ids.PartKey.{PartKey}
use Rattle.cw_types.specs.declared.ids.PartKey.TheVariants.{Raw, File, Seq, Sink}
use Rattle.cw_types.specs.contracts.ids.PartKeyPartialEq.TheImpl as part_partial_eq

-- the name of its connector, which a part of a script hasn't
abbrev pub owner : PartKey → List ℕ
owner (Raw n) = []
owner (File a f) = a
owner (Seq a i) = a
owner (Sink a t) = a

-- its kind
abbrev pub kind : PartKey → ℕ
kind (Raw n) = 0
kind (Seq a i) = 1
kind (File a f) = 2
kind (Sink a t) = 3

-- the name of its feed or topic
abbrev pub label : PartKey → List ℕ
label (Raw n) = []
label (File a f) = f
label (Seq a i) = []
label (Sink a t) = t

-- its number
abbrev pub number : PartKey → ℕ
number (Raw n) = n
number (File a f) = 0
number (Seq a i) = i
number (Sink a t) = 0

abbrev pub part_cmp : PartKey → PartKey → Ordering
part_cmp = then_cmp (on owner (slice_cmp nat_cmp))
    (then_cmp (on kind nat_cmp) (then_cmp (on label (slice_cmp nat_cmp)) (on number nat_cmp)))

-- it is a total order
pub part_total : IsTotalOrder part_cmp
part_total = then_total (on_total owner nat_list_cmp_total)
    (then_total (on_total kind nat_cmp_total)
    (then_total (on_total label nat_list_cmp_total) (on_total number nat_cmp_total)))

-- two answers one behind the other tie where both do
both : (o p : Ordering) (x y : Bool) → x ≡ is_eq o → y ≡ is_eq p → (x && y) ≡ is_eq (ordering_then o p)
both Less p x y first second = ap (λ (b : Bool). b && y) first
both Equal p x y first second = ap (λ (b : Bool). b && y) first ∙ second
both Greater p x y first second = ap (λ (b : Bool). b && y) first

alone : (o : Ordering) → is_eq o ≡ is_eq (ordering_then o Equal)
alone Less = refl
alone Equal = refl
alone Greater = refl

never : (o p : Ordering) → false ≡ is_eq p → false ≡ is_eq (ordering_then o p)
never Less p apart = refl
never Equal p apart = apart
never Greater p apart = refl

-- it ties just what is equal
pub part_ties : (a b : PartKey) → part_partial_eq.eq-value.it a b ≡ eq_by_cmp part_cmp a b
part_ties (Raw a) (Raw b) = unsigned_ties a b
part_ties (Raw a) (File b g) = never (slice_cmp nat_cmp [] b) Less refl
part_ties (Raw a) (Seq b j) = never (slice_cmp nat_cmp [] b) Less refl
part_ties (Raw a) (Sink b u) = never (slice_cmp nat_cmp [] b) Less refl
part_ties (File a f) (Raw b) = never (slice_cmp nat_cmp a []) Greater refl
part_ties (File a f) (File b g) = both (slice_cmp nat_cmp a b)
    (ordering_then (slice_cmp nat_cmp f g) Equal) _ _ (texts_ties a b) (texts_ties f g ∙ alone (slice_cmp nat_cmp f g))
part_ties (File a f) (Seq b j) = never (slice_cmp nat_cmp a b) Greater refl
part_ties (File a f) (Sink b u) = never (slice_cmp nat_cmp a b) Less refl
part_ties (Seq a i) (Raw b) = never (slice_cmp nat_cmp a []) Greater refl
part_ties (Seq a i) (File b g) = never (slice_cmp nat_cmp a b) Less refl
part_ties (Seq a i) (Seq b j) = both (slice_cmp nat_cmp a b) (nat_cmp i j) _ _ (texts_ties a b) (unsigned_ties i j)
part_ties (Seq a i) (Sink b u) = never (slice_cmp nat_cmp a b) Less refl
part_ties (Sink a t) (Raw b) = never (slice_cmp nat_cmp a []) Greater refl
part_ties (Sink a t) (File b g) = never (slice_cmp nat_cmp a b) Greater refl
part_ties (Sink a t) (Seq b j) = never (slice_cmp nat_cmp a b) Greater refl
part_ties (Sink a t) (Sink b u) = both (slice_cmp nat_cmp a b)
    (ordering_then (slice_cmp nat_cmp t u) Equal) _ _ (texts_ties a b) (texts_ties t u ∙ alone (slice_cmp nat_cmp t u))
