-- The tests of sameness decide equality, and the tables' orders agree with them.
use Rattle.std.proofs.Common.{◌≡◌, ℕ, ◌==◌, Bool, true, false, ◌&&◌, List, [], refl, sym, ap, ◌∙◌, arith, Ordering}
use Rattle.std.specs.declared.cmp.Ordering.TheVariants.{Less, Equal, Greater}
use Rattle.std.specs.Ordering.{is_eq, nat_cmp, ordering_then}
use Rattle.std.specs.Bool.{Decides}
use Rattle.std.specs.Str.{bytes_eq}
use Rattle.std.specs.BTreeMap.{is_at}
use Rattle.std.specs.Cmp.Lexicographic.{slice_cmp}
use Rattle.std.proofs.lemmas.Bool.Decides.{nat_tests, Decides-and, Decides-like, Decides-eqb, same_from_decides}
use Rattle.std.proofs.lemmas.Slice.Eq.{bytes_eq-Decides}
use Rattle.std.proofs.lemmas.Map.Text.{is_eq-slice_cmp}
use Rattle.cw_types.specs.declared.ids.Tid.{Tid}
use Rattle.cw_types.specs.declared.ids.Tid.TheVariants.{Lead, Task, Raw as RawId}
use Rattle.cw_types.specs.declared.ids.Tag.{Tag}
use Rattle.cw_types.specs.declared.ids.PartKey.{PartKey}
use Rattle.cw_types.specs.declared.ids.PartKey.TheVariants.{Raw, File, Seq, Sink}
use Rattle.cw_types.specs.PartOrder.{part_ties}
use Rattle.cw_types.specs.Same.{same_tid, same_tag, same_part, tid_order, tag_order, part_order, tid_eq, tag_eq, part_eq}

never : {P : Type 0} → (P → ⊥) → Decides false P
never apart = (λ e. cc, λ p. absurd (apart p))

-- one decision of two values
pub two : {P Q R : Type 0} (x y : Bool) → Decides x P → Decides y Q → (P → Q → R) → (R → P × Q) → Decides (x && y) R
two x y p q there back = Decides-like (x && y) (λ pq. there pq.0 pq.1) back (Decides-and x y p q)

-- the name and the number of a task's producer
abbrev connector_in : Tid → List ℕ
connector_in (Task id) = id.connector
connector_in Lead = []
connector_in (RawId n) = []

abbrev index_in : Tid → ℕ
index_in (Task id) = id.index
index_in Lead = 0
index_in (RawId n) = 0

pub same_tid-Decides : (a b : Tid) → Decides (same_tid a b) (a ≡ b)
same_tid-Decides Lead Lead = (λ _. refl, λ _. refl)
same_tid-Decides Lead (Task b) = never (λ e. cc)
same_tid-Decides Lead (RawId b) = never (λ e. cc)
same_tid-Decides (Task a) Lead = never (λ e. cc)
same_tid-Decides (Task a) (Task b) = two (bytes_eq a.connector b.connector) (a.index == b.index) (bytes_eq-Decides a.connector b.connector) (Decides-eqb a.index b.index)
    (λ p q. ap (λ (n : List ℕ). Task (record { connector = n; index = a.index })) p ∙ ap (λ (i : ℕ). Task (record { connector = b.connector; index = i })) q) (λ e. (ap connector_in e, ap index_in e))
same_tid-Decides (Task a) (RawId b) = never (λ e. cc)
same_tid-Decides (RawId a) Lead = never (λ e. cc)
same_tid-Decides (RawId a) (Task b) = never (λ e. cc)
same_tid-Decides (RawId a) (RawId b) = Decides-like (a == b) (ap RawId) (λ e. cc) (Decides-eqb a b)

pub same_part-Decides : (a b : PartKey) → Decides (same_part a b) (a ≡ b)
same_part-Decides (Raw a) (Raw b) = Decides-like (a == b) (ap Raw) (λ e. cc) (Decides-eqb a b)
same_part-Decides (Raw a) (File b g) = never (λ e. cc)
same_part-Decides (Raw a) (Seq b g) = never (λ e. cc)
same_part-Decides (Raw a) (Sink b g) = never (λ e. cc)
same_part-Decides (File a f) (Raw b) = never (λ e. cc)
same_part-Decides (File a f) (File b g) = two (bytes_eq a b) (bytes_eq f g) (bytes_eq-Decides a b) (bytes_eq-Decides f g) (λ p q. cc) (λ e. (cc, cc))
same_part-Decides (File a f) (Seq b g) = never (λ e. cc)
same_part-Decides (File a f) (Sink b g) = never (λ e. cc)
same_part-Decides (Seq a f) (Raw b) = never (λ e. cc)
same_part-Decides (Seq a f) (File b g) = never (λ e. cc)
same_part-Decides (Seq a f) (Seq b g) = two (bytes_eq a b) (f == g) (bytes_eq-Decides a b) (Decides-eqb f g) (λ p q. cc) (λ e. (cc, cc))
same_part-Decides (Seq a f) (Sink b g) = never (λ e. cc)
same_part-Decides (Sink a f) (Raw b) = never (λ e. cc)
same_part-Decides (Sink a f) (File b g) = never (λ e. cc)
same_part-Decides (Sink a f) (Seq b g) = never (λ e. cc)
same_part-Decides (Sink a f) (Sink b g) = two (bytes_eq a b) (bytes_eq f g) (bytes_eq-Decides a b) (bytes_eq-Decides f g) (λ p q. cc) (λ e. (cc, cc))

pub same_tag-Decides : (a b : Tag) → Decides (same_tag a b) (a ≡ b)
same_tag-Decides a b =
    two (same_tid a.tid b.tid && (a.epoch.0 == b.epoch.0)) (a.number == b.number)
    (Decides-and (same_tid a.tid b.tid) (a.epoch.0 == b.epoch.0) (same_tid-Decides a.tid b.tid) (Decides-eqb a.epoch.0 b.epoch.0))
    (Decides-eqb a.number b.number)
    (λ p n. ap (λ (t : Tid). record { tid = t; epoch = a.epoch; number = a.number }) p.0 ∙ ap (λ (m : ℕ). record { tid = b.tid; epoch = record { 0 = m }; number = a.number }) p.1 ∙ ap (λ (m : ℕ). record { tid = b.tid; epoch = b.epoch; number = m }) n) (λ e. ((ap (λ t. t.tid) e, ap (λ t. t.epoch.0) e), ap (λ t. t.number) e))

is_eq-then : (o p : Ordering) → is_eq (ordering_then o p) ≡ (is_eq o && is_eq p)
is_eq-then Less p = refl
is_eq-then Equal p = refl
is_eq-then Greater p = refl

is_eq-nat_cmp : (a b : ℕ) → is_eq (nat_cmp a b) ≡ (a == b)
is_eq-nat_cmp a b = grind (arith, nat_tests)

both : (o p : Ordering) (x y : Bool) → is_eq o ≡ x → is_eq p ≡ y → is_eq (ordering_then o p) ≡ (x && y)
both o p x y first second = is_eq-then o p ∙ ap (λ b. b && is_eq p) first ∙ ap (λ b. x && b) second

pub tid_at : (a b : Tid) → is_at (tid_order a) b ≡ same_tid a b
tid_at Lead Lead = refl
tid_at Lead (Task b) = refl
tid_at Lead (RawId b) = refl
tid_at (Task a) Lead = refl
tid_at (Task a) (Task b) = both (slice_cmp nat_cmp a.connector b.connector) (nat_cmp a.index b.index) (bytes_eq a.connector b.connector) (a.index == b.index) (is_eq-slice_cmp a.connector b.connector) (is_eq-nat_cmp a.index b.index)
tid_at (Task a) (RawId b) = refl
tid_at (RawId a) Lead = refl
tid_at (RawId a) (Task b) = refl
tid_at (RawId a) (RawId b) = is_eq-nat_cmp a b

turned : (x y z : Bool) → (z && (y && x)) ≡ (x && y && z)
turned true true true = refl
turned true true false = refl
turned true false true = refl
turned true false false = refl
turned false true true = refl
turned false true false = refl
turned false false true = refl
turned false false false = refl

pub tag_at : (a b : Tag) → is_at (tag_order a) b ≡ same_tag a b
tag_at a b =
    both (nat_cmp a.number b.number) (ordering_then (nat_cmp a.epoch.0 b.epoch.0) (tid_order a.tid b.tid)) (a.number == b.number) ((a.epoch.0 == b.epoch.0) && same_tid a.tid b.tid)
    (is_eq-nat_cmp a.number b.number)
    (both (nat_cmp a.epoch.0 b.epoch.0) (tid_order a.tid b.tid) (a.epoch.0 == b.epoch.0) (same_tid a.tid b.tid) (is_eq-nat_cmp a.epoch.0 b.epoch.0) (tid_at a.tid b.tid))
    ∙ turned (same_tid a.tid b.tid) (a.epoch.0 == b.epoch.0) (a.number == b.number)

-- sameness in the other direction
pub same_tid-flip : (a b : Tid) → same_tid a b ≡ same_tid b a
same_tid-flip a b = same_from_decides (same_tid a b) (same_tid b a) (same_tid-Decides a b) (Decides-like (same_tid b a) sym sym (same_tid-Decides b a))

pub same_tag-flip : (a b : Tag) → same_tag a b ≡ same_tag b a
same_tag-flip a b = same_from_decides (same_tag a b) (same_tag b a) (same_tag-Decides a b) (Decides-like (same_tag b a) sym sym (same_tag-Decides b a))

pub same_part-flip : (a b : PartKey) → same_part a b ≡ same_part b a
same_part-flip a b = same_from_decides (same_part a b) (same_part b a) (same_part-Decides a b) (Decides-like (same_part b a) sym sym (same_part-Decides b a))

-- the tests of a table by hashes are sameness
pub tid_eq_is : (a b : Tid) → tid_eq a b ≡ same_tid a b
tid_eq_is Lead Lead = refl
tid_eq_is Lead (Task b) = refl
tid_eq_is Lead (RawId b) = refl
tid_eq_is (Task a) Lead = refl
tid_eq_is (Task a) (Task b) = refl
tid_eq_is (Task a) (RawId b) = refl
tid_eq_is (RawId a) Lead = refl
tid_eq_is (RawId a) (Task b) = refl
tid_eq_is (RawId a) (RawId b) = refl

pub part_eq_is : (a b : PartKey) → part_eq a b ≡ same_part a b
part_eq_is (Raw a) (Raw b) = refl
part_eq_is (Raw a) (File b g) = refl
part_eq_is (Raw a) (Seq b g) = refl
part_eq_is (Raw a) (Sink b g) = refl
part_eq_is (File a f) (Raw b) = refl
part_eq_is (File a f) (File b g) = refl
part_eq_is (File a f) (Seq b g) = refl
part_eq_is (File a f) (Sink b g) = refl
part_eq_is (Seq a f) (Raw b) = refl
part_eq_is (Seq a f) (File b g) = refl
part_eq_is (Seq a f) (Seq b g) = refl
part_eq_is (Seq a f) (Sink b g) = refl
part_eq_is (Sink a f) (Raw b) = refl
part_eq_is (Sink a f) (File b g) = refl
part_eq_is (Sink a f) (Seq b g) = refl
part_eq_is (Sink a f) (Sink b g) = refl

pub tag_eq_is : (a b : Tag) → tag_eq a b ≡ same_tag a b
tag_eq_is a b =
    ap (λ (t : Bool). (a.number == b.number) && ((a.epoch.0 == b.epoch.0) && t)) (tid_eq_is a.tid b.tid) ∙ turned (same_tid a.tid b.tid) (a.epoch.0 == b.epoch.0) (a.number == b.number)

-- so is the order of parts
pub part_at : (a b : PartKey) → is_at (part_order a) b ≡ same_part a b
part_at a b = sym (part_ties a b) ∙ part_eq_is a b
