-- The test of sameness decides equality, and the derived order of items is their order.
use Rattle.std.proofs.Common.{◌≡◌, ℕ, ◌==◌, Bool, true, false, ◌&&◌, ◌||◌, cond, List, refl, sym, ap, ◌∙◌, subst, arith, Ordering}
use Rattle.std.specs.declared.cmp.Ordering.TheVariants.{Less, Equal, Greater}
use Rattle.std.specs.Ordering.{is_eq, nat_cmp, ordering_then}
use Rattle.std.specs.Bool.{Decides}
use Rattle.std.specs.Str.{bytes_eq}
use Rattle.std.specs.List.{list_any, IsDistinct}
use Rattle.std.proofs.lemmas.Map.Keys.{IsDistinct-from_sorted}
use Rattle.std.specs.BTreeMap.{is_at}
use Rattle.std.specs.BTreeSet.{insert_key}
use Rattle.std.specs.List.Sorted.{IsStrictlySortedBy}
use Rattle.std.specs.Cmp.Lexicographic.{slice_cmp}
use Rattle.std.proofs.lemmas.Bool.Decides.{nat_tests, Decides-and, Decides-like, Decides-eqb, Decides-at, same_from_decides}
use Rattle.std.proofs.lemmas.Slice.Eq.{bytes_eq-Decides}
use Rattle.std.proofs.lemmas.Map.Text.{is_eq-slice_cmp}
use mathlib.Core.Path.{fun_ext}
use Rattle.cw_types.specs.declared.ids.TaskId.{TaskId}
use Rattle.cw_types.specs.declared.ids.Item.{Item}
use Rattle.cw_types.specs.declared.ids.Item.TheVariants.{Connector, Task}
use Rattle.cw_types.specs.contracts.ids.ItemOrd.TheImpl as item_ord
use Rattle.cw_types.specs.Order.{item_cmp}
use Rattle.cw_assign.specs.Items.{same_item, has}

never : {P : Type 0} → (P → ⊥) → Decides false P
never apart = (λ e. cc, λ p. absurd (apart p))

is_eq-then : (o p : Ordering) → is_eq (ordering_then o p) ≡ (is_eq o && is_eq p)
is_eq-then Less p = refl
is_eq-then Equal p = refl
is_eq-then Greater p = refl

is_eq-nat_cmp : (a b : ℕ) → is_eq (nat_cmp a b) ≡ (a == b)
is_eq-nat_cmp a b = grind (arith, nat_tests)

both : (o p : Ordering) (x y : Bool) → is_eq o ≡ x → is_eq p ≡ y → is_eq (ordering_then o p) ≡ (x && y)
both o p x y first second = is_eq-then o p ∙ ap (λ b. b && is_eq p) first ∙ ap (λ b. x && b) second

task-Decides : (a b : TaskId) → Decides (bytes_eq a.connector b.connector && (a.index == b.index)) (Task a ≡ Task b)
task-Decides a b = Decides-like (bytes_eq a.connector b.connector && (a.index == b.index))
    (λ pq. ap (λ (n : List ℕ). Task (record { connector = n; index = a.index })) pq.0 ∙ ap (λ (i : ℕ). Task (record { connector = b.connector; index = i })) pq.1)
    (λ e. (ap connector_in e, ap index_in e))
    (Decides-and (bytes_eq a.connector b.connector) (a.index == b.index) (bytes_eq-Decides a.connector b.connector) (Decides-eqb a.index b.index)) where
      connector_in : Item → List ℕ
      connector_in (Task id) = id.connector
      connector_in (Connector name) = name

      index_in : Item → ℕ
      index_in (Task id) = id.index
      index_in (Connector name) = 0

-- two items are the same exactly where they are equal
pub same_item-Decides : (a b : Item) → Decides (same_item a b) (a ≡ b)
same_item-Decides (Connector a) (Connector b) = Decides-at (is_eq (slice_cmp nat_cmp a b)) (bytes_eq a b) (is_eq-slice_cmp a b) (Decides-like (bytes_eq a b) (ap Connector) (λ e. cc) (bytes_eq-Decides a b))
same_item-Decides (Connector a) (Task b) = never (λ e. cc)
same_item-Decides (Task a) (Connector b) = never (λ e. cc)
same_item-Decides (Task a) (Task b) = Decides-at (same_item (Task a) (Task b)) (bytes_eq a.connector b.connector && (a.index == b.index))
    (both (slice_cmp nat_cmp a.connector b.connector) (nat_cmp a.index b.index) (bytes_eq a.connector b.connector) (a.index == b.index) (is_eq-slice_cmp a.connector b.connector) (is_eq-nat_cmp a.index b.index))
    (task-Decides a b)

pub same_item-flip : (a b : Item) → same_item a b ≡ same_item b a
same_item-flip a b = same_from_decides (same_item a b) (same_item b a) (same_item-Decides a b) (Decides-like (same_item b a) sym sym (same_item-Decides b a))

cmp_same : (a b : Item) → item_ord.cmp-value.it a b ≡ item_cmp a b
cmp_same (Connector a) (Connector b) = refl
cmp_same (Connector a) (Task b) = refl
cmp_same (Task a) (Connector b) = refl
cmp_same (Task a) (Task b) = refl

-- the derived order is the order of items
pub derived_is_item_cmp : item_ord.cmp-value.it ≡ item_cmp
derived_is_item_cmp = fun_ext (λ a. fun_ext (λ b. cmp_same a b))

found : (b c : Bool) → cond b true c ≡ (c || b)
found true true = refl
found true false = refl
found false true = refl
found false false = refl

-- one item more in a set
pub has-inserted : (old new : List Item) (item : Item)
    → ((q : Item) → list_any (is_at (item_ord.cmp-value.it q)) new ≡ cond (is_at (item_ord.cmp-value.it item) q) true (list_any (is_at (item_ord.cmp-value.it q)) old))
    → (x : Item) → has new x ≡ (has old x || same_item x item)
has-inserted old new item set x =
    let set' = subst (λ (cmp : Item → Item → Ordering). (q : Item) → list_any (is_at (cmp q)) new ≡ cond (is_at (cmp item) q) true (list_any (is_at (cmp q)) old)) derived_is_item_cmp set in
    set' x ∙ found (same_item item x) (has old x) ∙ ap (λ b. has old x || b) (same_item-flip item x)

pub keys-inserted : (old new : List Item) (item : Item) → new ≡ insert_key item_ord.cmp-value.it old item → new ≡ insert_key item_cmp old item
keys-inserted old new item is = is ∙ ap (λ (cmp : Item → Item → Ordering). insert_key cmp old item) derived_is_item_cmp

pub rising-items : (keys : List Item) → IsStrictlySortedBy item_ord.cmp-value.it keys → IsStrictlySortedBy item_cmp keys
rising-items keys = subst (λ (cmp : Item → Item → Ordering). IsStrictlySortedBy cmp keys) derived_is_item_cmp

-- items that rise are distinct
pub once_rising : (items : List Item) → IsStrictlySortedBy item_cmp items → IsDistinct same_item items
once_rising items rising = IsDistinct-from_sorted item_cmp items rising
