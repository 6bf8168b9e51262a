-- The order of items is total.
use Rattle.std.proofs.Common.{◌≡◌, ℕ, List, refl, subst, Ordering}
use Rattle.std.specs.declared.cmp.Ordering.TheVariants.{Less, Equal, Greater}
use Rattle.std.specs.Ordering.{nat_cmp, ordering_then, then_cmp, on}
use Rattle.std.specs.Cmp.{IsTotalOrder, then_total, on_total, nat_cmp_total}
use Rattle.std.specs.Cmp.Lexicographic.{slice_cmp, nat_list_cmp_total}
use mathlib.Core.Path.{fun_ext}
use Rattle.cw_types.specs.declared.ids.Item.{Item}
use Rattle.cw_types.specs.declared.ids.Item.TheVariants.{Connector, Task}
use Rattle.cw_types.specs.Order.{item_cmp}

abbrev rank : Item → ℕ
rank (Connector name) = 0
rank (Task id) = 1

abbrev name_in : Item → List ℕ
name_in (Connector name) = name
name_in (Task id) = id.connector

abbrev index_in : Item → ℕ
index_in (Connector name) = 0
index_in (Task id) = id.index

abbrev by_parts : Item → Item → Ordering
by_parts = then_cmp (on rank nat_cmp) (then_cmp (on name_in (slice_cmp nat_cmp)) (on index_in nat_cmp))

then-equal : (o : Ordering) → ordering_then o Equal ≡ o
then-equal Less = refl
then-equal Equal = refl
then-equal Greater = refl

same_order : (a b : Item) → by_parts a b ≡ item_cmp a b
same_order (Connector a) (Connector b) = then-equal (slice_cmp nat_cmp a b)
same_order (Connector a) (Task b) = refl
same_order (Task a) (Connector b) = refl
same_order (Task a) (Task b) = refl

pub item_total : IsTotalOrder item_cmp
item_total = subst (λ (cmp : Item → Item → Ordering). IsTotalOrder cmp) (fun_ext (λ a. fun_ext (λ b. same_order a b)))
    (then_total (on_total rank nat_cmp_total) (then_total (on_total name_in nat_list_cmp_total) (on_total index_in nat_cmp_total)))
