use Rattle.std.proofs.Common.{◌≡◌, ◌∙◌, ℕ, Bool, true, false, List, take, get_or, sym, ap, is_some}
use Rattle.std.specs.List.{list_any}
use Rattle.cw_txn.specs.declared.entry.SetOffset.{SetOffset}
use Rattle.cw_types.specs.Same.{same_part, part_order}
use Rattle.std.specs.Map.{lookup}
use Rattle.std.specs.BTreeMap.{is_at}
use Rattle.cw_txn.proofs.DistinctParts.{none_distinct, stay_distinct, not_distinct}
use Rattle.cw_txn.proofs.Noted.{part_set, noted_more, is_new, is_old}
use Rattle.cw_txn.proofs.owning.are_of_distinct_parts.Goals as goal

-- a test of the item's part is one of the element's
at_item : (list : List SetOffset) (at : ℕ) (set : SetOffset) → set ≡ get_or list at set → (b : Bool) → list_any (λ (x : SetOffset). same_part set.part x.part) (take at list) ≡ b
    → list_any (λ (x : SetOffset). same_part (part_set (get_or list at set)) (part_set x)) (take at list) ≡ b
at_item list at set is b e = ap (λ (s : SetOffset). list_any (λ (x : SetOffset). same_part s.part x.part) (take at list)) (sym is) ∙ e

pub loop-set-init : goal.loop-set-init
loop-set-init c = record { distinct = none_distinct; noted = λ part. ap (λ es. is_some (lookup (is_at (part_order part)) es)) c.new-noted.ensures.empty }

pub returns-then-not-first : goal.returns-then-not-first
returns-then-not-first c = (
  λ never. cc,
  λ distinct.
      let none = not_distinct part_set c.args.list.now c.loop-set.set-index c.set-item.result c.loop-set-test.true distinct in
      let old = is_old c.args.list.now c.loop-set.set-index c.set-item.result c.loop-set-test.true c.set-item.is c.loop-set.noted c.loop-set.invariant.noted (sym c.in_ok-first.ensures.new ∙ c.if-not-first.true) in
      sym none ∙ at_item c.args.list.now c.loop-set.set-index c.set-item.result c.set-item.is true old,
)

pub loop-set-preserved : goal.loop-set-preserved
loop-set-preserved c = record {
  distinct = stay_distinct part_set c.args.list.now c.loop-set.set-index c.set-item.result c.loop-set-test.true c.loop-set.invariant.distinct
      (at_item c.args.list.now c.loop-set.set-index c.set-item.result c.set-item.is false (is_new c.args.list.now c.loop-set.set-index c.set-item.result c.loop-set-test.true c.set-item.is c.loop-set.noted c.loop-set.invariant.noted (sym c.in_ok-first.ensures.new ∙ c.if-not-first.false)));
  noted = noted_more c.args.list.now c.loop-set.set-index c.set-item.result c.loop-set-test.true c.set-item.is c.loop-set.noted c.loop-set.invariant.noted c.note.new.noted c.in_ok-first.ensures.noted;
}
