use Rattle.std.proofs.Common.{◌≡◌, ◌≤◌, ◌∙◌, List, length, get_or, map, ℕ, All, Some, sym, ap, subst, arith}
use Rattle.std.proofs.lemmas.List.Elements.{All-map}
use Rattle.cw_types.specs.declared.ids.PartKey.{PartKey}
use Rattle.cw_txn.specs.declared.entry.SetOffset.{SetOffset}
use Rattle.cw_types.specs.Same.{connector_of}
use Rattle.cw_txn.proofs.Noted.{part_set}
use Rattle.cw_txn.proofs.Mapped.{All-of_map}
use Rattle.cw_txn.proofs.owning.are_of_one_connector.Goals as goal

some_is : (x y : List ℕ) → Some x ≡ Some y → x ≡ y
some_is x y e = cc

-- the connector that all parts have is the first one's
first_owns : (list : List SetOffset) (first : SetOffset) (connector x : List ℕ) → first ≡ get_or list 0 first → 1 ≤ length list → Some connector ≡ connector_of first.part
    → All (λ (part : PartKey). connector_of part ≡ Some x) (map part_set list) → All (λ (set : SetOffset). connector_of set.part ≡ Some connector) list
first_owns list first connector x is some own all =
    let each = All-of_map (λ (part : PartKey). connector_of part ≡ Some x) part_set list all in
    let here : connector_of first.part ≡ Some x = ap (λ (s : SetOffset). connector_of s.part) is ∙ each 0 first (omega arith) in
    subst (λ (y : List ℕ). All (λ (set : SetOffset). connector_of set.part ≡ Some y) list) (some_is x connector (sym here ∙ sym own)) each

pub returns-in-Some : goal.returns-in-Some
returns-in-Some c = (
  λ yes. (c.in-Some.connector.now, All-map (λ (part : PartKey). connector_of part ≡ Some c.in-Some.connector.now) part_set c.args.list.now (c.are_of.ensures.0 yes)),
  λ own. c.are_of.ensures.1 (first_owns c.args.list.now c.first-item.result c.in-Some.connector.now own.0 c.first-item.is c.in-len1-up.len_at_least c.in-Some.ensures own.1),
)
