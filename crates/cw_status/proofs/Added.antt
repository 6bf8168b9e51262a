-- What statuses keep behind their steps.
use Rattle.std.proofs.Common.{◌≡◌, ℕ, ◌+◌, Bool, cond, List, [], ◌∷◌, ◌++◌, length, take, drop, suc, drop-cons, add-one, slice_index_or, Contains, Option, None, Some, sym, ap, subst, ◌∙◌, ⊎_elim}
use Rattle.std.specs.BTreeMap.{BTreeMap}
use Rattle.std.proofs.lemmas.List.{take-append-drop, get_or_default}
use Rattle.std.proofs.lemmas.List.Elements.{Contains-push_cases, Contains-append_left, Contains-append_right, Contains-append_cases}
use Rattle.std.proofs.lemmas.List.Sums.{fold-append}
use Rattle.cw_types.specs.declared.ids.Item.{Item}
use Rattle.cw_keys.specs.declared.status.StatusValue.{StatusValue}
use Rattle.cw_status.specs.declared.record.StatusRecord.{StatusRecord}
use Rattle.cw_status.specs.Records.{WithoutFirst}
use Rattle.cw_status.specs.Statuses.{is_item, after_record, latest}
use Rattle.cw_status.specs.Table.{HasRow, status_at, IsFirstAt, IsStatuses}

-- an item's last status behind one more record
pub latest-push : (item : Item) (applied : List StatusRecord) (last : StatusRecord) → latest item (applied ++ last ∷ []) ≡ cond (is_item last.item item) (Some last.value) (latest item applied)
latest-push item applied last = fold-append (after_record item) None applied (last ∷ [])

module _ (table : BTreeMap Item (Option StatusValue)) (applied reserved : List StatusRecord) (was : IsStatuses table applied reserved) where
  -- with more rows
  pub roomier : (now : BTreeMap Item (Option StatusValue)) (same_applied : List StatusRecord) → same_applied ≡ applied → ((q : Item) → status_at now q ≡ status_at table q)
      → ((q : Item) → HasRow table q → HasRow now q) → IsStatuses now same_applied reserved
  roomier now same_applied is same keeps = rw is record {
    kept = λ q. same q ∙ was.kept q;
    rows = λ e there. keeps e.item (was.rows e there);
  }

  -- with a record reserved
  pub reserved_one : (last : StatusRecord) (more : List StatusRecord) → more ≡ reserved ++ last ∷ [] → HasRow table last.item → IsStatuses table applied more
  reserved_one last more is has = rw is record {
    kept = was.kept;
    rows = λ e there. ⊎_elim (λ old. was.rows e old) (λ (one : last ≡ e). subst (λ (x : StatusRecord). HasRow table x.item) one has) (Contains-push_cases reserved last e there);
  }

  -- with less reserved
  pub fewer_reserved : (rest : List StatusRecord) → ((e : StatusRecord) → Contains rest e → Contains reserved e) → IsStatuses table applied rest
  fewer_reserved rest fewer = record {
    kept = was.kept;
    rows = λ e there. was.rows e (fewer e there);
  }

  -- with a record applied
  pub applied_one : (now : BTreeMap Item (Option StatusValue)) (last : StatusRecord) (longer rest : List StatusRecord) → longer ≡ applied ++ last ∷ []
      → ((q : Item) → status_at now q ≡ cond (is_item last.item q) (Some last.value) (status_at table q)) → ((q : Item) → HasRow table q → HasRow now q)
      → ((e : StatusRecord) → Contains rest e → Contains reserved e) → IsStatuses now longer rest
  applied_one now last longer rest is set keeps fewer = rw is record {
    kept = λ q. set q ∙ ap (λ (o : Option StatusValue). cond (is_item last.item q) (Some last.value) o) (was.kept q) ∙ sym (latest-push q applied last);
    rows = λ e there. keeps e.item (was.rows e (fewer e there));
  }

-- what is taken from the first place of a record is that record
pub taken_is : (list : List StatusRecord) (at : ℕ) (last taken : StatusRecord) → IsFirstAt last list at → taken ≡ slice_index_or list at taken → taken ≡ last
taken_is list at last taken first is = is ∙ get_or_default list at taken last first.within ∙ first.there

-- a list without its element at a place
module _ (list rest : List StatusRecord) (at : ℕ) (taken : rest ≡ take at list ++ drop (at + 1) list) where
  pub without : (last : StatusRecord) → IsFirstAt last list at → WithoutFirst last list rest
  without last first = record {
    front = take at list;
    back = drop (at + 1) list;
    split = sym (take-append-drop at list) ∙ ap (λ l. take at list ++ l) (let within = first.within in rw (add-one, drop-cons list at last) (ap (λ (y : StatusRecord). y ∷ drop (suc at) list) first.there));
    first = first.first;
    rest = taken;
  }

  pub fewer : (e : StatusRecord) → Contains rest e → Contains list e
  fewer e there = ⊎_elim
      (λ (front : Contains (take at list) e). subst (λ (l : List StatusRecord). Contains l e) (take-append-drop at list) (Contains-append_left (take at list) (drop at list) e front))
      (λ (back : Contains (drop (at + 1) list) e). subst (λ (l : List StatusRecord). Contains l e) (take-append-drop (at + 1) list) (Contains-append_right (take (at + 1) list) (drop (at + 1) list) e back))
      (Contains-append_cases (take at list) (drop (at + 1) list) e (subst (λ (l : List StatusRecord). Contains l e) taken there))
