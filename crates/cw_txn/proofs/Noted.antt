-- A table with a row for each part of some offsets, and one offset more.
use Rattle.std.proofs.Common.{◌≡◌, ℕ, ◌+◌, ◌<◌, Bool, true, false, ◌||◌, cond, List, length, take, get_or, Option, Some, None, is_some, is_none, refl, sym, ap, ◌∙◌}
use Rattle.std.specs.List.{list_any}
use Rattle.std.specs.BTreeMap.{BTreeMap, get, is_at}
use Rattle.std.proofs.lemmas.List.Folds.{list_any_more}
use Rattle.cw_types.specs.declared.ids.PartKey.{PartKey}
use Rattle.cw_txn.specs.declared.entry.SetOffset.{SetOffset}
use Rattle.cw_types.specs.Same.{same_part, part_order}
use Rattle.cw_txn.specs.Walk.{AreNoted}
use Rattle.cw_types.proofs.SameLemmas.{part_at, same_part-flip}

abbrev pub part_set : SetOffset → PartKey
part_set set = set.part

or_true : (a : Bool) → (a || true) ≡ true
or_true true = refl
or_true false = refl

or_false : (a : Bool) → (a || false) ≡ a
or_false true = refl
or_false false = refl

is_some-cond : (b : Bool) (now was : Option Bool) → now ≡ cond b (Some true) was → is_some now ≡ (is_some was || b)
is_some-cond true now was e = ap is_some e ∙ sym (or_true (is_some was))
is_some-cond false now was e = ap is_some e ∙ sym (or_false (is_some was))

none_noted : (o : Option Bool) → is_none o ≡ true → is_some o ≡ false
none_noted None none = refl
none_noted (Some b) none = cc

some_noted : (o : Option Bool) → is_none o ≡ false → is_some o ≡ true
some_noted None none = cc
some_noted (Some b) none = refl

module _ (list : List SetOffset) (at : ℕ) (set : SetOffset) (within : at < length list) (item : set ≡ get_or list at set) (old : BTreeMap PartKey Bool) (noted : AreNoted old (take at list)) where
  pub noted_more : (new : BTreeMap PartKey Bool) → ((q : PartKey) → get part_order new q ≡ cond (is_at (part_order set.part) q) (Some true) (get part_order old q)) → AreNoted new (take (at + 1) list)
  noted_more new row q =
      is_some-cond (is_at (part_order set.part) q) (get part_order new q) (get part_order old q) (row q)
      ∙ ap (λ (b : Bool). is_some (get part_order old q) || b) (part_at set.part q ∙ same_part-flip set.part q)
      ∙ ap (λ (b : Bool). b || same_part q set.part) (noted q)
      ∙ ap (λ (s : SetOffset). list_any (λ (x : SetOffset). same_part q x.part) (take at list) || same_part q s.part) item
      ∙ sym (list_any_more (λ (x : SetOffset). same_part q x.part) list at set within)

  -- a part without a row is of none of these offsets
  pub is_new : is_none (get part_order old set.part) ≡ true → list_any (λ (x : SetOffset). same_part set.part x.part) (take at list) ≡ false
  is_new none = sym (noted set.part) ∙ none_noted (get part_order old set.part) none

  pub is_old : is_none (get part_order old set.part) ≡ false → list_any (λ (x : SetOffset). same_part set.part x.part) (take at list) ≡ true
  is_old some = sym (noted set.part) ∙ some_noted (get part_order old set.part) some
