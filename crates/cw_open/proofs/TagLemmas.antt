-- A table with a row for each of some transactions, and one transaction more.
use Rattle.std.proofs.Common.{◌≡◌, Bool, true, false, ◌||◌, cond, List, [], ◌∷◌, ◌++◌, Option, Some, None, is_some, refl, sym, ap, ◌∙◌}
use Rattle.std.specs.List.{list_any}
use Rattle.std.specs.BTreeMap.{BTreeMap, get, is_at}
use Rattle.std.proofs.lemmas.List.Folds.{list_any-append}
use Rattle.cw_types.specs.declared.ids.Tag.{Tag}
use Rattle.cw_types.specs.Same.{same_tag, tag_order}
use Rattle.cw_types.proofs.SameLemmas.{tag_at, same_tag-flip}
use Rattle.cw_open.specs.Tables.{HasTags}

pub or_true : (a : Bool) → (a || true) ≡ true
or_true true = refl
or_true false = refl

pub or_false : (a : Bool) → (a || false) ≡ a
or_false true = refl
or_false false = refl

pub is_some-cond : (b : Bool) (now was : Option Bool) → now ≡ cond b (Some true) was → is_some now ≡ (is_some was || b)
is_some-cond true now was e = ap is_some e ∙ sym (or_true (is_some was))
is_some-cond false now was e = ap is_some e ∙ sym (or_false (is_some was))

pub tag_added : (tags : List Tag) (tag : Tag) (old new : BTreeMap Tag Bool) → HasTags old tags
    → ((q : Tag) → get tag_order new q ≡ cond (is_at (tag_order tag) q) (Some true) (get tag_order old q)) → HasTags new (tags ++ tag ∷ [])
tag_added tags tag old new has row q =
    is_some-cond (is_at (tag_order tag) q) (get tag_order new q) (get tag_order old q) (row q)
    ∙ ap (λ (b : Bool). is_some (get tag_order old q) || b) (tag_at tag q ∙ same_tag-flip tag q)
    ∙ ap (λ (b : Bool). b || same_tag q tag) (has q)
    ∙ ap (λ (b : Bool). list_any (same_tag q) tags || b) (sym (or_false (same_tag q tag)))
    ∙ sym (list_any-append (same_tag q) tags (tag ∷ []))
