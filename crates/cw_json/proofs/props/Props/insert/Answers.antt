use Rattle.std.proofs.Common.{◌≡◌, ◌<◌, ℕ, List, ◌∷◌, ◌++◌, length, set, take, drop, Bool, true, false, Option, Some, None, option_map, refl, sym, ap, ◌∙◌, subst, arith}
use Rattle.std.specs.Option.{is_some}
use Rattle.cw_json.specs.Pairs.{value_in}
use Rattle.cw_json.specs.Rising.{IsRising}
use Rattle.cw_json.specs.Inserting.{with_value}
use Rattle.cw_json.proofs.Pairs.{Pairs}
use Rattle.cw_json.proofs.Inserting.{lesser, rising_with, set_there, set_between}
use Rattle.cw_json.proofs.props.Props.insert.Goals as goal

is_some-map : {A : Type 0} (o : Option A) (f : A → List ℕ) → is_some (option_map f o) ≡ is_some o
is_some-map None f = refl
is_some-map (Some x) f = refl

-- whether the key has a value, as the look-up told it
found_by : {A : Type 0} (o : Option A) (f : A → List ℕ) (items now : Pairs) (key text : List ℕ) (told b : Bool)
    → items ≡ now → text ≡ key → option_map f o ≡ value_in now text → told ≡ is_some o → told ≡ b → is_some (value_in items key) ≡ b
found_by o f items now key text told b same_items same_key looked telling is =
    ap (λ (ps : Pairs). is_some (value_in ps key)) same_items
    ∙ ap (λ (k : List ℕ). is_some (value_in now k)) (sym same_key)
    ∙ ap is_some (sym looked)
    ∙ is_some-map o f
    ∙ sym telling
    ∙ is

place_is : (n : ℕ) (key text : List ℕ) (items read : Pairs) → n ≡ lesser text read → text ≡ key → read ≡ items → n ≡ lesser key items
place_is n key text items read counted same_key same_items = counted ∙ ap (λ (k : List ℕ). lesser k read) same_key ∙ ap (λ (ps : Pairs). lesser key ps) same_items

set_is : (n : ℕ) (key value : List ℕ) (items : Pairs) → n ≡ lesser key items → IsRising items → is_some (value_in items key) ≡ true
    → (n < length items) × (set items n (key, value) ≡ with_value key value items)
set_is n key value items place rising there =
    let done = set_there key value items rising there in
    (subst (λ (m : ℕ). m < length items) (sym place) done.0, ap (λ (m : ℕ). set items m (key, value)) place ∙ done.1)

between_is : (n : ℕ) (key value : List ℕ) (items new : Pairs) → n ≡ lesser key items → IsRising items → is_some (value_in items key) ≡ false
    → new ≡ take n items ++ (key, value) ∷ drop n items → new ≡ with_value key value items
between_is n key value items new place rising there made =
    made ∙ ap (λ (m : ℕ). take m items ++ (key, value) ∷ drop m items) place ∙ set_between key value items rising there

pub index_mut-requires : goal.index_mut-requires
index_mut-requires c =
    let place = place_is c.lesser-at.result c.args.key c.as_str.result.now c.self.inside.pairs.items c.deref.result.now c.lesser-at.ensures c.as_str.ensures c.deref.ensures.value in
    let there = found_by c.get.result (λ v. v.now) c.self.inside.pairs.items c.args.self.now c.args.key c.as_str-2.result.now c.is_some.result true c.self.view_is c.as_str-2.ensures c.get.ensures c.is_some.ensures c.if-is_some.true in
    let small : c.lesser-at.result < length c.self.inside.pairs.items = (set_is c.lesser-at.result c.args.key c.args.value c.self.inside.pairs.items place c.self.invariant there).0 in
    omega (arith, small, c.deref.ensures.len, ap length c.deref.ensures.value)

pub invariant_of-self : goal.invariant_of-self
invariant_of-self c =
    let place = place_is c.lesser-at.result c.args.key c.as_str.result.now c.self.inside.pairs.items c.deref.result.now c.lesser-at.ensures c.as_str.ensures c.deref.ensures.value in
    let there = found_by c.get.result (λ v. v.now) c.self.inside.pairs.items c.args.self.now c.args.key c.as_str-2.result.now c.is_some.result true c.self.view_is c.as_str-2.ensures c.get.ensures c.is_some.ensures c.if-is_some.true in
    subst IsRising (sym (set_is c.lesser-at.result c.args.key c.args.value c.self.inside.pairs.items place c.self.invariant there).1) (rising_with c.args.key c.args.value c.self.inside.pairs.items c.self.invariant)

pub returns-then-is_some-clause-ok : goal.returns-then-is_some-clause-ok
returns-then-is_some-clause-ok c =
    let place = place_is c.lesser-at.result c.args.key c.as_str.result.now c.self.inside.pairs.items c.deref.result.now c.lesser-at.ensures c.as_str.ensures c.deref.ensures.value in
    let there = found_by c.get.result (λ v. v.now) c.self.inside.pairs.items c.args.self.now c.args.key c.as_str-2.result.now c.is_some.result true c.self.view_is c.as_str-2.ensures c.get.ensures c.is_some.ensures c.if-is_some.true in
    (set_is c.lesser-at.result c.args.key c.args.value c.self.inside.pairs.items place c.self.invariant there).1 ∙ ap (with_value c.args.key c.args.value) c.self.view_is

pub invariant_of-self-2 : goal.invariant_of-self-2
invariant_of-self-2 c =
    let place = place_is c.lesser-at.result c.args.key c.as_str.result.now c.self.inside.pairs.items c.deref.result.now c.lesser-at.ensures c.as_str.ensures c.deref.ensures.value in
    let there = found_by c.get.result (λ v. v.now) c.self.inside.pairs.items c.args.self.now c.args.key c.as_str-2.result.now c.is_some.result false c.self.view_is c.as_str-2.ensures c.get.ensures c.is_some.ensures c.if-is_some.false in
    subst IsRising (sym (between_is c.lesser-at.result c.args.key c.args.value c.self.inside.pairs.items c.insert.new.self.items place c.self.invariant there c.in_ok-insert.ensures.items)) (rising_with c.args.key c.args.value c.self.inside.pairs.items c.self.invariant)

pub returns-clause-ok : goal.returns-clause-ok
returns-clause-ok c =
    let place = place_is c.lesser-at.result c.args.key c.as_str.result.now c.self.inside.pairs.items c.deref.result.now c.lesser-at.ensures c.as_str.ensures c.deref.ensures.value in
    let there = found_by c.get.result (λ v. v.now) c.self.inside.pairs.items c.args.self.now c.args.key c.as_str-2.result.now c.is_some.result false c.self.view_is c.as_str-2.ensures c.get.ensures c.is_some.ensures c.if-is_some.false in
    between_is c.lesser-at.result c.args.key c.args.value c.self.inside.pairs.items c.insert.new.self.items place c.self.invariant there c.in_ok-insert.ensures.items ∙ ap (with_value c.args.key c.args.value) c.self.view_is
