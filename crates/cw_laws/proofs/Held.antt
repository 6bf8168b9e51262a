-- What a worker holds: an item is held just where an instance at the worker has it. So where instances fade, no worker holds more.
use Rattle.std.proofs.Common.{◌≡◌, inl, inr, ℕ, ◌==◌, ◌&&◌, ◌||◌, Bool, true, false, not, List, [], ◌∷◌, suc, map, cond, slice_index_or, refl, sym, ap, ◌∙◌, Ordering}
use Rattle.std.proofs.lemmas.Bool.{or_right, or_cases}
use Rattle.std.specs.declared.cmp.Ordering.TheVariants.{Less, Equal, Greater}
use Rattle.std.specs.List.{list_any, filter, fold}
use Rattle.std.specs.BTreeSet.{insert_key}
use Rattle.std.specs.Ordering.{match_ordering, is_eq}
use Rattle.cw_types.specs.declared.ids.Item.{Item}
use Rattle.cw_types.specs.Order.{item_cmp}
use Rattle.cw_assign.specs.Items.{has, same_item, in_order}
use Rattle.cw_assign.proofs.ItemLemmas.{same_item-Decides}
use Rattle.cw_model.specs.declared.instance.Instance.{Instance}
use Rattle.cw_model.specs.State.{Cluster}
use Rattle.cw_model.specs.Lookups.{held, is_at, no_instance, instance_of}
use Rattle.cw_model.specs.FactsGroup.{AreAmong}
use Rattle.cw_model.specs.Phases.{is_ended}
use Rattle.cw_laws.proofs.Fading.{Fades}

swap-or : (a b c : Bool) → (a || (b || c)) ≡ (b || (a || c))
swap-or true true c = refl
swap-or true false c = refl
swap-or false b c = refl

same-or : (a b : Bool) → (a || (a || b)) ≡ (a || b)
same-or true b = refl
same-or false b = refl

-- one item more
inserted : (o : Ordering) (k y x : Item) (ys more : List Item) → item_cmp k y ≡ o → has more x ≡ (same_item x k || has ys x) →
    has (match_ordering o (k ∷ y ∷ ys) (y ∷ ys) (y ∷ more)) x ≡ (same_item x k || has (y ∷ ys) x)
inserted Less k y x ys more is so = refl
inserted Equal k y x ys more is so =
    let equal : k ≡ y = (same_item-Decides k y).0 (ap is_eq is) in
    rw equal (sym (same-or (same_item x y) (has ys x)))
inserted Greater k y x ys more is so = ap (λ b. same_item x y || b) so ∙ swap-or (same_item x y) (same_item x k) (has ys x)

has-insert : (k x : Item) (ys : List Item) → has (insert_key item_cmp ys k) x ≡ (same_item x k || has ys x)
has-insert k x [] = refl
has-insert k x (y ∷ ys) = inserted (item_cmp k y) k y x ys (insert_key item_cmp ys k) refl (has-insert k x ys)

group-or : (a b c : Bool) → (a || (b || c)) ≡ ((b || a) || c)
group-or true true c = refl
group-or true false c = refl
group-or false true c = refl
group-or false false c = refl

or-none : (a : Bool) → (a || false) ≡ a
or-none true = refl
or-none false = refl

has-fold : (x : Item) (xs ys : List Item) → has (fold (insert_key item_cmp) ys xs) x ≡ (has xs x || has ys x)
has-fold x [] ys = refl
has-fold x (k ∷ xs) ys = has-fold x xs (insert_key item_cmp ys k) ∙ ap (λ b. has xs x || b) (has-insert k x ys) ∙ group-or (has xs x) (same_item x k) (has ys x)

pub has-in_order : (x : Item) (xs : List Item) → has (in_order xs) x ≡ has xs x
has-in_order x xs = has-fold x xs [] ∙ or-none (has xs x)

any-reads : {X : Type 0} (q : X → Bool) (xs ys : List X) (d : X) → q d ≡ false → ((n : ℕ) → q (slice_index_or ys n d) ≡ true → q (slice_index_or xs n d) ≡ true) →
    list_any q ys ≡ true → list_any q xs ≡ true
any-reads q xs [] d none so any = absurd (let no_any : false ≡ true = any in cc)
any-reads q [] (y ∷ ys) d none so any = elim (or_cases (q y) (list_any q ys) any) [
  | inl here ↦ absurd (let is : q d ≡ true = so 0 here in cc)
  | inr there ↦ any-reads q [] ys d none (λ n passes. so (suc n) passes) there
]
any-reads q (x ∷ xs) (y ∷ ys) d none so any = elim (or_cases (q y) (list_any q ys) any) [
  | inl here ↦ let is : q x ≡ true = so 0 here in rw is refl
  | inr there ↦ or_right (q x) (list_any q xs) (any-reads q xs ys d none (λ n passes. so (suc n) passes) there)
]

-- whether an instance is at a worker, of an item
abbrev pub holds_at : ℕ → Item → Instance → Bool
holds_at w x i = is_at w i && same_item x i.item

has-at : (b : Bool) (x y : Item) (ys : List Item) (rest : Bool) → has ys x ≡ rest → has (cond b (y ∷ ys) ys) x ≡ ((b && same_item x y) || rest)
has-at true x y ys rest so = ap (λ b. same_item x y || b) so
has-at false x y ys rest so = so

has-map : (b : Bool) (i : Instance) (is : List Instance) → map (λ i. i.item) (cond b (i ∷ is) is) ≡ cond b (i.item ∷ map (λ i. i.item) is) (map (λ i. i.item) is)
has-map true i is = refl
has-map false i is = refl

has-held : (w : ℕ) (x : Item) (is : List Instance) → has (map (λ i. i.item) (filter (is_at w) is)) x ≡ list_any (holds_at w x) is
has-held w x [] = refl
has-held w x (i ∷ is) =
    ap (λ items. has items x) (has-map (is_at w i) i (filter (is_at w) is))
    ∙ has-at (is_at w i) x i.item (map (λ i. i.item) (filter (is_at w) is)) (list_any (holds_at w x) is) (has-held w x is)

pub held-any : (s : Cluster) (w : ℕ) (x : Item) → has (held w s) x ≡ list_any (holds_at w x) s.instances
held-any s w x = has-in_order x (map (λ i. i.item) (filter (is_at w) s.instances)) ∙ has-held w x s.instances

never-holds : (b c : Bool) → ((b && false) && c) ≡ false
never-holds true c = refl
never-holds false c = refl

and-right : (a b : Bool) → (a && b) ≡ true → b ≡ true
and-right true b passes = passes
and-right false b passes = absurd (let no : false ≡ true = passes in cc)

and-weaker : (a b c d : Bool) → (d ≡ true → b ≡ true) → ((a && not b) && c) ≡ true → ((a && not d) && c) ≡ true
and-weaker true b c false so passes = and-right (not b) c passes
and-weaker true true c true so passes = passes
and-weaker true false c true so passes = absurd (let no : false ≡ true = so refl in cc)
and-weaker false b c d so passes = passes

-- an instance is where it was, of the same item, and ended if it had
pub record StaysHeld (j k : Instance) : Type 0 where
  pub worker : k.worker ≡ j.worker
  pub item : k.item ≡ j.item
  pub ended : is_ended j.phase ≡ true → is_ended k.phase ≡ true

pub fading-held : (j k : Instance) → Fades j k → StaysHeld j k
fading-held j k f = record { worker = ap (λ i. i.worker) f.is; item = ap (λ i. i.item) f.is; ended = λ over. rw f.is (f.ended over) }

held-before : (w : ℕ) (x : Item) (j k : Instance) → StaysHeld j k → holds_at w x k ≡ true → holds_at w x j ≡ true
held-before w x j k f holds =
    let same : ((j.worker == w) && not (is_ended k.phase)) && same_item x j.item ≡ true = rw (← f.worker, ← f.item) holds in
    and-weaker (j.worker == w) (is_ended k.phase) (same_item x j.item) (is_ended j.phase) f.ended same

pub held-stays : (s t : Cluster) → ((n : ℕ) → StaysHeld (instance_of n s) (instance_of n t)) → (w : ℕ) → AreAmong (held w t) (held w s)
held-stays s t each w x holds =
    let any : list_any (holds_at w x) t.instances ≡ true = rw (← held-any t w x) holds in
    rw (held-any s w x) (any-reads (holds_at w x) s.instances t.instances no_instance (never-holds (0 == w) (same_item x no_instance.item))
    (λ n passes. held-before w x (instance_of n s) (instance_of n t) (each n) passes) any)

pub held-fades : (s t : Cluster) → ((n : ℕ) → Fades (instance_of n s) (instance_of n t)) → (w : ℕ) → AreAmong (held w t) (held w s)
held-fades s t each = held-stays s t (λ n. fading-held (instance_of n s) (instance_of n t) (each n))
