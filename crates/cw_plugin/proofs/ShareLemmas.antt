-- What tasks share out: each element once, in groups one behind the other.
use Rattle.std.proofs.Common.{◌≡◌, ℕ, suc, ◌+◌, ◌-◌, ◌*◌, ◌<◌, ◌≤◌, min, List, [], ◌∷◌, ◌++◌, length, take, drop, map, filter, Bool, true, false, not, cond, bytes_eq, refl, sym, ap, ◌∙◌, subst, inl, inr, append_assoc, append-nil, arith, nat_lt, length-drop, get_or, ◌||◌, decimal}
use Rattle.std.specs.Int.{from_bool}
use Rattle.std.specs.List.{list_any, flat_map, join_with_byte, range_with_len}
use Rattle.std.proofs.lemmas.Bool.{both_ways, lt-ltb, le-ltb, cases_lt, cases_Bool, or_left, or_right, or_from}
use Rattle.std.proofs.lemmas.List.{drop_all, drop_more}
use Rattle.std.proofs.lemmas.List.Elements.{filter_agree}
use Rattle.std.proofs.lemmas.List.Folds.{list_any-append}
use Rattle.std.proofs.lemmas.List.FromFn.{map-range_with_len_more}
use Rattle.std.proofs.lemmas.Slice.Eq.{bytes_eq-Decides}
use Rattle.cw_plugin.specs.Tasks.{once, add_once, groups, parted_up_to}

abbrev pub Texts : Type 0
Texts = List (List ℕ)

abbrev pub is_new : Texts → List ℕ → Bool
is_new found x = not (list_any (λ y. bytes_eq y x) found)

pub bytes_are : (xs ys : List ℕ) → bytes_eq xs ys ≡ true → xs ≡ ys
bytes_are xs ys e = (bytes_eq-Decides xs ys).0 e

pub bytes_same : (xs : List ℕ) → bytes_eq xs xs ≡ true
bytes_same xs = (bytes_eq-Decides xs xs).1 refl

filter_twice_at : (p q : List ℕ → Bool) (x : List ℕ) (ys zs : Texts) (b : Bool) → q x ≡ b → filter p ys ≡ zs → filter p (cond b (x ∷ ys) ys) ≡ cond (cond b (p x) false) (x ∷ zs) zs
filter_twice_at p q x ys zs true e is = ap (λ them. cond (p x) (x ∷ them) them) is
filter_twice_at p q x ys zs false e is = is

filter_twice : (p q : List ℕ → Bool) (ys : Texts) → filter p (filter q ys) ≡ filter (λ x. cond (q x) (p x) false) ys
filter_twice p q [] = refl
filter_twice p q (x ∷ ys) = filter_twice_at p q x (filter q ys) (filter (λ x. cond (q x) (p x) false) ys) (q x) refl (filter_twice p q ys)

known : (found : Texts) (e x : List ℕ) (b : Bool) → bytes_eq x e ≡ b → is_new found e ≡ false → cond (not b) (is_new found x) false ≡ is_new found x
known found e x true is old = sym (subst (λ y. is_new found y ≡ false) (sym (bytes_are x e is)) old)
known found e x false is old = refl

other_way : (x e : List ℕ) → bytes_eq x e ≡ false → bytes_eq e x ≡ false
other_way x e differ = elim (cases_Bool (bytes_eq e x)) [
  | inl alike ↦ absurd (both_ways (bytes_eq x e) differ (subst (λ y. bytes_eq y e ≡ true) (bytes_are e x alike) (bytes_same e)))
  | inr apart ↦ apart
]

behind : (found : Texts) (e x : List ℕ) (b : Bool) → bytes_eq x e ≡ b → cond (not b) (is_new found x) false ≡ is_new (found ++ e ∷ []) x
behind found e x true is =
    let same : x ≡ e = bytes_are x e is in
    let one : list_any (λ y. bytes_eq y x) (e ∷ []) ≡ true = or_left (bytes_eq e x) false (subst (λ y. bytes_eq e y ≡ true) (sym same) (bytes_same e)) in
    sym (ap not (list_any-append (λ y. bytes_eq y x) found (e ∷ []) ∙ or_right (list_any (λ y. bytes_eq y x) found) _ one))
behind found e x false is =
    let none : list_any (λ y. bytes_eq y x) (e ∷ []) ≡ false = or_from (bytes_eq e x) false (other_way x e is) refl in
    sym (ap not (list_any-append (λ y. bytes_eq y x) found (e ∷ []) ∙ or_none (list_any (λ y. bytes_eq y x) found) _ none)) where
      or_none : (a b : Bool) → b ≡ false → (a || b) ≡ a
      or_none true b e = refl
      or_none false b e = e

-- one more element is taken in
once_at : (found : Texts) (e : List ℕ) (ys : Texts) (b : Bool) → list_any (λ y. bytes_eq y e) found ≡ b
    → cond b found (found ++ e ∷ []) ++ filter (is_new (cond b found (found ++ e ∷ []))) ys ≡ found ++ cond (not b) (e ∷ filter (is_new found) (filter (λ x. not (bytes_eq x e)) ys)) (filter (is_new found) (filter (λ x. not (bytes_eq x e)) ys))
once_at found e ys true is =
    ap (λ them. found ++ them) (sym (filter_twice (is_new found) (λ x. not (bytes_eq x e)) ys ∙ filter_agree _ (is_new found) (λ x. known found e x (bytes_eq x e) refl (ap not is)) ys))
once_at found e ys false is =
    append_assoc found (e ∷ []) (filter (is_new (found ++ e ∷ [])) ys)
    ∙ ap (λ them. found ++ e ∷ them) (sym (filter_twice (is_new found) (λ x. not (bytes_eq x e)) ys ∙ filter_agree _ (is_new (found ++ e ∷ [])) (λ x. behind found e x (bytes_eq x e) refl) ys))

pub once_more : (found : Texts) (e : List ℕ) (es : Texts) → add_once found e ++ filter (is_new (add_once found e)) (once es) ≡ found ++ filter (is_new found) (once (e ∷ es))
once_more found e es = once_at found e (once es) (list_any (λ y. bytes_eq y e) found) refl

pub all_new : (xs : Texts) → filter (is_new []) xs ≡ xs
all_new [] = refl
all_new (x ∷ xs) = ap (λ ys. x ∷ ys) (all_new xs)

pub once_begun : (found texts : Texts) → found ≡ [] → found ++ filter (is_new found) (once texts) ≡ once texts
once_begun found texts none = ap (λ them. them ++ filter (is_new them) (once texts)) none ∙ all_new (once texts)

pub once_next : (found next texts : Texts) (i : ℕ) (e : List ℕ) → i < length texts → e ≡ get_or texts i e → next ≡ add_once found e → found ++ filter (is_new found) (once (drop i texts)) ≡ once texts
    → next ++ filter (is_new next) (once (drop (i + 1) texts)) ≡ once texts
once_next found next texts i e within is step before =
    let split : drop i texts ≡ e ∷ drop (i + 1) texts = drop_more texts i e within ∙ ap (λ x. x ∷ drop (i + 1) texts) (sym is) in
    ap (λ them. them ++ filter (is_new them) (once (drop (i + 1) texts))) step
    ∙ once_more found e (drop (i + 1) texts)
    ∙ ap (λ them. found ++ filter (is_new found) (once them)) (sym split)
    ∙ before

pub once_done : (found texts : Texts) (i : ℕ) → length texts ≤ i → found ++ filter (is_new found) (once (drop i texts)) ≡ once texts → found ≡ once texts
once_done found texts i past is =
    sym (append-nil found) ∙ ap (λ them. found ++ filter (is_new found) (once them)) (sym (drop_all i texts past)) ∙ is

-- the size of a group
pub size_is : (index more : ℕ) → from_bool (nat_lt index more) ≡ min (more - index) 1
size_is index more = elim (cases_lt index more) [
  | inl below ↦ ap from_bool (lt-ltb index more below) ∙ omega arith
  | inr above ↦ ap from_bool (le-ltb index more above) ∙ omega arith
]

pub groups_next : (count before least more : ℕ) (es : Texts) → count ≡ suc before
    → groups count least more es ≡ take (least + min more 1) es ∷ groups before least (more - 1) (drop (least + min more 1) es)
unfolding groups
groups_next count before least more es is = ap (λ n. groups n least more es) is

pub groups_none : (count least more : ℕ) (es : Texts) → count ≡ 0 → groups count least more es ≡ []
unfolding groups
groups_none count least more es is = ap (λ n. groups n least more es) is

pub left_next : (count before least more size left : ℕ) → count ≡ suc before → count * least + more ≡ left → size ≡ least + min more 1 → (size ≤ left) × (before * least + (more - 1) ≡ left - size)
left_next count before least more size left is all sized =
    let grown : count * least ≡ before * least + least = ap (λ n. n * least) is ∙ omega arith in
    (omega arith, omega arith)

pub join-flat : (x : List ℕ) (ys : Texts) → join_with_byte 44 (x ∷ ys) ≡ x ++ flat_map (λ t. 44 ∷ t) ys
join-flat x [] = sym (append-nil x)
join-flat x (y ∷ ys) = ap (λ t. x ++ 44 ∷ t) (join-flat y ys)

pub parted_none : (most : ℕ) (es : Texts) (found : Texts) → min (length es) most ≡ 0 → found ≡ [] → found ≡ parted_up_to most es
parted_none most es found none is = is ∙ sym (ap (map (join_with_byte 44)) (groups_none (min (length es) most) _ _ es none))

-- one more group is cut off
pub parted_next : (count index least more size : ℕ) (rest front next before after target : Texts) (share : List ℕ)
    → index < count → size ≡ least + from_bool (nat_lt index more) → (count - index) * least + (more - index) ≡ length rest
    → front ≡ take size rest → next ≡ drop size rest → share ≡ join_with_byte 44 front → after ≡ before ++ share ∷ []
    → before ++ map (join_with_byte 44) (groups (count - index) least (more - index) rest) ≡ target
    → ((count - (index + 1)) * least + (more - (index + 1)) ≡ length next)
    × (after ++ map (join_with_byte 44) (groups (count - (index + 1)) least (more - (index + 1)) next) ≡ target)
parted_next count index least more size rest front next before after target share within sized left is_front is_next is_share is_after made =
    let sized' : size ≡ least + min (more - index) 1 = sized ∙ ap (λ n. least + n) (size_is index more) in
    let one : count - index ≡ suc (count - (index + 1)) = omega arith in
    let fewer : more - (index + 1) ≡ (more - index) - 1 = omega arith in
    let fits = left_next (count - index) (count - (index + 1)) least (more - index) size (length rest) one left sized' in
    let all : length next ≡ length rest - size = ap length is_next ∙ length-drop size rest in
    let cut : groups (count - index) least (more - index) rest ≡ front ∷ groups (count - (index + 1)) least (more - (index + 1)) next
    = groups_next (count - index) (count - (index + 1)) least (more - index) rest one
    ∙ ap (λ n. take n rest ∷ groups (count - (index + 1)) least ((more - index) - 1) (drop n rest)) (sym sized')
    ∙ ap (λ m. take size rest ∷ groups (count - (index + 1)) least m (drop size rest)) (sym fewer)
    ∙ ap (λ them. them ∷ groups (count - (index + 1)) least (more - (index + 1)) (drop size rest)) (sym is_front)
    ∙ ap (λ them. front ∷ groups (count - (index + 1)) least (more - (index + 1)) them) (sym is_next) in (
      ap (λ m. (count - (index + 1)) * least + m) fewer ∙ fits.1 ∙ sym all,
      ap (λ them. them ++ map (join_with_byte 44) (groups (count - (index + 1)) least (more - (index + 1)) next)) is_after
          ∙ append_assoc before (share ∷ []) _
          ∙ ap (λ t. before ++ t ∷ map (join_with_byte 44) (groups (count - (index + 1)) least (more - (index + 1)) next)) is_share
          ∙ ap (λ them. before ++ map (join_with_byte 44) them) (sym cut)
          ∙ made,
    )

pub parted_done : (count index least more : ℕ) (rest made target : Texts) → count ≤ index → made ++ map (join_with_byte 44) (groups (count - index) least (more - index) rest) ≡ target → made ≡ target
parted_done count index least more rest made target past is =
    sym (append-nil made) ∙ ap (λ them. made ++ map (join_with_byte 44) them) (sym (groups_none (count - index) least (more - index) rest (omega arith))) ∙ is

-- the first text stands in front of the others
pub join_begun : (text first : List ℕ) (texts behind : Texts) → texts ≡ first ∷ behind → text ≡ first → text ++ flat_map (λ t. 44 ∷ t) behind ≡ join_with_byte 44 texts
join_begun text first texts behind split is = ap (λ t. t ++ flat_map (λ t. 44 ∷ t) behind) is ∙ sym (ap (join_with_byte 44) split ∙ join-flat first behind)

pub numbers_next : (made next : Texts) (text : List ℕ) (n : ℕ) → made ≡ map decimal (range_with_len 0 n) → next ≡ made ++ text ∷ [] → text ≡ decimal n → next ≡ map decimal (range_with_len 0 (n + 1))
numbers_next made next text n before push is =
    push ∙ ap (λ t. made ++ t ∷ []) is ∙ ap (λ them. them ++ decimal n ∷ []) before ∙ sym (map-range_with_len_more decimal 0 n n (omega arith))
