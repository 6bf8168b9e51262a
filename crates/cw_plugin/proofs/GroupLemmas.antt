-- Elements of a list: without repeats, in groups, joined by commas and cut again.
use Rattle.std.proofs.Common.{◌≡◌, ℕ, zero, suc, ◌+◌, ◌-◌, ◌*◌, ◌<◌, ◌≤◌, min, List, [], ◌∷◌, ◌++◌, length, take, drop, map, filter, Bool, true, false, not, cond, ◌==◌, ◌||◌, bytes_eq, decimal, refl, sym, ap, ◌∙◌, subst, inl, inr, arith, length-drop, length-take, take-append-drop}
use Rattle.std.specs.Char.{is_ascii_digit}
use Rattle.std.specs.List.{AllByRecursion, list_any, list_all, flat_map, join_with_byte, range_with_len, onto_first}
use Rattle.std.proofs.lemmas.Bool.{both_ways, or_parts, or_cases, or_from, and_parts, false_from_ne_true}
use Rattle.std.proofs.lemmas.Bool.Decides.{nat_tests}
use Rattle.std.proofs.lemmas.Fmt.{decimal_injective, digits_decimal}
use Rattle.std.proofs.lemmas.List.Elements.{All-from_recursion}
use Rattle.std.proofs.lemmas.List.Folds.{list_any-append}
use Rattle.std.proofs.lemmas.List.Splits.{slice_split_none, slice_split_at}
use Rattle.cw_types.proofs.Decimals.{own}
use Rattle.cw_plugin.specs.Lists.{elements, has_repeat}
use Rattle.cw_plugin.specs.Tasks.{once, groups}
use Rattle.cw_plugin.proofs.ShareLemmas.{Texts, bytes_are}

abbrev pub Each : {X : Type 0} → (X → Type 0) → List X → Type 0
Each = AllByRecursion

-- whether an element is one of some
abbrev pub is_in : List ℕ → Texts → Bool
is_in e es = list_any (λ x. bytes_eq x e) es

pub record Unrepeated (front back : Texts) : Type 0 where
  pub in_front : has_repeat front ≡ false
  pub in_back : has_repeat back ≡ false
  pub apart : (e : List ℕ) → is_in e front ≡ true → is_in e back ≡ true → ⊥

fresh : (b rest : Bool) → cond b true rest ≡ false → (b ≡ false) × (rest ≡ false)
fresh true rest e = cc
fresh false rest e = (refl, e)

not_in_front : (x : List ℕ) (front : Texts) → is_in x front ≡ false → has_repeat front ≡ false → has_repeat (x ∷ front) ≡ false
not_in_front x front new rest = ap (λ b. cond b true (has_repeat front)) new ∙ rest

-- the parts of a list without repeats have none, and share no element
pub unrepeated_parts : (front back : Texts) → has_repeat (front ++ back) ≡ false → Unrepeated front back
unrepeated_parts [] back e = record { in_front = refl; in_back = e; apart = λ x in_none _. cc }
unrepeated_parts (x ∷ front) back e =
    let here = fresh (is_in x (front ++ back)) (has_repeat (front ++ back)) e in
    let both = or_parts (is_in x front) (is_in x back) (sym (list_any-append (λ y. bytes_eq y x) front back) ∙ here.0) in
    let rest = unrepeated_parts front back here.1 in
    record {
      in_front = not_in_front x front both.0 rest.in_front;
      in_back = rest.in_back;
      apart = λ y front_has back_has. elim (or_cases (bytes_eq x y) (is_in y front) front_has) [
        | inl is ↦ both_ways (is_in x back) both.1 (subst (λ z. is_in z back ≡ true) (sym (bytes_are x y is)) back_has)
        | inr later ↦ rest.apart y later back_has
      ];
    }

each_append : {X : Type 0} (P : X → Type 0) (xs ys : List X) → Each P (xs ++ ys) → Each P xs × Each P ys
each_append P [] ys all = (tt, all)
each_append P (x ∷ xs) ys all = let rest = each_append P xs ys all.1 in ((all.0, rest.0), rest.1)

pub each_map : {X Y : Type 0} (P : Y → Type 0) (f : X → Y) (xs : List X) → Each (λ x. P (f x)) xs → Each P (map f xs)
each_map P f [] all = tt
each_map P f (x ∷ xs) all = (all.0, each_map P f xs all.1)

pub each_weaker : {X : Type 0} (P Q : X → Type 0) → ((x : X) → P x → Q x) → (xs : List X) → Each P xs → Each Q xs
each_weaker P Q step [] all = tt
each_weaker P Q step (x ∷ xs) all = (step x all.0, each_weaker P Q step xs all.1)

-- an element is in no longer list than before
in_part : (e : List ℕ) (front back : Texts) → is_in e back ≡ true → is_in e (front ++ back) ≡ true
in_part e front back has = list_any-append (λ y. bytes_eq y e) front back ∙ right (is_in e front) (is_in e back) has where
  right : (a b : Bool) → b ≡ true → (a || b) ≡ true
  right true b e = refl
  right false b e = e

in_first_part : (e : List ℕ) (front back : Texts) → is_in e front ≡ true → is_in e (front ++ back) ≡ true
in_first_part e front back has = list_any-append (λ y. bytes_eq y e) front back ∙ ap (λ a. a || is_in e back) has

-- a group of elements, all of which pass
pub record IsGroup (P : List ℕ → Type 0) (es group : Texts) : Type 0 where
  pub some : 0 < length group
  pub unrepeated : has_repeat group ≡ false
  pub pass : Each P group
  pub inside : (e : List ℕ) → is_in e group ≡ true → is_in e es ≡ true

abbrev pub Apart : Texts → Texts → Type 0
Apart g h = (e : List ℕ) → is_in e g ≡ true → is_in e h ≡ true → ⊥

-- a relation between each and those behind it
abbrev pub Pairs : {X : Type 0} → (X → X → Type 0) → List X → Type 0
Pairs R [] = Unit {0}
Pairs R (x ∷ xs) = Each (R x) xs × Pairs R xs

pub pairs_map : {X Y : Type 0} (R : Y → Y → Type 0) (f : X → Y) (xs : List X) → Pairs (λ a b. R (f a) (f b)) xs → Pairs R (map f xs)
pairs_map R f [] all = tt
pairs_map R f (x ∷ xs) all = (each_map (R (f x)) f xs all.0, pairs_map R f xs all.1)

-- groups one behind the other
pub groups_law : (P : List ℕ → Type 0) (count least more : ℕ) (es : Texts) → 0 < least → count * least + more ≤ length es → has_repeat es ≡ false → Each P es
    → Each (IsGroup P es) (groups count least more es) × Pairs Apart (groups count least more es)
unfolding groups
groups_law P zero least more es least_some room unrepeated pass = (tt, tt)
groups_law P (suc count) least more es least_some room unrepeated pass =
    let size : ℕ = least + min more 1 in
    let split : take size es ++ drop size es ≡ es = take-append-drop size es in
    let room' : least + (count * least + more) ≤ length es = omega (arith, room) in
    let parts = unrepeated_parts (take size es) (drop size es) (ap has_repeat split ∙ unrepeated) in
    let passes = each_append P (take size es) (drop size es) (subst (Each P) (sym split) pass) in
    let rest = groups_law P count least (more - 1) (drop size es) least_some (omega (arith, length-drop size es)) parts.in_back passes.1 in (
      (
        record {
          some = omega (arith, length-take size es);
          unrepeated = parts.in_front;
          pass = passes.0;
          inside = λ e has. subst (λ them. is_in e them ≡ true) split (in_first_part e (take size es) (drop size es) has);
        },
        each_weaker (IsGroup P (drop size es)) (IsGroup P es) (λ g group. record {
          some = group.some;
          unrepeated = group.unrepeated;
          pass = group.pass;
          inside = λ e has. subst (λ them. is_in e them ≡ true) split (in_part e (take size es) (drop size es) (group.inside e has));
        }) (groups count least (more - 1) (drop size es)) rest.0,
      ),
      (
        each_weaker (IsGroup P (drop size es)) (Apart (take size es)) (λ g group e in_first in_later. parts.apart e in_first (group.inside e in_later)) (groups count least (more - 1) (drop size es)) rest.0,
        rest.1,
      ),
    )

-- groups that leave nothing over are the elements again
pub groups-joined : (count least more : ℕ) (es : Texts) → count * least + more ≡ length es → more ≤ count
    → flat_map (λ g. g) (groups count least more es) ≡ es
unfolding groups
groups-joined zero least more [] all few = refl
groups-joined zero least more (e ∷ es) all few = absurd (omega arith)
groups-joined (suc count) least more es all few =
    let size : ℕ = least + min more 1 in
    ap (λ rest. take size es ++ rest) (groups-joined count least (more - 1) (drop size es) (omega (arith, length-drop size es, all)) (omega arith))
    ∙ take-append-drop size es

abbrev pub HasNoComma : List ℕ → Type 0
HasNoComma e = Each (λ b. (b == 44) ≡ false) e

pub elements-join : (group : Texts) → 0 < length group → Each HasNoComma group → elements (join_with_byte 44 group) ≡ group
elements-join [] some clean = absurd (omega arith)
elements-join (x ∷ []) some clean = slice_split_none (λ b. b == 44) x (All-from_recursion (λ b. (b == 44) ≡ false) x clean.0)
elements-join (x ∷ y ∷ xs) some clean =
    slice_split_at (λ b. b == 44) x 44 (join_with_byte 44 (y ∷ xs)) (All-from_recursion (λ b. (b == 44) ≡ false) x clean.0) refl
    ∙ ap (λ them. x ∷ them) (elements-join (y ∷ xs) (omega arith) clean.1)

onto_clean : (x : ℕ) (parts : Texts) → (x == 44) ≡ false → Each HasNoComma parts → Each HasNoComma (onto_first x parts)
onto_clean x [] e all = ((e, tt), tt)
onto_clean x (part ∷ parts) e all = ((e, all.0), all.1)

split_clean : (x : ℕ) (parts : Texts) (b : Bool) → (x == 44) ≡ b → Each HasNoComma parts → Each HasNoComma (cond b ([] ∷ parts) (onto_first x parts))
split_clean x parts true e all = (tt, all)
split_clean x parts false e all = onto_clean x parts e all

-- no element has a comma
pub elements_clean : (text : List ℕ) → Each HasNoComma (elements text)
elements_clean [] = (tt, tt)
elements_clean (x ∷ xs) = split_clean x (elements xs) (x == 44) refl (elements_clean xs)

-- ---- once

kept_not_in : (e : List ℕ) (p : List ℕ → Bool) (es : Texts) → is_in e es ≡ false → is_in e (filter p es) ≡ false
kept_not_in e p [] new = refl
kept_not_in e p (x ∷ es) new =
    let both = or_parts (bytes_eq x e) (is_in e es) new in
    kept (p x) (kept_not_in e p es both.1) where
      kept : (b : Bool) → is_in e (filter p es) ≡ false → is_in e (cond b (x ∷ filter p es) (filter p es)) ≡ false
      kept true rest = or_from (bytes_eq x e) (is_in e (filter p es)) (or_parts (bytes_eq x e) (is_in e es) new).0 rest
      kept false rest = rest

kept_unrepeated : (p : List ℕ → Bool) (es : Texts) → has_repeat es ≡ false → has_repeat (filter p es) ≡ false
kept_unrepeated p [] e = refl
kept_unrepeated p (x ∷ es) e =
    let here = fresh (is_in x es) (has_repeat es) e in
    kept (p x) (kept_not_in x p es here.0) (kept_unrepeated p es here.1) where
      kept : (b : Bool) → is_in x (filter p es) ≡ false → has_repeat (filter p es) ≡ false → has_repeat (cond b (x ∷ filter p es) (filter p es)) ≡ false
      kept true new rest = not_in_front x (filter p es) new rest
      kept false new rest = rest

others_not_in : (e : List ℕ) (es : Texts) → is_in e (filter (λ x. not (bytes_eq x e)) es) ≡ false
others_not_in e [] = refl
others_not_in e (x ∷ es) = kept (bytes_eq x e) refl (others_not_in e es) where
  kept : (b : Bool) → bytes_eq x e ≡ b → is_in e (filter (λ y. not (bytes_eq y e)) es) ≡ false → is_in e (cond (not b) (x ∷ filter (λ y. not (bytes_eq y e)) es) (filter (λ y. not (bytes_eq y e)) es)) ≡ false
  kept true is rest = rest
  kept false is rest = or_from (bytes_eq x e) (is_in e (filter (λ y. not (bytes_eq y e)) es)) is rest

pub once_unrepeated : (es : Texts) → has_repeat (once es) ≡ false
once_unrepeated [] = refl
once_unrepeated (e ∷ es) = not_in_front e (filter (λ x. not (bytes_eq x e)) (once es)) (others_not_in e (once es)) (kept_unrepeated (λ x. not (bytes_eq x e)) (once es) (once_unrepeated es))

each_kept : (P : List ℕ → Type 0) (p : List ℕ → Bool) (es : Texts) → Each P es → Each P (filter p es)
each_kept P p [] all = tt
each_kept P p (x ∷ es) all = kept (p x) (each_kept P p es all.1) where
  kept : (b : Bool) → Each P (filter p es) → Each P (cond b (x ∷ filter p es) (filter p es))
  kept true rest = (all.0, rest)
  kept false rest = rest

pub each_once : (P : List ℕ → Type 0) (es : Texts) → Each P es → Each P (once es)
each_once P [] all = tt
each_once P (e ∷ es) all = (all.0, each_kept P (λ x. not (bytes_eq x e)) (once es) (each_once P es all.1))

-- ---- numbers

later_not_in : (a b n : ℕ) → a < b → b + n ≤ 1000 → is_in (decimal a) (map decimal (range_with_len b n)) ≡ false
later_not_in a b zero below small = refl
later_not_in a b (suc n) below small =
    or_from (bytes_eq (decimal b) (decimal a)) (is_in (decimal a) (map decimal (range_with_len (b + 1) n)))
    (false_from_ne_true (bytes_eq (decimal b) (decimal a)) (λ same. absurd (omega (arith, decimal_injective b a (omega arith) (omega arith) (bytes_are (decimal b) (decimal a) same)))))
    (later_not_in a (b + 1) n (omega arith) (omega arith))

pub numbers_unrepeated : (a n : ℕ) → a + n ≤ 1000 → has_repeat (map decimal (range_with_len a n)) ≡ false
numbers_unrepeated a zero small = refl
numbers_unrepeated a (suc n) small =
    not_in_front (decimal a) (map decimal (range_with_len (a + 1) n)) (later_not_in a (a + 1) n (omega arith) (omega arith)) (numbers_unrepeated (a + 1) n (omega arith))

digits_clean : (cs : List ℕ) → list_all is_ascii_digit cs ≡ true → HasNoComma cs
digits_clean [] e = tt
digits_clean (c ∷ cs) e =
    let both = and_parts (is_ascii_digit c) (list_all is_ascii_digit cs) e in
    (digit_clean c both.0, digits_clean cs both.1) where
      digit_clean : (c : ℕ) → is_ascii_digit c ≡ true → (c == 44) ≡ false
      digit_clean c e = grind (arith, nat_tests)

pub decimal_clean : (n : ℕ) → n < 1000 → HasNoComma (decimal n)
decimal_clean n small = digits_clean (decimal n) (digits_decimal own n (omega arith))

pub each_number : (P : List ℕ → Type 0) (a n : ℕ) → a + n ≤ 1000 → ((k : ℕ) → k < 1000 → P (decimal k)) → Each P (map decimal (range_with_len a n))
each_number P a zero small holds = tt
each_number P a (suc n) small holds = (holds a (omega arith), each_number P (a + 1) n (omega arith) holds)
