-- Two plans one after the other, each member holding what the first gave it.
use Rattle.std.proofs.Common.{◌≡◌, ℕ, zero, suc, ◌+◌, Bool, true, false, not, ◌&&◌, ◌||◌, cond, List, [], ◌∷◌, ◌++◌, length, map, take, refl, ap, ◌∙◌, arith, nat_le}
use Rattle.std.specs.List.{list_all, fold, filter, count_by, AllByRecursion}
use Rattle.std.specs.List.Sorted.{IsPermutation}
use Rattle.std.proofs.lemmas.List.Sums.{length-filter}
use Rattle.std.proofs.lemmas.List.Sorted.{sum_by-IsPermutation}
use Rattle.cw_types.specs.declared.ids.Item.{Item}
use Rattle.cw_types.specs.declared.ids.Item.TheVariants.{Connector, Task}
use Rattle.cw_assign.specs.declared.items.Kind.{Kind}
use Rattle.cw_assign.specs.declared.items.Kind.TheVariants.{Connectors, Tasks}
use Rattle.cw_assign.specs.declared.share.Holder.{Holder}
use Rattle.cw_assign.specs.Items.{same_item, has, is_of, of_kind}
use Rattle.cw_assign.specs.Quota.{quota}
use Rattle.cw_assign.specs.Plan.{Hand, load_of, give, own, first_hand, is_free, class_hands, held_by, shares_of}
use Rattle.cw_assign.specs.Settled.{HoldWhatWasGiven}
use Rattle.cw_assign.proofs.ItemLemmas.{same_item-Decides}
use Rattle.cw_assign.proofs.Dealing.{with_item}
use Rattle.cw_assign.proofs.Counts.{one, digit, count-append, count-cons}
use Rattle.cw_assign.proofs.OnePlan.{stands, standings, starts}

abbrev pub Each : (Item → Bool) → List Item → Type 0
Each p xs = AllByRecursion (λ x. p x ≡ true) xs

each_weaker : (p p' : Item → Bool) → ((x : Item) → p x ≡ true → p' x ≡ true) → (xs : List Item) → Each p xs → Each p' xs
each_weaker p p' w [] e = tt
each_weaker p p' w (x ∷ xs) e = (w x e.0, each_weaker p p' w xs e.1)

each_filter : (p : Item → Bool) (xs : List Item) → Each p (filter p xs)
each_filter p [] = tt
each_filter p (x ∷ xs) = pick (p x) refl (each_filter p xs) where
  pick : (b : Bool) → p x ≡ b → Each p (filter p xs) → Each p (cond b (x ∷ filter p xs) (filter p xs))
  pick true is rest = (is, rest)
  pick false is rest = rest

each_kept : (p f : Item → Bool) (xs : List Item) → Each p xs → Each p (filter f xs)
each_kept p f [] e = tt
each_kept p f (x ∷ xs) e = pick (f x) (each_kept p f xs e.1) where
  pick : (b : Bool) → Each p (filter f xs) → Each p (cond b (x ∷ filter f xs) (filter f xs))
  pick true rest = (e.0, rest)
  pick false rest = rest

each_take : (p : Item → Bool) (n : ℕ) (xs : List Item) → Each p xs → Each p (take n xs)
each_take p zero xs e = tt
each_take p (suc n) [] e = tt
each_take p (suc n) (x ∷ xs) e = (e.0, each_take p n xs e.1)

each_push : (p : Item → Bool) (xs : List Item) (x : Item) → Each p xs → p x ≡ true → Each p (xs ++ x ∷ [])
each_push p [] x e is = (is, tt)
each_push p (y ∷ xs) x e is = (e.0, each_push p xs x e.1 is)

each_both : (p p' : Item → Bool) (xs : List Item) → Each p xs → Each p' xs → Each (λ x. p x && p' x) xs
each_both p p' [] e f = tt
each_both p p' (x ∷ xs) e f = (two (p x) (p' x) e.0 f.0, each_both p p' xs e.1 f.1) where
  two : (a b : Bool) → a ≡ true → b ≡ true → (a && b) ≡ true
  two true b u v = v
  two false b u v = cc

pub or_right : (a b : Bool) → b ≡ true → (a || b) ≡ true
or_right true b e = refl
or_right false b e = e

pub or_left : (a b : Bool) → a ≡ true → (a || b) ≡ true
or_left true b e = refl
or_left false b e = cc

and_left : (a b : Bool) → (a && b) ≡ true → a ≡ true
and_left true b e = refl
and_left false b e = cc

and_right : (a b : Bool) → (a && b) ≡ true → b ≡ true
and_right true b e = e
and_right false b e = cc

pub has_each : (xs : List Item) → Each (has xs) xs
has_each [] = tt
has_each (x ∷ xs) = (or_left (same_item x x) (has xs x) ((same_item-Decides x x).1 refl), each_weaker (has xs) (has (x ∷ xs)) (λ y e. or_right (same_item y x) (has xs y) e) xs (has_each xs))

pub count_each : (p : Item → Bool) (xs : List Item) → Each p xs → count_by p xs ≡ length xs
count_each p [] e = refl
count_each p (x ∷ xs) e = omega (arith, count-cons p x xs, ap digit e.0, count_each p xs e.1)

pub count_none : (p p' : Item → Bool) → ((x : Item) → p' x ≡ true → p x ≡ false) → (xs : List Item) → Each p' xs → count_by p xs ≡ 0
count_none p p' w [] e = refl
count_none p p' w (x ∷ xs) e = omega (arith, count-cons p x xs, ap digit (w x e.0), count_none p p' w xs e.1)

none_each : (p : Item → Bool) (xs : List Item) → count_by (λ x. not (p x)) xs ≡ 0 → Each p xs
none_each p [] e = tt
none_each p (x ∷ xs) e = (pick (p x) refl, none_each p xs (omega (arith, count-cons (λ y. not (p y)) x xs, e))) where
  pick : (b : Bool) → p x ≡ b → p x ≡ true
  pick true is = is
  pick false is = absurd (omega (arith, count-cons (λ y. not (p y)) x xs, e, ap (λ b. digit (not b)) is))

module _ (configured : List Item) where
  abbrev owned : Kind → Item → Bool
  owned kind x = is_of kind x && has configured x

  abbrev pub HandOwn : Kind → Hand → Type 0
  HandOwn kind h = Each (owned kind) h.kept × Each (owned kind) h.fresh

  own_cond : (kind : Kind) (b : Bool) (xs ys : List Hand) → AllByRecursion (HandOwn kind) xs → AllByRecursion (HandOwn kind) ys → AllByRecursion (HandOwn kind) (cond b xs ys)
  own_cond kind true xs ys e f = e
  own_cond kind false xs ys e f = f

  own_give : (kind : Kind) (hs : List Hand) (x : Item) → AllByRecursion (HandOwn kind) hs → owned kind x ≡ true → AllByRecursion (HandOwn kind) (give hs x)
  own_give kind [] x e is = tt
  own_give kind (h ∷ hs) x e is = own_cond kind (list_all (λ other. nat_le (load_of h) (load_of other)) hs) (with_item x h ∷ hs) (h ∷ give hs x)
      ((e.0.0, each_push (owned kind) h.fresh x e.0.1 is), e.1) (e.0, own_give kind hs x e.1 is)

  own_deal : (kind : Kind) (hs : List Hand) (xs : List Item) → AllByRecursion (HandOwn kind) hs → Each (owned kind) xs → AllByRecursion (HandOwn kind) (fold give hs xs)
  own_deal kind hs [] e f = e
  own_deal kind hs (x ∷ xs) e f = own_deal kind (give hs x) xs (own_give kind hs x e f.0) f.1

  own_starts : (kind : Kind) (members ms : List Holder) → AllByRecursion (HandOwn kind) (map (first_hand kind members (length (of_kind kind configured)) (has configured) false) ms)
  own_starts kind members [] = tt
  own_starts kind members (m ∷ ms) =
      ((each_take (owned kind) (quota (length (of_kind kind configured)) (standings kind members configured) (stands kind members configured m)) (own kind (has configured) m.held) (each_filter (owned kind) m.held), tt), own_starts kind members ms)

  pub own_hands : (kind : Kind) (members : List Holder) (lost : List Item) → AllByRecursion (HandOwn kind) (class_hands kind members configured lost false)
  own_hands kind members lost = own_deal kind (starts kind members configured members) (filter (is_free kind (has (held_by members)) (has lost) false) configured) (own_starts kind members members)
      (each_both (is_of kind) (has configured) (filter (is_free kind (has (held_by members)) (has lost) false) configured)
      (each_weaker (is_free kind (has (held_by members)) (has lost) false) (is_of kind) (λ x e. and_left (is_of kind x) (not (has (held_by members) x) && true) e) (filter (is_free kind (has (held_by members)) (has lost) false) configured)
      (each_filter (is_free kind (has (held_by members)) (has lost) false) configured))
      (each_kept (has configured) (is_free kind (has (held_by members)) (has lost) false) configured (has_each configured)))

  other_kind : (x : Item) → (owned Connectors x ≡ true → owned Tasks x ≡ false) × (owned Tasks x ≡ true → owned Connectors x ≡ false)
  other_kind (Connector a) = (λ e. refl, λ e. cc)
  other_kind (Task a) = (λ e. cc, λ e. refl)

  abbrev pub pick_hand : Kind → Hand → Hand → Hand
  pick_hand Connectors c t = c
  pick_hand Tasks c t = t

  abbrev pub of_both : Hand → Hand → List Item
  of_both c t = ((c.kept ++ t.kept) ++ (c.fresh ++ t.fresh))

  pub count_both : (p : Item → Bool) (c t : Hand) → count_by p (of_both c t) ≡ (count_by p c.kept + count_by p t.kept) + (count_by p c.fresh + count_by p t.fresh)
  count_both p c t = omega (arith, count-append p (c.kept ++ t.kept) (c.fresh ++ t.fresh), count-append p c.kept t.kept, count-append p c.fresh t.fresh)

  load_is : (kind : Kind) (c t : Hand) → HandOwn Connectors c → HandOwn Tasks t → count_by (owned kind) (of_both c t) ≡ load_of (pick_hand kind c t)
  load_is Connectors c t e f = omega (
    arith,
    count_both (owned Connectors) c t,
    count_each (owned Connectors) c.kept e.0,
    count_each (owned Connectors) c.fresh e.1,
    count_none (owned Connectors) (owned Tasks) (λ x. (other_kind x).1) t.kept f.0,
    count_none (owned Connectors) (owned Tasks) (λ x. (other_kind x).1) t.fresh f.1,
  )
  load_is Tasks c t e f = omega (
    arith,
    count_both (owned Tasks) c t,
    count_each (owned Tasks) t.kept f.0,
    count_each (owned Tasks) t.fresh f.1,
    count_none (owned Tasks) (owned Connectors) (λ x. (other_kind x).0) c.kept e.0,
    count_none (owned Tasks) (owned Connectors) (λ x. (other_kind x).0) c.fresh e.1,
  )

  configured_both : (c t : Hand) → HandOwn Connectors c → HandOwn Tasks t → count_by (λ x. not (has configured x)) (of_both c t) ≡ 0
  configured_both c t e f = omega (arith, count_both (λ x. not (has configured x)) c t, none Connectors c.kept e.0, none Connectors c.fresh e.1, none Tasks t.kept f.0, none Tasks t.fresh f.1) where
    none : (kind : Kind) (xs : List Item) → Each (owned kind) xs → count_by (λ x. not (has configured x)) xs ≡ 0
    none kind xs = count_none (λ x. not (has configured x)) (owned kind) (λ x e. ap not (and_right (is_of kind x) (has configured x) e)) xs

  abbrev pub pick_hands : Kind → List Hand → List Hand → List Hand
  pick_hands Connectors cs ts = cs
  pick_hands Tasks cs ts = ts

  -- what a member holds behind a plan
  pub record Took (c t : Hand) (m : Holder) : Type 0 where
    pub loads : (kind : Kind) → length (own kind (has configured) m.held) ≡ load_of (pick_hand kind c t)
    pub known : Each (has configured) m.held
    pub counts : (p : Item → Bool) → count_by p m.held ≡ count_by p (of_both c t)

  took : (c t : Hand) (m : Holder) → HandOwn Connectors c → HandOwn Tasks t → IsPermutation (of_both c t) m.held → Took c t m
  took c t m e f moved =
      let counts = λ (p : Item → Bool). sum_by-IsPermutation (one p) (of_both c t) m.held moved in record {
        loads = λ kind. length-filter (owned kind) m.held ∙ counts (owned kind) ∙ load_is kind c t e f;
        known = none_each (has configured) m.held (counts (λ x. not (has configured x)) ∙ configured_both c t e f);
        counts = counts;
      }

  -- the same, member by member
  abbrev pub AllTook : List Hand → List Hand → List Holder → Type 0
  AllTook (c ∷ cs) (t ∷ ts) (m ∷ ms) = Took c t m × AllTook cs ts ms
  AllTook [] [] [] = Unit {0}
  AllTook _ _ _ = ⊥

  pub all_took : (ms : List Holder) (cs ts : List Hand) (second : List Holder) → length cs ≡ length ms → length ts ≡ length ms → AllByRecursion (HandOwn Connectors) cs → AllByRecursion (HandOwn Tasks) ts
      → HoldWhatWasGiven (shares_of ms cs ts) second → AllTook cs ts second × (map (λ m. m.worker) second ≡ map (λ m. m.worker) ms)
  all_took [] [] [] [] lc lt e f held = (tt, refl)
  all_took [] [] [] (m ∷ second) lc lt e f held = elim held [ ]
  all_took [] [] (t ∷ ts) second lc lt e f held = absurd (omega arith)
  all_took [] (c ∷ cs) ts second lc lt e f held = absurd (omega arith)
  all_took (m ∷ ms) [] ts second lc lt e f held = absurd (omega arith)
  all_took (m ∷ ms) (c ∷ cs) [] second lc lt e f held = absurd (omega arith)
  all_took (m ∷ ms) (c ∷ cs) (t ∷ ts) [] lc lt e f held = elim held [ ]
  all_took (m ∷ ms) (c ∷ cs) (t ∷ ts) (n ∷ second) lc lt e f held =
      let rest = all_took ms cs ts second (omega arith) (omega arith) e.1 f.1 held.1 in
      ((took c t n e.0 f.0 held.0.1, rest.0), ap (λ (w : ℕ). w ∷ map (λ o. o.worker) second) held.0.0 ∙ ap (λ (ws : List ℕ). m.worker ∷ ws) rest.1)
