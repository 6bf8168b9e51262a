-- The plan is valid.
use Rattle.std.proofs.Common.{◌≡◌, ℕ, ◌+◌, ◌<◌, ◌≤◌, Bool, true, false, ◌&&◌, ◌||◌, not, cond, List, [], ◌∷◌, ◌++◌, length, map, take, refl, sym, ap, ◌∙◌, subst, arith, nat_le, zero, suc}
use Rattle.std.specs.List.{list_all, fold, filter, count_by, AllZip, AllByRecursion}
use Rattle.std.specs.List.Sorted.{IsStrictlySortedBy}
use Rattle.std.proofs.lemmas.List.{length-map, append-nil}
use Rattle.std.proofs.lemmas.List.Elements.{filter-append}
use Rattle.std.proofs.lemmas.List.Kept.{IsStrictlySortedBy-filter}
use Rattle.std.proofs.lemmas.Map.Keys.{IsDistinct-from_sorted}
use Rattle.cw_types.specs.declared.ids.Item.{Item}
use Rattle.cw_types.specs.declared.ids.Item.TheVariants.{Connector, Task}
use Rattle.cw_types.specs.Order.{item_cmp}
use Rattle.cw_assign.specs.declared.items.Kind.{Kind}
use Rattle.cw_assign.specs.declared.items.Kind.TheVariants.{Connectors, Tasks}
use Rattle.cw_assign.specs.declared.share.Holder.{Holder}
use Rattle.cw_assign.specs.Items.{same_item, has, is_of, of_kind}
use Rattle.cw_assign.specs.Plan.{Hand, load_of, give, own, kept_of, first_hand, is_free, class_hands, held_by, shares_of, plan_of, standing_of}
use Rattle.cw_assign.specs.Quota.{quota}
use Rattle.cw_assign.specs.Valid.{IsValid, fresh_in}
use Rattle.cw_assign.proofs.ItemLemmas.{same_item-Decides}
use Rattle.cw_assign.proofs.Dealing.{with_item}
use Rattle.cw_assign.proofs.PlanLemmas.{length-hands}
use Rattle.cw_assign.proofs.Counts.{dealt, dealt-deal, dealt-none, dealt-shares, count-classes, has-count, once, distinct_from_once}

-- each hand has what its member keeps
abbrev pub AreKept : (Holder → List Item) → List Holder → List Hand → Type 0
AreKept f members hands = AllZip (λ m h. h.kept ≡ f m) members hands

kept_start : (f : Holder → List Item) (members : List Holder) → AreKept f members (map (λ m. record { kept = f m; fresh = [] }) members)
kept_start f [] = tt
kept_start f (m ∷ members) = (refl, kept_start f members)

kept_cond : (f : Holder → List Item) (members : List Holder) (b : Bool) (xs ys : List Hand) → AreKept f members xs → AreKept f members ys → AreKept f members (cond b xs ys)
kept_cond f members true xs ys e g = e
kept_cond f members false xs ys e g = g

kept_give : (f : Holder → List Item) (members : List Holder) (hands : List Hand) (x : Item) → AreKept f members hands → AreKept f members (give hands x)
kept_give f [] [] x kept = tt
kept_give f [] (h ∷ hs) x kept = elim kept [ ]
kept_give f (m ∷ members) [] x kept = elim kept [ ]
kept_give f (m ∷ members) (h ∷ hs) x kept =
    kept_cond f (m ∷ members) (list_all (λ other. nat_le (load_of h) (load_of other)) hs) (with_item x h ∷ hs) (h ∷ give hs x) kept (kept.0, kept_give f members hs x kept.1)

kept_deal : (f : Holder → List Item) (members : List Holder) (hands : List Hand) (xs : List Item) → AreKept f members hands → AreKept f members (fold give hands xs)
kept_deal f members hands [] kept = kept
kept_deal f members hands (x ∷ xs) kept = kept_deal f members (give hands x) xs (kept_give f members hands x kept)

-- items of a class alone
abbrev AreOf : Kind → List Item → Type 0
AreOf kind xs = AllByRecursion (λ x. is_of kind x ≡ true) xs

own_are : (kind : Kind) (p : Item → Bool) (held : List Item) → AreOf kind (own kind p held)
own_are kind p [] = tt
own_are kind p (x ∷ xs) = pick (is_of kind x) (p x) refl (own_are kind p xs) where
  pick : (a b : Bool) → is_of kind x ≡ a → AreOf kind (own kind p xs) → AreOf kind (cond (a && b) (x ∷ own kind p xs) (own kind p xs))
  pick true true is rest = (is, rest)
  pick true false is rest = rest
  pick false b is rest = rest

take_are : (kind : Kind) (n : ℕ) (xs : List Item) → AreOf kind xs → AreOf kind (take n xs)
take_are kind zero xs are = tt
take_are kind (suc n) [] are = tt
take_are kind (suc n) (x ∷ xs) are = (are.0, take_are kind n xs are.1)

kept_are : (kind : Kind) (members : List Holder) (total : ℕ) (p : Item → Bool) (running : Bool) (m : Holder) → AreOf kind (kept_of kind members total p running m)
kept_are kind members total p true m = own_are kind p m.held
kept_are kind members total p false m = take_are kind (quota total (map (standing_of kind p) members) (standing_of kind p m)) (own kind p m.held) (own_are kind p m.held)

all_of : (kind : Kind) (xs : List Item) → AreOf kind xs → of_kind kind xs ≡ xs
all_of kind [] are = refl
all_of kind (x ∷ xs) are = pick (is_of kind x) are.0 (all_of kind xs are.1) where
  pick : (b : Bool) → b ≡ true → of_kind kind xs ≡ xs → cond b (x ∷ of_kind kind xs) (of_kind kind xs) ≡ x ∷ xs
  pick true is rest = ap (λ ys. x ∷ ys) rest
  pick false is rest = cc

not_both : (x : Item) → is_of Connectors x ≡ true → is_of Tasks x ≡ true → ⊥
not_both (Connector a) c t = cc
not_both (Task a) c t = cc

no_tasks : (xs : List Item) → AreOf Connectors xs → of_kind Tasks xs ≡ []
no_tasks [] are = refl
no_tasks (Connector a ∷ xs) are = no_tasks xs are.1
no_tasks (Task a ∷ xs) are = absurd (not_both (Task a) are.0 refl)

no_connectors : (xs : List Item) → AreOf Tasks xs → of_kind Connectors xs ≡ []
no_connectors [] are = refl
no_connectors (Task a ∷ xs) are = no_connectors xs are.1
no_connectors (Connector a ∷ xs) are = absurd (not_both (Connector a) refl are.0)

-- the kept items of a class, among those of both
of_both : (kind : Kind) (cs ts : List Item) → AreOf Connectors cs → AreOf Tasks ts → of_kind kind (cs ++ ts) ≡ elim kind as (λ _. List Item) [ Connectors ↦ cs | Tasks ↦ ts ]
of_both Connectors cs ts c t = filter-append (is_of Connectors) cs ts ∙ ap (λ ys. of_kind Connectors cs ++ ys) (no_connectors ts t) ∙ append-nil (of_kind Connectors cs) ∙ all_of Connectors cs c
of_both Tasks cs ts c t = filter-append (is_of Tasks) cs ts ∙ ap (λ xs. xs ++ of_kind Tasks ts) (no_tasks cs c) ∙ all_of Tasks ts t

pub has-filter : (f : Item → Bool) (xs : List Item) (x : Item) → has (filter f xs) x ≡ (has xs x && f x)
has-filter f [] x = refl
has-filter f (y ∷ ys) x = pick (f y) (same_item x y) refl refl (has-filter f ys x) where
  pick : (b s : Bool) → f y ≡ b → same_item x y ≡ s → has (filter f ys) x ≡ (has ys x && f x) → has (cond b (y ∷ filter f ys) (filter f ys)) x ≡ ((s || has ys x) && f x)
  pick true true fy same rest = ap (λ s. s || has (filter f ys) x) same ∙ sym (ap f ((same_item-Decides x y).0 same) ∙ fy)
  pick true false fy same rest = ap (λ s. s || has (filter f ys) x) same ∙ rest
  pick false true fy same rest = rest ∙ ap (λ b. has ys x && b) (ap f ((same_item-Decides x y).0 same) ∙ fy) ∙ no (has ys x) ∙ sym (ap f ((same_item-Decides x y).0 same) ∙ fy) where
    no : (b : Bool) → (b && false) ≡ false
    no true = refl
    no false = refl
  pick false false fy same rest = rest

module _ (members : List Holder) (configured lost : List Item) (running : Bool) where
  abbrev keeps : Kind → Holder → List Item
  keeps kind m = kept_of kind members (length (of_kind kind configured)) (has configured) running m

  pub hands_kept : (kind : Kind) → AreKept (keeps kind) members (class_hands kind members configured lost running)
  hands_kept kind = kept_deal (keeps kind) members (map (first_hand kind members (length (of_kind kind configured)) (has configured) running) members)
      (filter (is_free kind (has (held_by members)) (has lost) running) configured) (kept_start (keeps kind) members)

  workers_are : (ms : List Holder) (cs ts : List Hand) → length cs ≡ length ms → length ts ≡ length ms → map (λ s. s.worker) (shares_of ms cs ts) ≡ map (λ m. m.worker) ms
  workers_are [] [] [] e f = refl
  workers_are [] [] (t ∷ ts) e f = absurd (omega arith)
  workers_are [] (c ∷ cs) ts e f = absurd (omega arith)
  workers_are (m ∷ ms) [] ts e f = absurd (omega arith)
  workers_are (m ∷ ms) (c ∷ cs) [] e f = absurd (omega arith)
  workers_are (m ∷ ms) (c ∷ cs) (t ∷ ts) e f = ap (λ ws. m.worker ∷ ws) (workers_are ms cs ts (omega arith) (omega arith))

  kept_is : (kind : Kind) (m : Holder) (c t : Hand) → c.kept ≡ keeps Connectors m → t.kept ≡ keeps Tasks m → of_kind kind (c.kept ++ t.kept) ≡ keeps kind m
  kept_is Connectors m c t e f = ap (λ (xs : List Item). of_kind Connectors (xs ++ t.kept)) e ∙ ap (λ (xs : List Item). of_kind Connectors (keeps Connectors m ++ xs)) f
      ∙ of_both Connectors (keeps Connectors m) (keeps Tasks m) (kept_are Connectors members (length (of_kind Connectors configured)) (has configured) running m) (kept_are Tasks members (length (of_kind Tasks configured)) (has configured) running m)
  kept_is Tasks m c t e f = ap (λ (xs : List Item). of_kind Tasks (xs ++ t.kept)) e ∙ ap (λ (xs : List Item). of_kind Tasks (keeps Connectors m ++ xs)) f
      ∙ of_both Tasks (keeps Connectors m) (keeps Tasks m) (kept_are Connectors members (length (of_kind Connectors configured)) (has configured) running m) (kept_are Tasks members (length (of_kind Tasks configured)) (has configured) running m)

  shares_kept : (kind : Kind) (ms : List Holder) (cs ts : List Hand) → AreKept (keeps Connectors) ms cs → AreKept (keeps Tasks) ms ts
      → AllZip (λ m s. of_kind kind s.kept ≡ keeps kind m) ms (shares_of ms cs ts)
  shares_kept kind [] [] [] e f = tt
  shares_kept kind [] [] (t ∷ ts) e f = elim f [ ]
  shares_kept kind [] (c ∷ cs) ts e f = elim e [ ]
  shares_kept kind (m ∷ ms) [] ts e f = elim e [ ]
  shares_kept kind (m ∷ ms) (c ∷ cs) [] e f = elim f [ ]
  shares_kept kind (m ∷ ms) (c ∷ cs) (t ∷ ts) e f = (kept_is kind m c t e.0 f.0, shares_kept kind ms cs ts e.1 f.1)

  shares_revoked : (ms : List Holder) (cs ts : List Hand) → AreKept (keeps Connectors) ms cs → AreKept (keeps Tasks) ms ts
      → AllZip (λ m s. s.revoked ≡ filter (λ x. not (has s.kept x)) m.held) ms (shares_of ms cs ts)
  shares_revoked [] [] [] e f = tt
  shares_revoked [] [] (t ∷ ts) e f = elim f [ ]
  shares_revoked [] (c ∷ cs) ts e f = elim e [ ]
  shares_revoked (m ∷ ms) [] ts e f = elim e [ ]
  shares_revoked (m ∷ ms) (c ∷ cs) [] e f = elim f [ ]
  shares_revoked (m ∷ ms) (c ∷ cs) (t ∷ ts) e f = (refl, shares_revoked ms cs ts e.1 f.1)

  -- what is to be given, of both classes
  abbrev pub free : Item → Bool
  free x = not (has (held_by members) x) && not (running && has lost x)

  module _ (some : 0 < length members) where
    many : (kind : Kind) → length (class_hands kind members configured lost running) ≡ length members
    many kind = length-hands kind members configured (has configured) (has (held_by members)) (has lost) running (class_hands kind members configured lost running) refl

    dealt_is : (q : Item → Bool) (kind : Kind) → dealt q (class_hands kind members configured lost running) ≡ count_by q (filter (is_free kind (has (held_by members)) (has lost) running) configured)
    dealt_is q kind =
        let start = map (first_hand kind members (length (of_kind kind configured)) (has configured) running) members in
        let nothing : dealt q start ≡ 0 = dealt-none q (keeps kind) members in
        let long : length start ≡ length members = length-map members (first_hand kind members (length (of_kind kind configured)) (has configured) running) in
        omega (arith, dealt-deal q start (filter (is_free kind (has (held_by members)) (has lost) running) configured) (omega (arith, long, some)), nothing)

    -- what is given is what is free, as often
    pub given_count : (q : Item → Bool) → count_by q (fresh_in (plan_of members configured lost running).shares) ≡ count_by q (filter free configured)
    given_count q = dealt-shares q members (class_hands Connectors members configured lost running) (class_hands Tasks members configured lost running) (many Connectors) (many Tasks)
        ∙ ap (λ n. n + dealt q (class_hands Tasks members configured lost running)) (dealt_is q Connectors)
        ∙ ap (λ n. count_by q (filter (is_free Connectors (has (held_by members)) (has lost) running) configured) + n) (dealt_is q Tasks)
        ∙ count-classes q free configured

    pub given_is : (x : Item) → has (fresh_in (plan_of members configured lost running).shares) x ≡ (has configured x && free x)
    given_is x = has-count (fresh_in (plan_of members configured lost running).shares) (filter free configured) given_count x ∙ has-filter free configured x

    not_held : (a h r : Bool) → (a && (not h && r)) ≡ true → h ≡ false
    not_held true false r e = refl
    not_held true true r e = cc
    not_held false h r e = cc

    pub plan_is_valid : IsStrictlySortedBy item_cmp configured → IsValid members configured lost running (plan_of members configured lost running)
    plan_is_valid rising = record {
      workers = workers_are members (class_hands Connectors members configured lost running) (class_hands Tasks members configured lost running) (many Connectors) (many Tasks);
      kept = λ kind. shares_kept kind members (class_hands Connectors members configured lost running) (class_hands Tasks members configured lost running) (hands_kept Connectors) (hands_kept Tasks);
      revoked = shares_revoked members (class_hands Connectors members configured lost running) (class_hands Tasks members configured lost running) (hands_kept Connectors) (hands_kept Tasks);
      unheld = λ x is. not_held (has configured x) (has (held_by members) x) (not (running && has lost x)) (sym (given_is x) ∙ is);
      apart = distinct_from_once (fresh_in (plan_of members configured lost running).shares)
          (λ x. subst (λ n. n ≤ 1) (sym (given_count (λ y. same_item x y)))
          (once x (filter free configured) (IsDistinct-from_sorted item_cmp (filter free configured) (IsStrictlySortedBy-filter item_cmp free configured rising))));
      given = given_is;
    }
