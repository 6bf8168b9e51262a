-- A row of the table of transactions that was changed.
use Rattle.std.proofs.Common.{◌≡◌, Bool, true, false, cond, ◌||◌, List, [], ◌∷◌, ◌++◌, map, Bor, Option, None, Some, IsSome, ℕ, nat_lt, refl, sym, ap, ◌∙◌}
use Rattle.std.specs.Option.{option_map, is_some, unwrap_or}
use Rattle.std.specs.List.{list_any}
use Rattle.std.specs.Map.Iter.{deref}
use Rattle.std.specs.BTreeMap.{BTreeMap, get, is_at}
use Rattle.std.proofs.lemmas.List.{map-append}
use Rattle.std.proofs.lemmas.List.Folds.{list_any-append}
use Rattle.std.proofs.lemmas.Bool.{true≢false}
use Rattle.cw_types.specs.declared.ids.Tag.{Tag}
use Rattle.cw_types.specs.declared.ids.PartKey.{PartKey}
use Rattle.cw_types.specs.Same.{same_tag, same_part, tag_order, part_order}
use Rattle.cw_types.proofs.SameLemmas.{tag_at, same_tag-flip, same_tag-Decides, part_at, same_part-flip, same_part-Decides}
use Rattle.cw_tables.proofs.RowLemmas.{value-moved}
use Rattle.cw_offset.specs.declared.under.Settled.{Settled}
use Rattle.cw_offset.specs.declared.under.Under.{Under}
use Rattle.cw_offset.specs.Rows.{settled_at, waits_in, later, if_begun, ended}
use Rattle.cw_offset.specs.Tables.{under_at, Changes}

module _ (t : Tag) (old new : BTreeMap Tag Under) (now : Under) (set : (q : Tag) → get tag_order new q ≡ cond (is_at (tag_order t) q) (Some now) (get tag_order old q)) where
  pub tag_row : (q : Tag) → under_at new q ≡ cond (same_tag q t) (Some now) (under_at old q)
  tag_row q = set q ∙ ap (λ (b : Bool). cond b (Some now) (under_at old q)) (tag_at t q ∙ same_tag-flip t q)

  pub changed_row : (by : Under → Under → Type 0) (was : Under) → under_at old t ≡ Some was → by was now → Changes by t old new
  changed_row by was there change = record { was = was; now = now; there = there; row = tag_row; change = change }

  pub ended_row : (was : Under) → under_at old t ≡ Some was → now ≡ ended was → (q : Tag) → under_at new q ≡ cond (same_tag q t) (option_map ended (under_at old q)) (under_at old q)
  ended_row was there is q = tag_row q ∙ by (same_tag q t) (λ same. ap (under_at old) ((same_tag-Decides q t).0 same) ∙ there)
    where
      by : (b : Bool) → (b ≡ true → under_at old q ≡ Some was) → cond b (Some now) (under_at old q) ≡ cond b (option_map ended (under_at old q)) (under_at old q)
      by true here = ap Some is ∙ ap (option_map ended) (sym (here refl))
      by false here = refl

-- nothing ends where there is no row
pub none_ended : (t : Tag) (old new : BTreeMap Tag Under) → ((q : Tag) → under_at new q ≡ under_at old q) → under_at old t ≡ None → (q : Tag) → under_at new q ≡ cond (same_tag q t) (option_map ended (under_at old q)) (under_at old q)
none_ended t old new same none q = same q ∙ by (same_tag q t) (λ one. ap (under_at old) ((same_tag-Decides q t).0 one) ∙ none)
  where
    by : (b : Bool) → (b ≡ true → under_at old q ≡ None) → under_at old q ≡ cond b (option_map ended (under_at old q)) (under_at old q)
    by true here = here refl ∙ ap (option_map ended) (sym (here refl))
    by false here = refl

-- ---- puts that take effect

-- a row of a part that a put moves
pub moved_by : (old new : BTreeMap PartKey (Option Settled)) (part : PartKey) (put row : Option Settled) → ((q : PartKey) → get part_order new q ≡ cond (is_at (part_order part) q) (Some row) (get part_order old q))
    → row ≡ later (settled_at old part) put → (q : PartKey) → settled_at new q ≡ cond (same_part q part) (later (settled_at old q) put) (settled_at old q)
moved_by old new part put row set is q =
    value-moved (get part_order) (λ (a b : PartKey). is_at (part_order a) b) same_part part_at same_part-flip same_part-Decides None old new part row set (λ s. later s put) is q

pub not_moved : (b : Bool) (put s : Option Settled) → put ≡ None → s ≡ cond b (later s put) s
not_moved true put s none = ap (later s) (sym none)
not_moved false put s none = refl

-- a put that is settled once more changes nothing
again : (s w : Option Settled) → later (later s w) w ≡ later s w
again s None = refl
again None (Some w) = by (nat_lt w.place w.place)
  where
    by : (b : Bool) → cond b (Some w) (Some w) ≡ Some w
    by true = refl
    by false = refl
again (Some s) (Some w) = by (nat_lt s.place w.place) (nat_lt w.place w.place) refl
  where
    same : (b : Bool) → cond b (Some w) (Some w) ≡ Some w
    same true = refl
    same false = refl

    by : (b c : Bool) → nat_lt s.place w.place ≡ b → later (cond b (Some w) (Some s)) (Some w) ≡ cond b (Some w) (Some s)
    by true c e = same (nat_lt w.place w.place)
    by false c e = ap (λ (x : Bool). cond x (Some w) (Some s)) e

-- whether a part is one of these
abbrev pub is_seen : PartKey → List (Bor PartKey) → Bool
is_seen q parts = list_any (same_part q) (map deref parts)

module _ (under : Under) (q : PartKey) (o : Option Settled) where
  abbrev pub seen : List (Bor PartKey) → Option Settled
  seen parts = cond (is_seen q parts) (later o (waits_in under q)) o

  one_more : (a b : Bool) (s put : Option Settled) → s ≡ cond a (later o (waits_in under q)) o → (b ≡ true → put ≡ waits_in under q) → cond b (later s put) s ≡ cond (a || (b || false)) (later o (waits_in under q)) o
  one_more true true s put is here = ap (later s) (here refl) ∙ ap (λ x. later x (waits_in under q)) is ∙ again o (waits_in under q)
  one_more false true s put is here = ap (later s) (here refl) ∙ ap (λ x. later x (waits_in under q)) is
  one_more true false s put is here = is
  one_more false false s put is here = is

  pub seen_more : (parts : List (Bor PartKey)) (part : Bor PartKey) (s put now : Option Settled) → s ≡ seen parts → put ≡ waits_in under part.now → now ≡ cond (same_part q part.now) (later s put) s → now ≡ seen (parts ++ part ∷ [])
  seen_more parts part s put now is waits moved =
      moved
      ∙ one_more (is_seen q parts) (same_part q part.now) s put is (λ same. waits ∙ ap (waits_in under) (sym ((same_part-Decides q part.now).0 same)))
      ∙ ap (λ (b : Bool). cond b (later o (waits_in under q)) o) (sym (ap (list_any (same_part q)) (map-append deref parts (part ∷ [])) ∙ list_any-append (same_part q) (map deref parts) (part.now ∷ [])))

  nothing_waits : (f : Option ℕ) → if_begun f None ≡ None
  nothing_waits None = refl
  nothing_waits (Some m) = refl

  pub seen_all : (parts : List (Bor PartKey)) (keys : List PartKey) → map deref parts ≡ keys → (list_any (same_part q) keys ≡ false → settled_at under.parts q ≡ None) → seen parts ≡ later o (waits_in under q)
  seen_all parts keys all none =
      ap (λ (l : List PartKey). cond (list_any (same_part q) l) (later o (waits_in under q)) o) all
      ∙ by (list_any (same_part q) keys) (λ unseen. ap (if_begun under.first) (none unseen) ∙ nothing_waits under.first)
    where
      by : (b : Bool) → (b ≡ false → waits_in under q ≡ None) → cond b (later o (waits_in under q)) o ≡ later o (waits_in under q)
      by true nothing = refl
      by false nothing = ap (later o) (sym (nothing refl))

any_same : (p r : PartKey → Bool) → ((x : PartKey) → p x ≡ r x) → (xs : List PartKey) → list_any p xs ≡ list_any r xs
any_same p r same [] = refl
any_same p r same (x ∷ xs) = ap (λ (b : Bool). b || list_any p xs) (same x) ∙ ap (λ (b : Bool). r x || b) (any_same p r same xs)

none_of : (o : Option (Option Settled)) → is_some o ≡ false → unwrap_or o None ≡ None
none_of None e = refl
none_of (Some s) e = absurd (true≢false e)

-- what is no key has no row
pub unseen : (parts : BTreeMap PartKey (Option Settled)) (keys : List PartKey) (q : PartKey) → is_some (get part_order parts q) ≡ list_any (λ x. is_at (part_order q) x) keys → list_any (same_part q) keys ≡ false → settled_at parts q ≡ None
unseen parts keys q has none = none_of (get part_order parts q) (has ∙ any_same (λ x. is_at (part_order q) x) (same_part q) (λ x. part_at q x) keys ∙ none)

-- ---- a row that is new

module _ (t : Tag) (old new : BTreeMap Tag Under) (now : Under) (set : (q : Tag) → get tag_order new q ≡ cond (is_at (tag_order t) q) (Some now) (get tag_order old q)) (none : under_at old t ≡ None) where
  pub new_kept : (q : Tag) → IsSome (under_at old q) → under_at new q ≡ under_at old q
  new_kept q has = tag_row t old new now set q ∙ by (same_tag q t) (λ same. ap (under_at old) ((same_tag-Decides q t).0 same) ∙ none) (under_at old q) has
    where
      by : (b : Bool) → (b ≡ true → under_at old q ≡ None) → (o : Option Under) → IsSome (under_at old q) → cond b (Some now) (under_at old q) ≡ under_at old q
      by true absent o some = absurd (true≢false (sym some ∙ ap is_some (absent refl)))
      by false absent o some = refl

pub gone_row : (t : Tag) (old new : BTreeMap Tag Under) → ((q : Tag) → get tag_order new q ≡ cond (is_at (tag_order t) q) None (get tag_order old q)) → (q : Tag) → under_at new q ≡ cond (same_tag q t) None (under_at old q)
gone_row t old new set q = set q ∙ ap (λ (b : Bool). cond b None (under_at old q)) (tag_at t q ∙ same_tag-flip t q)
