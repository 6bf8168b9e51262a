-- The clean point behind one record more: where no connector is listed, it is there.
use Rattle.std.proofs.Common.{◌≡◌, ℕ, zero, suc, ◌+◌, ◌≤◌, Bool, true, false, not, cond, ◌&&◌, ◌||◌, ◌==◌, max, List, [], ◌∷◌, ◌++◌, length, take, Option, None, Some, refl, sym, ap, subst, ◌∙◌, arith, length-append}
use Rattle.std.specs.Option.{option_map_or}
use Rattle.std.specs.List.{fold, list_any, range_with_len}
use Rattle.std.specs.Str.{bytes_eq}
use Rattle.std.specs.BTreeMap.{BTreeMap, is_at}
use Rattle.std.specs.BTreeSet.{BTreeSet}
use Rattle.std.proofs.lemmas.Bool.Decides.{nat_tests}
use Rattle.std.proofs.lemmas.List.{take-append-le, take_all}
use Rattle.std.proofs.lemmas.List.Sums.{fold-append}
use Rattle.std.proofs.lemmas.Map.Text.{is_eq-slice_cmp}
use Rattle.std.proofs.lemmas.Slice.Eq.{bytes_eq-Decides}
use Rattle.cw_types.specs.Order.{name_cmp}
use Rattle.cw_config.specs.declared.records.ConfigRecord.{ConfigRecord}
use Rattle.cw_config.specs.View.{generation_of, is_behind}
use Rattle.cw_config.specs.Compaction.{connector_of_task, is_waiting, is_clean, clean_point}
use Rattle.cw_compact.specs.declared.clean.TaskSet.{TaskSet}
use Rattle.cw_compact.specs.declared.clean.Clean.{Clean}
use Rattle.cw_compact.specs.Lasts.{higher}
use Rattle.cw_compact.specs.Clean.{is_task_of, is_past, waits, set_of, AreSets, IsClean}

-- ---- whether a connector's task waits, by its highest offset

or_assoc : (a b c : Bool) → ((a || b) || c) ≡ (a || (b || c))
or_assoc true b c = refl
or_assoc false b c = refl

or_none : (a : Bool) → (a || false) ≡ a
or_none true = refl
or_none false = refl

past_most : (g : Option ℕ) (most offset : ℕ) → is_past g (max most offset) ≡ (is_past g most || is_past g offset)
past_most None most offset = refl
past_most (Some commit) most offset = grind (arith, nat_tests)

module _ (g : Option ℕ) where
  abbrev past_in : Option ℕ → Bool
  past_in most = option_map_or (is_past g) most false

  past_higher : (most : Option ℕ) (offset : ℕ) → past_in (higher most offset) ≡ (past_in most || is_past g offset)
  past_higher None offset = refl
  past_higher (Some most) offset = past_most g most offset

  past_if : (b : Bool) (most : Option ℕ) (offset : ℕ) → past_in (cond b (higher most offset) most) ≡ (past_in most || (b && is_past g offset))
  past_if true most offset = past_higher most offset
  past_if false most offset = sym (or_none (past_in most))

  module _ (name : List ℕ) where
    any_past : (most : Option ℕ) (records : List ConfigRecord)
        → past_in (fold (λ most r. cond (is_task_of name r) (higher most r.offset) most) most records) ≡ (past_in most || list_any (λ r. is_task_of name r && is_past g r.offset) records)
    any_past most [] = sym (or_none (past_in most))
    any_past most (r ∷ records) =
        any_past (cond (is_task_of name r) (higher most r.offset) most) records
        ∙ ap (λ (b : Bool). b || list_any (λ x. is_task_of name x && is_past g x.offset) records) (past_if (is_task_of name r) most r.offset)
        ∙ or_assoc (past_in most) (is_task_of name r && is_past g r.offset) (list_any (λ x. is_task_of name x && is_past g x.offset) records)

past_behind : (g : Option ℕ) (r : ConfigRecord) → is_past g r.offset ≡ is_behind g r
past_behind None r = refl
past_behind (Some commit) r = refl

-- whether a record is a task's config of a connector, and stands behind its generation
abbrev waits_for : List ConfigRecord → List ℕ → ConfigRecord → Bool
waits_for records name r = is_task_of name r && is_behind (generation_of name records) r

each_behind : (g : Option ℕ) (name : List ℕ) (l : List ConfigRecord) → list_any (λ r. is_task_of name r && is_past g r.offset) l ≡ list_any (λ r. is_task_of name r && is_behind g r) l
each_behind g name [] = refl
each_behind g name (r ∷ l) =
    ap (λ (b : Bool). (is_task_of name r && b) || list_any (λ x. is_task_of name x && is_past g x.offset) l) (past_behind g r)
    ∙ ap (λ (b : Bool). (is_task_of name r && is_behind g r) || b) (each_behind g name l)

waits_any : (name : List ℕ) (records : List ConfigRecord) → waits (set_of name records) ≡ list_any (waits_for records name) records
waits_any name records = any_past (generation_of name records) name None records ∙ each_behind (generation_of name records) name records

-- ---- whether any waits

itself : (name : List ℕ) → bytes_eq name name ≡ true
itself name = (bytes_eq-Decides name name).1 refl

neither : (a b : Bool) → (a || b) ≡ false → (a ≡ false) × (b ≡ false)
neither true b e = cc
neither false b e = (refl, e)

if_here : (a b : Bool) → a ≡ true → (a && b) ≡ false → b ≡ false
if_here true b is e = e
if_here false b is e = cc

both : (a b : Bool) → (a && b) ≡ true → (a ≡ true) × (b ≡ true)
both true b e = (refl, e)
both false b e = cc

or_later : (a b : Bool) → b ≡ true → (a || b) ≡ true
or_later true b e = refl
or_later false b e = e

module _ (behind : List ℕ → Bool) where
  none_here : (o : Option (List ℕ)) → ((name : List ℕ) → (option_map_or (λ connector. bytes_eq connector name) o false && behind name) ≡ false) → option_map_or behind o false ≡ false
  none_here None none = refl
  none_here (Some connector) none = if_here (bytes_eq connector connector) (behind connector) (itself connector) (none connector)

  some_here : (o : Option (List ℕ)) (name : List ℕ) → (option_map_or (λ connector. bytes_eq connector name) o false && behind name) ≡ true → option_map_or behind o false ≡ true
  some_here None name some = cc
  some_here (Some connector) name some =
      let parts = both (bytes_eq connector name) (behind name) some in
      ap behind ((bytes_eq-Decides connector name).0 parts.0) ∙ parts.1

module _ (records : List ConfigRecord) where
  none_waits : (l : List ConfigRecord) → ((name : List ℕ) → list_any (waits_for records name) l ≡ false) → list_any (is_waiting records) l ≡ false
  none_waits [] none = refl
  none_waits (r ∷ l) none =
      let first : is_waiting records r ≡ false = none_here (λ name. is_behind (generation_of name records) r) (connector_of_task r.key)
      (λ name. (neither (waits_for records name r) (list_any (waits_for records name) l) (none name)).0) in
      ap (λ (b : Bool). b || list_any (is_waiting records) l) first
      ∙ none_waits l (λ name. (neither (waits_for records name r) (list_any (waits_for records name) l) (none name)).1)

  some_step : (name : List ℕ) (r : ConfigRecord) (l : List ConfigRecord) → (list_any (waits_for records name) l ≡ true → list_any (is_waiting records) l ≡ true)
      → (b : Bool) → waits_for records name r ≡ b → (b || list_any (waits_for records name) l) ≡ true → list_any (is_waiting records) (r ∷ l) ≡ true
  some_step name r l later true is e =
      ap (λ (t : Bool). t || list_any (is_waiting records) l) (some_here (λ n. is_behind (generation_of n records) r) (connector_of_task r.key) name is)
  some_step name r l later false is e = or_later (is_waiting records r) (list_any (is_waiting records) l) (later e)

  some_waits : (name : List ℕ) (l : List ConfigRecord) → list_any (waits_for records name) l ≡ true → list_any (is_waiting records) l ≡ true
  some_waits name [] some = cc
  some_waits name (r ∷ l) some = some_step name r l (some_waits name l) (waits_for records name r) refl some

  -- no connector is listed just where the place is clean
  clean_keys : (keys : List (List ℕ)) → ((name : List ℕ) → list_any (is_at (name_cmp name)) keys ≡ waits (set_of name records)) → is_clean records ≡ (length keys == 0)
  clean_keys [] listed = ap not (none_waits records (λ name. sym (waits_any name records) ∙ sym (listed name)))
  clean_keys (key ∷ keys) listed =
      let here : list_any (is_at (name_cmp key)) (key ∷ keys) ≡ true =
      ap (λ (b : Bool). b || list_any (is_at (name_cmp key)) keys) (is_eq-slice_cmp key key ∙ itself key) in
      ap not (some_waits key records (sym (waits_any key records) ∙ sym (listed key) ∙ here)) ∙ sym (filled key keys)
    where
      filled : (k : List ℕ) (ks : List (List ℕ)) → (length (k ∷ ks) == 0) ≡ false
      filled k ks = grind (arith, nat_tests)

-- ---- the clean point

range-push : (a n : ℕ) → range_with_len a (suc n) ≡ range_with_len a n ++ (a + n) ∷ []
range-push a zero = let e : a ≡ a + 0 = omega arith in ap (λ (k : ℕ). k ∷ []) e
range-push a (suc n) =
    ap (λ (l : List ℕ). a ∷ l) (range-push (a + 1) n)
    ∙ (let e : a + 1 + n ≡ a + suc n = omega arith in ap (λ (k : ℕ). a ∷ (range_with_len (a + 1) n ++ k ∷ [])) e)

-- the last clean place up to one
abbrev clean_up : List ConfigRecord → ℕ → ℕ → ℕ
clean_up records clean at = cond (is_clean (take at records)) at clean

same_up : (records : List ConfigRecord) (r : ConfigRecord) (n a z : ℕ) → a + n ≤ length records + 1
    → fold (clean_up (records ++ r ∷ [])) z (range_with_len a n) ≡ fold (clean_up records) z (range_with_len a n)
same_up records r zero a z within = refl
same_up records r (suc n) a z within =
    let here : take a (records ++ r ∷ []) ≡ take a records = take-append-le a records (r ∷ []) (omega (arith, within)) in
    ap (λ (l : List ConfigRecord). fold (clean_up (records ++ r ∷ [])) (cond (is_clean l) a z) (range_with_len (a + 1) n)) here
    ∙ same_up records r n (a + 1) (clean_up records z a) (omega (arith, within))

point-push : (records : List ConfigRecord) (r : ConfigRecord) → clean_point (records ++ r ∷ []) ≡ cond (is_clean (records ++ r ∷ [])) (length records + 1) (clean_point records)
point-push records r =
    let whole : List ConfigRecord = records ++ r ∷ [] in
    let long : length whole + 1 ≡ suc (length records + 1) = omega (arith, length-append records (r ∷ [])) in
    let last : 0 + (length records + 1) ≡ length records + 1 = omega arith in
    let all : take (length records + 1) whole ≡ whole = take_all (length records + 1) whole (omega (arith, length-append records (r ∷ []))) in
    ap (λ (n : ℕ). fold (clean_up whole) 0 (range_with_len 0 n)) long
    ∙ ap (fold (clean_up whole) 0) (range-push 0 (length records + 1))
    ∙ fold-append (clean_up whole) 0 (range_with_len 0 (length records + 1)) ((0 + (length records + 1)) ∷ [])
    ∙ ap (λ (z : ℕ). clean_up whole z (0 + (length records + 1))) (same_up records r (length records + 1) 0 0 (omega arith))
    ∙ ap (clean_up whole (clean_point records)) last
    ∙ ap (λ (l : List ConfigRecord). cond (is_clean l) (length records + 1) (clean_point records)) all

pub stepped : (old new mid : Clean) (records : List ConfigRecord) (r : ConfigRecord) → IsClean old records → AreSets mid.sets mid.waiting (records ++ r ∷ [])
    → mid.count ≡ old.count → mid.point ≡ old.point
    → new.sets ≡ mid.sets → new.waiting ≡ mid.waiting → new.count ≡ mid.count + 1 → new.point ≡ cond (length mid.waiting.keys == 0) (mid.count + 1) mid.point
    → IsClean new (records ++ r ∷ [])
stepped old new mid records r before sets count point same_sets same_waiting next there = record {
  sets = subst (λ (s : BTreeMap (List ℕ) TaskSet). AreSets s new.waiting (records ++ r ∷ [])) (sym same_sets)
      (subst (λ (w : BTreeSet (List ℕ)). AreSets mid.sets w (records ++ r ∷ [])) (sym same_waiting) sets);
  count = let known : old.count ≡ length records = before.count in omega (arith, next, count, known, length-append records (r ∷ []));
  point =
      there
      ∙ ap (λ (n : ℕ). cond (length mid.waiting.keys == 0) (n + 1) mid.point) (count ∙ before.count)
      ∙ ap (cond (length mid.waiting.keys == 0) (length records + 1)) (point ∙ before.point)
      ∙ ap (λ (b : Bool). cond b (length records + 1) (clean_point records)) (sym (clean_keys (records ++ r ∷ []) mid.waiting.keys sets.waiting_are))
      ∙ sym (point-push records r);
}
