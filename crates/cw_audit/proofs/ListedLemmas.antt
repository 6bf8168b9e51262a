-- The ids, parts and connectors that a report lists are those that it should.
use Rattle.std.proofs.Common.{◌≡◌, ◌⊎◌, inl, inr, ℕ, ◌+◌, ◌≤◌, Bool, true, false, cond, not, List, [], ◌∷◌, Option, Some, None, IsSome, refl, sym, ap, subst, arith}
use Rattle.std.specs.Option.{option_map, option_or}
use Rattle.std.specs.List.{filter, filter_map, flat_map}
use Rattle.std.proofs.lemmas.List.Sums.{sum_by-cons}
use Rattle.std.proofs.lemmas.Slice.Eq.{bytes_eq-Decides}
use Rattle.cw_types.specs.declared.ids.Tid.{Tid}
use Rattle.cw_types.specs.Text.{tid_text}
use Rattle.cw_types.proofs.SameLemmas.{same_tid-Decides}
use Rattle.cw_keys.specs.Parts.{is_raw, part_text}
use Rattle.cw_keys.specs.declared.config_key.ConfigKey.{ConfigKey}
use Rattle.cw_keys.specs.declared.config_key.ConfigKey.TheVariants as key
use Rattle.cw_config.specs.declared.records.ConfigRecord.{ConfigRecord}
use Rattle.cw_config.specs.Records.{has_key, last_of, same_key}
use Rattle.cw_config.specs.View.{generation_of}
use Rattle.cw_config.proofs.Rising.{last_where-cons}
use Rattle.cw_txn.specs.declared.entry.Entry.{Entry}
use Rattle.cw_txn.specs.declared.entry.Entry.TheVariants.{Bump, Commit, Set}
use Rattle.cw_txn.specs.Legal.{epoch_of, is_bump_of}
use Rattle.cw_audit.specs.Listed.{IsNamedIn, bumped_in, committed_by, committed_in, connectors_in, ids_in, is_owned, parts_in, parts_of}
use Rattle.cw_audit.specs.Rising.{ListsJust}
use Rattle.cw_audit.proofs.Members.{In, in-option, option-in, filter-in, in-filter, in-from_contains, contains-from_in, lists-just}

-- ---- ids

bumps-is : (e : Entry) (tid : Tid) → is_bump_of tid e ≡ true → bumped_in e ≡ Some tid
bumps-is (Bump other) tid holds = ap (λ (t : Tid). Some t) (sym ((same_tid-Decides tid other).0 holds))
bumps-is (Commit tag generation spans) tid never = absurd (cc)
bumps-is (Set other epoch list) tid never = absurd (cc)

is-bumps : (e : Entry) (tid : Tid) → bumped_in e ≡ Some tid → is_bump_of tid e ≡ true
is-bumps (Bump other) tid is = let same : tid ≡ other = (cc) in (same_tid-Decides tid other).1 same
is-bumps (Commit tag generation spans) tid never = absurd (cc)
is-bumps (Set other epoch list) tid never = absurd (cc)

counted : (b : Bool) (n : ℕ) → 1 ≤ cond b 1 0 + n → (b ≡ true) ⊎ (1 ≤ n)
counted true n some = inl refl
counted false n some = inr (omega arith)

counts : (b : Bool) (n : ℕ) → (b ≡ true) ⊎ (1 ≤ n) → 1 ≤ cond b 1 0 + n
counts true n some = omega arith
counts false n (inl never) = absurd (cc)
counts false n (inr some) = omega arith

ids-found : (entries : List Entry) (tid : Tid) → 1 ≤ epoch_of tid entries → In tid (filter_map bumped_in entries)
ids-found [] tid none = absurd (omega arith)
ids-found (e ∷ es) tid some = option-in (bumped_in e) (filter_map bumped_in es) tid
    (elim (counted (is_bump_of tid e) (epoch_of tid es) (subst (λ (n : ℕ). 1 ≤ n) (sum_by-cons (λ (x : Entry). cond (is_bump_of tid x) 1 0) e es) some)) [ inl holds ↦ inl (bumps-is e tid holds) | inr later ↦ inr (ids-found es tid later) ])

found-ids : (entries : List Entry) (tid : Tid) → In tid (filter_map bumped_in entries) → 1 ≤ epoch_of tid entries
found-ids [] tid none = absurd none
found-ids (e ∷ es) tid has = subst (λ (n : ℕ). 1 ≤ n) (sym (sum_by-cons (λ (x : Entry). cond (is_bump_of tid x) 1 0) e es)) (counts (is_bump_of tid e) (epoch_of tid es)
    (elim (in-option (bumped_in e) (filter_map bumped_in es) tid has) [ inl is ↦ inl (is-bumps e tid is) | inr later ↦ inr (found-ids es tid later) ]))

pub ids-listed : (group : List ℕ) (entries : List Entry) → ListsJust (tid_text group) (λ tid. 1 ≤ epoch_of tid entries) (ids_in group entries)
ids-listed group entries = lists-just (tid_text group) (λ tid. 1 ≤ epoch_of tid entries) (filter_map bumped_in entries) (found-ids entries) (ids-found entries)

-- ---- parts

turned : (b : Bool) → not b ≡ true → b ≡ false
turned true never = absurd (cc)
turned false holds = refl

pub parts-listed : (entries : List Entry) → ListsJust part_text (IsNamedIn entries) (parts_in entries)
parts-listed entries = lists-just part_text (IsNamedIn entries) (filter is_owned (flat_map parts_of entries))
    (λ part has. let r = in-filter is_owned (flat_map parts_of entries) part has in (turned (is_raw part) r.0, contains-from_in (flat_map parts_of entries) part r.1))
    (λ part named. filter-in is_owned (flat_map parts_of entries) part (ap not named.0) (in-from_contains (flat_map parts_of entries) part named.1))

-- ---- connectors

key-is : (k : ConfigKey) (name : List ℕ) → same_key k (key.Commit name) ≡ true → committed_by k ≡ Some name
key-is (key.Connector a) name never = absurd (cc)
key-is (key.Task a) name never = absurd (cc)
key-is (key.Commit a) name holds = ap (λ (n : List ℕ). Some n) ((bytes_eq-Decides a name).0 holds)
key-is (key.Target a) name never = absurd (cc)
key-is (key.Fencing a) name never = absurd (cc)

is-key : (k : ConfigKey) (name : List ℕ) → committed_by k ≡ Some name → same_key k (key.Commit name) ≡ true
is-key (key.Connector a) name never = absurd (cc)
is-key (key.Task a) name never = absurd (cc)
is-key (key.Commit a) name is = let same : a ≡ name = (cc) in (bytes_eq-Decides a name).1 same
is-key (key.Target a) name never = absurd (cc)
is-key (key.Fencing a) name never = absurd (cc)

either-some : {A : Type 0} (o : Option A) (b : Bool) (x : A) → IsSome (option_or o (cond b (Some x) None)) → (b ≡ true) ⊎ IsSome o
either-some (Some y) b x some = inr refl
either-some None true x some = inl refl
either-some None false x some = absurd (cc)

some-either : {A : Type 0} (o : Option A) (b : Bool) (x : A) → (b ≡ true) ⊎ IsSome o → IsSome (option_or o (cond b (Some x) None))
some-either (Some y) b x some = refl
some-either None true x some = refl
some-either None false x (inl never) = absurd (cc)
some-either None false x (inr never) = absurd (cc)

mapped : {A B : Type 0} (f : A → B) (o : Option A) → IsSome (option_map f o) → IsSome o
mapped f (Some x) some = refl
mapped f None never = absurd (cc)

maps : {A B : Type 0} (f : A → B) (o : Option A) → IsSome o → IsSome (option_map f o)
maps f (Some x) some = refl
maps f None never = absurd (cc)

commits-found : (records : List ConfigRecord) (name : List ℕ) → IsSome (last_of (key.Commit name) records) → In name (filter_map committed_in records)
commits-found [] name none = absurd (cc)
commits-found (r ∷ rs) name some = option-in (committed_in r) (filter_map committed_in rs) name
    (elim (either-some (last_of (key.Commit name) rs) (has_key (key.Commit name) r) r (subst (λ (o : Option ConfigRecord). IsSome o) (last_where-cons (has_key (key.Commit name)) r rs) some))
    [ inl holds ↦ inl (key-is r.key name holds) | inr later ↦ inr (commits-found rs name later) ])

found-commits : (records : List ConfigRecord) (name : List ℕ) → In name (filter_map committed_in records) → IsSome (last_of (key.Commit name) records)
found-commits [] name none = absurd none
found-commits (r ∷ rs) name has = subst (λ (o : Option ConfigRecord). IsSome o) (sym (last_where-cons (has_key (key.Commit name)) r rs))
    (some-either (last_of (key.Commit name) rs) (has_key (key.Commit name) r) r
    (elim (in-option (committed_in r) (filter_map committed_in rs) name has) [ inl is ↦ inl (is-key r.key name is) | inr later ↦ inr (found-commits rs name later) ]))

pub connectors-listed : (records : List ConfigRecord) → ListsJust (λ (name : List ℕ). name) (λ name. IsSome (generation_of name records)) (connectors_in records)
connectors-listed records = lists-just (λ (name : List ℕ). name) (λ name. IsSome (generation_of name records)) (filter_map committed_in records)
    (λ name has. maps (λ (r : ConfigRecord). r.offset) (last_of (key.Commit name) records) (found-commits records name has))
    (λ name some. commits-found records name (mapped (λ (r : ConfigRecord). r.offset) (last_of (key.Commit name) records) some))
