-- The newest generation of a connector never gets older as the config log grows.
use Rattle.std.proofs.Common.{◌≡◌, ℕ, ◌+◌, ◌<◌, ◌≤◌, ◌++◌, ◌∷◌, [], ◌&&◌, Bool, true, false, not, cond, max, List, Option, Some, None, is_some, option_map, unwrap_or, option_and_then, take, drop, ◌^◌, refl, sym, subst, ap, ◌∙◌, arith, append_assoc}
use Rattle.std.specs.Option.{IsSomeAnd, option_or}
use Rattle.std.specs.List.{AllByRecursion}
use Rattle.std.proofs.lemmas.Slice.Eq.{bytes_eq-Decides}
use Rattle.std.proofs.lemmas.List.{append-nil, take-append-drop}
use Rattle.std.proofs.lemmas.List.Sums.{fold-append}
use Rattle.cw_types.specs.Name.{IsName}
use Rattle.cw_keys.specs.ConfigKeys.{IsConfigKey}
use Rattle.cw_keys.specs.Configs.{IsConfigValue}
use Rattle.cw_keys.specs.declared.config_key.ConfigKey.{ConfigKey}
use Rattle.cw_keys.specs.declared.config_key.ConfigKey.TheVariants.{Connector, Task, Commit, Target, Fencing}
use Rattle.cw_keys.specs.declared.config_value.ConfigValue.{ConfigValue}
use Rattle.cw_keys.specs.declared.config_value.ConfigValue.TheVariants as value
use Rattle.cw_config.proofs.Rising.{last_where-push, last_where-cons}
use Rattle.cw_config.specs.declared.records.ConfigRecord.{ConfigRecord}
use Rattle.cw_config.specs.Records.{same_key, has_key, last_where, last_of, value_of}
use Rattle.cw_config.specs.View.{generation_of, is_pending, is_fenced, count_in}
use Rattle.cw_config.specs.Acceptance.{end_of}
use Rattle.cw_model.specs.ConfigsAllowed.{IsAllowedConfig, AreAllowedConfigs}
use Rattle.cw_laws.proofs.Lists.{each_from-each}
use Rattle.cw_config.proofs.Pushed.{end_of-push}

abbrev offset_in : Option ConfigRecord → Option ℕ
offset_in o = option_map (λ (r : ConfigRecord). r.offset) o

-- a connector's generation is below the log's end
abbrev pub IsBelowEnd : List ℕ → List ConfigRecord → Type 0
IsBelowEnd name records = (n : ℕ) → generation_of name records ≡ Some n → n < end_of records

below-cond : (b : Bool) (r : ConfigRecord) (o : Option ConfigRecord) (e n : ℕ) → (offset_in o ≡ Some n → n < e) → offset_in (cond b (Some r) o) ≡ Some n → n < max e (r.offset + 1)
below-cond true r o e n below is = let same : r.offset ≡ n = cc in omega (arith, same)
below-cond false r o e n below is = omega (arith, below is)

below-push : (name : List ℕ) (before : List ConfigRecord) (r : ConfigRecord) → IsBelowEnd name before → IsBelowEnd name (before ++ r ∷ [])
below-push name before r below n is =
    subst (λ e. n < e) (sym (end_of-push before r))
    (below-cond (has_key (Commit name) r) r (last_of (Commit name) before) (end_of before) n (below n)
    (subst (λ o. offset_in o ≡ Some n) (last_where-push (has_key (Commit name)) before r) is))

grow-cond : (b : Bool) (r : ConfigRecord) (o : Option ConfigRecord) (e g : ℕ) → ((n : ℕ) → offset_in o ≡ Some n → n < e) → e ≤ r.offset →
    IsSomeAnd (offset_in o) (λ n. g ≤ n) → IsSomeAnd (offset_in (cond b (Some r) o)) (λ n. g ≤ n)
grow-cond false r o e g below above is = is
grow-cond true r None e g below above is = absurd is
grow-cond true r (Some x) e g below above is = omega (arith, is, below x.offset refl, above)

grow-push : (name : List ℕ) (before : List ConfigRecord) (r : ConfigRecord) (g : ℕ) → IsBelowEnd name before → end_of before ≤ r.offset →
    IsSomeAnd (generation_of name before) (λ n. g ≤ n) → IsSomeAnd (generation_of name (before ++ r ∷ [])) (λ n. g ≤ n)
grow-push name before r g below above is =
    subst (λ o. IsSomeAnd (offset_in o) (λ n. g ≤ n)) (sym (last_where-push (has_key (Commit name)) before r))
    (grow-cond (has_key (Commit name) r) r (last_of (Commit name) before) (end_of before) g below above is)

generation-grows : (name : List ℕ) (before xs : List ConfigRecord) (g : ℕ) → AreAllowedConfigs before xs → IsBelowEnd name before →
    IsSomeAnd (generation_of name before) (λ n. g ≤ n) → IsSomeAnd (generation_of name (before ++ xs)) (λ n. g ≤ n)
generation-grows name before [] g allowed below is = rw (append-nil before) is
generation-grows name before (r ∷ xs) g allowed below is =
    subst (λ l. IsSomeAnd (generation_of name l) (λ n. g ≤ n)) (append_assoc before (r ∷ []) xs)
    (generation-grows name (before ++ r ∷ []) xs g allowed.1 (below-push name before r below) (grow-push name before r g below allowed.0.rising is))

below-all : (name : List ℕ) (before xs : List ConfigRecord) → AreAllowedConfigs before xs → IsBelowEnd name before → IsBelowEnd name (before ++ xs)
below-all name before [] allowed below = rw (append-nil before) below
below-all name before (r ∷ xs) allowed below =
    subst (λ l. IsBelowEnd name l) (append_assoc before (r ∷ []) xs) (below-all name (before ++ r ∷ []) xs allowed.1 (below-push name before r below))

pub allowed-first : (before xs ys : List ConfigRecord) → AreAllowedConfigs before (xs ++ ys) → AreAllowedConfigs before xs
allowed-first before [] ys allowed = tt
allowed-first before (r ∷ xs) ys allowed = (allowed.0, allowed-first (before ++ r ∷ []) xs ys allowed.1)

pub allowed-rest : (before xs ys : List ConfigRecord) → AreAllowedConfigs before (xs ++ ys) → AreAllowedConfigs (before ++ xs) ys
allowed-rest before [] ys allowed = rw (append-nil before) allowed
allowed-rest before (r ∷ xs) ys allowed = subst (λ l. AreAllowedConfigs l ys) (append_assoc before (r ∷ []) xs) (allowed-rest (before ++ r ∷ []) xs ys allowed.1)

-- no generation that stood in what was read is newer than the newest
pub seen-generation : (name : List ℕ) (prefix g : ℕ) (records : List ConfigRecord) → AreAllowedConfigs [] records →
    IsSomeAnd (generation_of name (take prefix records)) (λ n. g ≤ n) → IsSomeAnd (generation_of name records) (λ n. g ≤ n)
seen-generation name prefix g records allowed is =
    let whole : take prefix records ++ drop prefix records ≡ records = take-append-drop prefix records in
    let split : AreAllowedConfigs [] (take prefix records ++ drop prefix records) = subst (λ l. AreAllowedConfigs [] l) (sym whole) allowed in
    let none : IsBelowEnd name [] = λ n e. absurd (cc) in
    subst (λ l. IsSomeAnd (generation_of name l) (λ n. g ≤ n)) whole
    (generation-grows name (take prefix records) (drop prefix records) g (allowed-rest [] (take prefix records) (drop prefix records) split)
    (below-all name [] (take prefix records) (allowed-first [] (take prefix records) (drop prefix records) split) none) is)

own-generation : (o : Option ℕ) (fenced : Bool) → (is_some o && not fenced) ≡ true → IsSomeAnd o (λ n. unwrap_or o 0 ≤ n)
own-generation None fenced pending = absurd (let never : false ≡ true = pending in cc)
own-generation (Some g) fenced pending = omega arith

pub pending-generation : (name : List ℕ) (records : List ConfigRecord) → is_pending name records ≡ true →
    IsSomeAnd (generation_of name records) (λ n. unwrap_or (generation_of name records) 0 ≤ n)
pending-generation name records pending = own-generation (generation_of name records) (is_fenced name records) pending

-- ---- each record

-- what is so of each record that is allowed
pub each-allowed : (P : ConfigRecord → Type 0) (before xs : List ConfigRecord) → ((before : List ConfigRecord) (r : ConfigRecord) → IsAllowedConfig before r → P r) →
    AreAllowedConfigs before xs → AllByRecursion P xs
each-allowed P before xs so allowed = each_from-each IsAllowedConfig P before xs so allowed

-- what is found last is one of them, and passes
found-here : (P : ConfigRecord → Type 0) (test : ConfigRecord → Bool) (x r : ConfigRecord) (b : Bool) → test x ≡ b → P x → cond b (Some x) None ≡ Some r → P r × (test r ≡ true)
found-here P test x r true passes here found = let same : x ≡ r = cc in (subst P same here, subst (λ z. test z ≡ true) same passes)
found-here P test x r false fails here found = absurd (cc)

found-step : (P : ConfigRecord → Type 0) (test : ConfigRecord → Bool) (x r : ConfigRecord) (o : Option ConfigRecord) → (o ≡ Some r → P r × (test r ≡ true)) → P x →
    option_or o (cond (test x) (Some x) None) ≡ Some r → P r × (test r ≡ true)
found-step P test x r (Some y) behind here found = behind found
found-step P test x r None behind here found = found-here P test x r (test x) refl here found

pub last_where-holds : (P : ConfigRecord → Type 0) (test : ConfigRecord → Bool) (records : List ConfigRecord) (r : ConfigRecord) → AllByRecursion P records →
    last_where test records ≡ Some r → P r × (test r ≡ true)
last_where-holds P test [] r each found = absurd (cc)
last_where-holds P test (x ∷ xs) r each found =
    found-step P test x r (last_where test xs) (last_where-holds P test xs r each.1) each.0 (sym (last_where-cons test x xs) ∙ found)

count-fits : (value : Option ConfigValue) → IsConfigValue value → unwrap_or (option_and_then count_in value) 0 < 2 ^ 32
count-fits None is = omega arith
count-fits (Some (value.Connector props)) is = omega arith
count-fits (Some (value.Task props)) is = omega arith
count-fits (Some (value.Commit n)) is = is.0
count-fits (Some (value.Target target)) is = omega arith
count-fits (Some (value.Fencing n)) is = is.0

-- what is counted of a record that is found fits its field
pub found_count-fits : (test : ConfigRecord → Bool) (records : List ConfigRecord) → AreAllowedConfigs [] records →
    unwrap_or (option_and_then count_in (value_of (last_where test records))) 0 < 2 ^ 32
found_count-fits test records allowed = at (last_where test records) refl where
  at : (o : Option ConfigRecord) → last_where test records ≡ o → unwrap_or (option_and_then count_in (value_of o)) 0 < 2 ^ 32
  at None is = omega arith
  at (Some r) is = count-fits r.value (last_where-holds (λ r. IsConfigValue r.value) test records r
      (each-allowed (λ r. IsConfigValue r.value) [] records (λ before r fits. fits.value) allowed) is).0

-- a record's key is the one that is sought
pub commit_key : (key : ConfigKey) (name : List ℕ) → same_key key (Commit name) ≡ true → key ≡ Commit name
commit_key (Commit a) name same = ap (λ (n : List ℕ). Commit n) ((bytes_eq-Decides a name).0 same)
commit_key (Connector a) name same = absurd (cc)
commit_key (Task a) name same = absurd (cc)
commit_key (Target a) name same = absurd (cc)
commit_key (Fencing a) name same = absurd (cc)

-- a connector with a generation has a name that is one
pub generation-name : (name : List ℕ) (records : List ConfigRecord) (Q : ℕ → Type 0) → AreAllowedConfigs [] records → IsSomeAnd (generation_of name records) Q → IsName name
generation-name name records Q allowed is = at (last_of (Commit name) records) refl is where
  at : (o : Option ConfigRecord) → last_of (Commit name) records ≡ o → IsSomeAnd (offset_in o) Q → IsName name
  at None none is = absurd is
  at (Some r) found is =
      let parts = last_where-holds (λ r. IsConfigKey r.key) (has_key (Commit name)) records r
      (each-allowed (λ r. IsConfigKey r.key) [] records (λ before r fits. fits.key) allowed) found in
      subst IsConfigKey (commit_key r.key name parts.1) parts.0
