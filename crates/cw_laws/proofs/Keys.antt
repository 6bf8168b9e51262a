-- Two keys of the config log that are the same, and the last record of a key in a list.
use Rattle.std.proofs.Common.{◌≡◌, ℕ, ◌==◌, Bool, true, false, ◌&&◌, ◌||◌, cond, List, [], ◌∷◌, ◌++◌, reverse, Option, None, Some, refl, ap, ◌∙◌, arith}
use Rattle.std.proofs.lemmas.Bool.{and_parts}
use Rattle.std.specs.Option.{option_or, is_some}
use Rattle.std.specs.List.{find, list_any}
use Rattle.std.specs.Str.{bytes_eq}
use Rattle.std.proofs.lemmas.Bool.Decides.{nat_tests}
use Rattle.std.proofs.lemmas.List.{reverse-append}
use Rattle.std.proofs.lemmas.List.Folds.{find-append}
use Rattle.std.proofs.lemmas.Slice.Eq.{bytes_eq-Decides}
use Rattle.cw_types.specs.declared.ids.TaskId.{TaskId}
use Rattle.cw_keys.specs.declared.config_key.ConfigKey.{ConfigKey}
use Rattle.cw_keys.specs.declared.config_key.ConfigKey.TheVariants.{Connector, Task, Commit, Target, Fencing}
use Rattle.cw_config.specs.declared.records.ConfigRecord.{ConfigRecord}
use Rattle.cw_config.specs.Records.{same_key, last_where}
use Rattle.cw_config.proofs.Rising.{last_where-cons}
use Rattle.cw_plugin.proofs.ShareLemmas.{bytes_same}

same_number : (a b : ℕ) → (a == b) ≡ true → a ≡ b
same_number a b e = grind (arith, nat_tests)

itself_number : (a : ℕ) → (a == a) ≡ true
itself_number a = grind (arith, nat_tests)

same_task : (a b : TaskId) → (bytes_eq a.connector b.connector && (a.index == b.index)) ≡ true → a ≡ b
same_task a b e =
    let two : (bytes_eq a.connector b.connector ≡ true) × ((a.index == b.index) ≡ true) = and_parts (bytes_eq a.connector b.connector) (a.index == b.index) e in
    let connector : a.connector ≡ b.connector = (bytes_eq-Decides a.connector b.connector).0 two.0 in
    let index : a.index ≡ b.index = same_number a.index b.index two.1 in
    λ i. record { connector = connector i; index = index i }

pub same_key-is : (a b : ConfigKey) → same_key a b ≡ true → a ≡ b
same_key-is (Connector a) (Connector b) e = ap Connector ((bytes_eq-Decides a b).0 e)
same_key-is (Task a) (Task b) e = ap Task (same_task a b e)
same_key-is (Commit a) (Commit b) e = ap Commit ((bytes_eq-Decides a b).0 e)
same_key-is (Target a) (Target b) e = ap Target ((bytes_eq-Decides a b).0 e)
same_key-is (Fencing a) (Fencing b) e = ap Fencing ((bytes_eq-Decides a b).0 e)
same_key-is a b e = absurd (cc)

pub same_key-itself : (a : ConfigKey) → same_key a a ≡ true
same_key-itself (Connector a) = bytes_same a
same_key-itself (Task a) = ap (λ (b : Bool). b && (a.index == a.index)) (bytes_same a.connector) ∙ itself_number a.index
same_key-itself (Commit a) = bytes_same a
same_key-itself (Target a) = bytes_same a
same_key-itself (Fencing a) = bytes_same a

pub last_where-append : (test : ConfigRecord → Bool) (xs ys : List ConfigRecord) → last_where test (xs ++ ys) ≡ option_or (last_where test ys) (last_where test xs)
last_where-append test xs ys = ap (find test) (reverse-append xs ys) ∙ find-append test (reverse ys) (reverse xs)

found : (o : Option ConfigRecord) (b : Bool) (r : ConfigRecord) → is_some (option_or o (cond b (Some r) None)) ≡ (b || is_some o)
found None true r = refl
found None false r = refl
found (Some x) true r = refl
found (Some x) false r = refl

-- there is a last one just where one passes
pub some_last : (test : ConfigRecord → Bool) (xs : List ConfigRecord) → is_some (last_where test xs) ≡ list_any test xs
some_last test [] = refl
some_last test (x ∷ xs) = ap is_some (last_where-cons test x xs) ∙ found (last_where test xs) (test x) x ∙ ap (λ (b : Bool). test x || b) (some_last test xs)

none_is : (o : Option ConfigRecord) → is_some o ≡ false → o ≡ None
none_is None e = refl
none_is (Some x) e = absurd (cc)

-- none passes, so there is no last one
pub no_last : (test : ConfigRecord → Bool) (xs : List ConfigRecord) → list_any test xs ≡ false → last_where test xs ≡ None
no_last test xs e = none_is (last_where test xs) (some_last test xs ∙ e)
