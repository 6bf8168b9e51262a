-- Names and tasks in keys, both ways.
use Rattle.std.proofs.Common.{append_assoc, ◌≡◌, ℕ, suc, ◌+◌, ◌-◌, ◌^◌, ◌<◌, ◌≤◌, List, [], ◌∷◌, ◌++◌, length, get_or, take, drop, take-append-drop, nat_eq, Bool, ◌&&◌, true, false, cond, Option, Some, None, option_map, codes, decimal, drop-cons, add-one, length-drop, get_or-drop, refl, sym, ap, subst, ◌∙◌, arith}
use Rattle.std.specs.List.{starts_with}
use Rattle.std.specs.Cmp.Lexicographic.{bytes_decides}
use Rattle.std.proofs.lemmas.List.{take_all}
use Rattle.std.proofs.lemmas.Option.{option_and_then_some, same_Some}
use Rattle.std.proofs.lemmas.Bool.Decides.{nat_tests}
use Rattle.cw_types.specs.Name.{name_fault, unless_fault, name_of, IsName}
use Rattle.cw_types.specs.Task.{task_of_parts}
use Rattle.cw_types.specs.Decimal.{number_of}
use Rattle.std.specs.Char.{is_ascii_digit}
use Rattle.std.specs.List.{list_all}
use Rattle.std.proofs.lemmas.Fmt.{digits_decimal}
use Rattle.cw_types.proofs.Decimals.{own, number_only, number_again}
use Rattle.cw_types.specs.declared.ids.TaskId.{TaskId}
use Rattle.cw_types.specs.declared.name.NameFault.{NameFault}
use Rattle.cw_keys.specs.Names.{before_cut, cut_last, task_of, task_text, IsTask}

-- a text that starts so is that start and the rest
pub start : (bytes needle : List ℕ) → starts_with nat_eq bytes needle ≡ true → bytes ≡ needle ++ drop (length needle) bytes
start bytes needle e =
    let same : needle ≡ take (length needle) bytes = (bytes_decides needle (take (length needle) bytes)).0 e in
    sym (take-append-drop (length needle) bytes) ∙ ap (λ front. front ++ drop (length needle) bytes) (sym same)

name_of_fault : (bytes name : List ℕ) (fault : Option NameFault) → unless_fault bytes fault ≡ Some name → (bytes ≡ name) × (fault ≡ None)
name_of_fault bytes name None e = (same_Some _ _ e, refl)
name_of_fault bytes name (Some fault) e = cc

pub name_only : (bytes name : List ℕ) → name_of bytes ≡ Some name → (bytes ≡ name) × IsName name
name_only bytes name e =
    let parts = name_of_fault bytes name (name_fault bytes) e in
    (parts.0, subst IsName parts.0 parts.1)

pub name_again : (name : List ℕ) → IsName name → name_of name ≡ Some name
name_again name h = ap (unless_fault name) h

-- no byte is a dash
abbrev pub HasNoDash : List ℕ → Type 0
HasNoDash [] = Unit {0}
HasNoDash (c ∷ cs) = (nat_eq c 45 ≡ false) × HasNoDash cs

pub cut_none : (cs : List ℕ) → HasNoDash cs → cut_last cs ≡ None
cut_none [] h = refl
cut_none (c ∷ cs) h = rw (cut_none cs h.1, h.0) refl

pub cut_again : (front back : List ℕ) → HasNoDash back → cut_last (front ++ 45 ∷ back) ≡ Some (front, back)
cut_again [] back h = rw (cut_none back h) refl
cut_again (c ∷ front) back h = rw (cut_again front back h) refl

before_cut_only : (c : ℕ) (cs front back : List ℕ) (o : Option (List ℕ × List ℕ)) → ((a b : List ℕ) → o ≡ Some (a, b) → cs ≡ a ++ 45 ∷ b) → before_cut c cs o ≡ Some (front, back) → c ∷ cs ≡ front ++ 45 ∷ back
before_cut_only c cs front back (Some parts) inner e =
    let is : (c ∷ parts.0, parts.1) ≡ (front, back) = same_Some _ _ e in
    ap (λ tail. c ∷ tail) (inner parts.0 parts.1 refl) ∙ ap (λ (p : List ℕ × List ℕ). p.0 ++ 45 ∷ p.1) is
before_cut_only c cs front back None inner e = at_dash (nat_eq c 45) refl e
  where
    at_dash : (b : Bool) → nat_eq c 45 ≡ b → cond {A = Option (List ℕ × List ℕ)} b (Some ([], cs)) None ≡ Some (front, back) → c ∷ cs ≡ front ++ 45 ∷ back
    at_dash true same e =
        let dash : c ≡ 45 = grind (arith, nat_tests, same) in
        let is : ([], cs) ≡ (front, back) = same_Some _ _ e in
        ap (λ d. d ∷ cs) dash ∙ ap (λ (p : List ℕ × List ℕ). p.0 ++ 45 ∷ p.1) is
    at_dash false same e = cc

pub cut_only : (bytes front back : List ℕ) → cut_last bytes ≡ Some (front, back) → bytes ≡ front ++ 45 ∷ back
cut_only [] front back e = cc
cut_only (c ∷ cs) front back e = before_cut_only c cs front back (cut_last cs) (λ a b h. cut_only cs a b h) e

not_true : (b : Bool) → (b ≡ true → ⊥) → b ≡ false
not_true true h = absurd (h refl)
not_true false h = refl

no_dash_from : (cs : List ℕ) → ((j : ℕ) → j < length cs → nat_eq (get_or cs j 0) 45 ≡ true → ⊥) → HasNoDash cs
no_dash_from [] h = tt
no_dash_from (c ∷ cs) h = (not_true _ (h 0 (omega arith)), no_dash_from cs (λ j within. h (suc j) (omega arith)))

-- where the last dash stands at k, the parts are those before and behind it
pub cut_at : (bytes : List ℕ) (k : ℕ) → k < length bytes → nat_eq (get_or bytes k 0) 45 ≡ true → ((j : ℕ) → k + 1 ≤ j → j < length bytes → nat_eq (get_or bytes j 0) 45 ≡ true → ⊥)
    → cut_last bytes ≡ Some (take k bytes, drop (k + 1) bytes)
cut_at bytes k within dash after =
    let c : get_or bytes k 0 ≡ 45 = grind (arith, nat_tests, dash) in
    let cells : drop k bytes ≡ 45 ∷ drop (k + 1) bytes = rw (drop-cons bytes k 0, add-one, c) refl in
    let parts : bytes ≡ take k bytes ++ 45 ∷ drop (k + 1) bytes = sym (take-append-drop k bytes) ∙ ap (λ back. take k bytes ++ back) cells in
    let none : HasNoDash (drop (k + 1) bytes) = no_dash_from (drop (k + 1) bytes) (λ j inside same.
    let low : k + 1 ≤ k + 1 + j = omega arith in
    let high : k + 1 + j < length bytes = omega (arith, length-drop (k + 1) bytes) in
    after (k + 1 + j) low high (rw get_or-drop at same)) in
    ap cut_last parts ∙ cut_again (take k bytes) (drop (k + 1) bytes) none

pub cut_nowhere : (bytes : List ℕ) → ((j : ℕ) → 0 ≤ j → j < length bytes → nat_eq (get_or bytes j 0) 45 ≡ true → ⊥) → None ≡ cut_last bytes
cut_nowhere bytes h = sym (cut_none bytes (no_dash_from bytes (λ j inside. h j (omega arith) inside)))

digit_no_dash : (c : ℕ) → is_ascii_digit c ≡ true → nat_eq c 45 ≡ false
digit_no_dash c digit = grind (arith, nat_tests)

both : (a b : Bool) → (a && b) ≡ true → (a ≡ true) × (b ≡ true)
both true b e = (refl, e)
both false b e = cc

digits_no_dash : (cs : List ℕ) → list_all is_ascii_digit cs ≡ true → HasNoDash cs
digits_no_dash [] h = tt
digits_no_dash (c ∷ cs) h = let parts : (is_ascii_digit c ≡ true) × (list_all is_ascii_digit cs ≡ true) = both _ _ h in (digit_no_dash c parts.0, digits_no_dash cs parts.1)

pub decimal_no_dash : (n : ℕ) → n < 2 ^ 64 → HasNoDash (decimal n)
decimal_no_dash n h = digits_no_dash (decimal n) (digits_decimal own n h)

pub task_again : (id : TaskId) → IsTask id → task_of (task_text id) ≡ Some id
task_again id task =
    let small : id.index < 2 ^ 32 = task.1 in
    rw (append_assoc id.connector (codes "-") (decimal id.index)) (rw (cut_again id.connector (decimal id.index) (decimal_no_dash id.index (omega arith)), name_again id.connector task.0, number_again (2 ^ 32 - 1) id.index (omega arith) (omega arith)) refl)

task_id_only : (id : TaskId) (name : Option (List ℕ)) (index : Option ℕ) → task_of_parts name index ≡ Some id → (name ≡ Some id.connector) × (index ≡ Some id.index)
task_id_only id None index e = cc
task_id_only id (Some name) None e = cc
task_id_only id (Some name) (Some index) e = let same : record { connector = name; index = index } ≡ id = same_Some _ _ e in (ap (λ (i : TaskId). Some i.connector) same, ap (λ (i : TaskId). Some i.index) same)

pub task_only : (id : TaskId) (bytes : List ℕ) → task_of bytes ≡ Some id → (bytes ≡ task_text id) × IsTask id
task_only id bytes e = option_and_then_some _ (cut_last bytes) id e (λ parts cut found.
    let each = task_id_only id (name_of parts.0) (number_of (2 ^ 32 - 1) parts.1) found in
    let name = name_only parts.0 id.connector each.0 in
    let index = number_only (2 ^ 32 - 1) id.index parts.1 (omega arith) each.1 in
    (cut_only bytes parts.0 parts.1 cut ∙ ap (λ front. front ++ 45 ∷ parts.1) name.0 ∙ ap (λ back. id.connector ++ 45 ∷ back) index.0 ∙ sym (append_assoc id.connector (codes "-") (decimal id.index)), (name.1, omega (arith, index.1))))

pub mapped : {A B : Type 0} (f : A → B) (o : Option A) (y : B) → option_map f o ≡ Some y → (x : A) × (o ≡ Some x) × (f x ≡ y)
mapped f None y e = cc
mapped f (Some x) y e = (x, refl, same_Some _ _ e)

pub chosen : {A : Type 0} (b : Bool) (x y : Option A) (z : A) (P : Type 0) → cond b x y ≡ Some z → (b ≡ true → x ≡ Some z → P) → (y ≡ Some z → P) → P
chosen true x y z P e here there = here refl e
chosen false x y z P e here there = there e

-- the front of a list, by the lengths that code gives
pub cut_at_lengths : (bytes : List ℕ) (k : ℕ) → k < length bytes → nat_eq (get_or bytes k 0) 45 ≡ true → ((j : ℕ) → k + 1 ≤ j → j < length bytes → nat_eq (get_or bytes j 0) 45 ≡ true → ⊥)
    → Some (take k bytes, take (length bytes - (k + 1)) (drop (k + 1) bytes)) ≡ cut_last bytes
cut_at_lengths bytes k within dash after =
    let whole : take (length bytes - (k + 1)) (drop (k + 1) bytes) ≡ drop (k + 1) bytes = take_all _ _ (omega (arith, length-drop (k + 1) bytes)) in
    ap (λ (back : List ℕ). Some (take k bytes, back)) whole ∙ sym (cut_at bytes k within dash after)
